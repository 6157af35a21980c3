use Rattle.std.proofs.Common.{◌≡◌, ◌-◌, suc, length, map, take, refl, sym, ap, ◌∙◌, subst, arith}
use Rattle.std.proofs.lemmas.Option.{slice_get_read}
use Rattle.hv_ids.specs.Ids.{table_of}
use Rattle.hv_links.specs.Links.{before_of}
use Rattle.hv_book.specs.Past.{total}
use Rattle.hv_book.proofs.IdLaws.{total-append}
use Rattle.hv_earlier.proofs.WalkLaws.{IsStop, stop-start, stop-step}
use Rattle.hv_counts.specs.Places.{dues_then, dues_weight}
use Rattle.hv_counts.proofs.DueLaws.{back-start, back-step}
use Rattle.hv_counts.proofs.dues.push_ended.Goals as goal

pub loop-number-init : goal.loop-number-init
loop-number-init c =
    let ids = c.args.ids.now.ids in
    let entries = c.args.book.now.entries in
    let spot = c.args.spot in (
      (λ weight.
          let start = back-start entries spot weight ids in
          let same = ap (λ n. total (dues_weight entries spot weight) (take n ids)) c.last-number.ensures.last in
          omega (arith, start, same)),
      c.last-number.ensures.bound,
      subst (IsStop spot.table ids) (sym c.last-number.ensures.last) (stop-start spot.table ids),
    )

pub loop-number-preserved : goal.loop-number-preserved
loop-number-preserved c =
    let ids = c.args.ids.now.ids in
    let entries = c.args.book.now.entries in
    let spot = c.args.spot in
    let number = c.loop-number.number in
    let at = number - 1 in
    let next : number ≡ suc at = omega (arith, c.loop-number-test.true) in
    let within = c.loop-number.invariant.1 in
    let got = slice_get_read ids (length ids) at c.numbered.result refl (omega (arith, next, within)) c.numbered.ensures.id in
    let is = c.loop-number.invariant.2 at c.numbered.result next got in
    let before = c.before-number.ensures.before ∙ ap (λ n. before_of n (map table_of ids)) next in
    let less = c.before-number.ensures.less (omega (arith, next)) in (
      (λ weight.
          let step = back-step entries spot weight ids at c.numbered.result got is in
          let same = ap (λ n. total (dues_weight entries spot weight) (take n ids)) next in
          let back = ap (λ n. total (dues_weight entries spot weight) (take n ids)) before in
          let put = ap (total weight) c.in_ok-push_id.ensures in
          let split = total-append weight c.loop-number.dues.items (dues_then entries spot c.numbered.result.id) in
          omega (arith, c.loop-number.invariant.0 weight, step, same, back, put, split)),
      omega (arith, within, less),
      subst (IsStop spot.table ids) (sym before) (stop-step spot.table ids at c.numbered.result got is),
    )
