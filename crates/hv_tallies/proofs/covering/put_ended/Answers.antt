use Rattle.std.proofs.Common.{◌≡◌, ◌-◌, suc, length, map, take, refl, sym, ap, ◌∙◌, subst, arith}
use Rattle.std.proofs.lemmas.Option.{slice_get_read}
use Rattle.hv_jobs.specs.hv_history.specs.State.{state_of}
use Rattle.hv_ids.specs.Ids.{table_of}
use Rattle.hv_links.specs.Links.{before_of}
use Rattle.hv_earlier.specs.hv_meta.specs.hv_book.specs.Past.{total, ended_weight}
use Rattle.hv_earlier.proofs.WalkLaws.{IsStop, stop-start, stop-step}
use Rattle.hv_tallies.specs.Covered.{names_at, names_weight}
use Rattle.hv_tallies.proofs.CoveredLemmas.{put-total, back-start, back-step}
use Rattle.hv_tallies.proofs.covering.put_ended.Goals as goal

pub loop-number-init : goal.loop-number-init
loop-number-init c =
    let ids = c.args.ids.now.ids in
    let state = state_of c.args.book.now.entries in
    let table = c.args.table in (
      (λ weight.
          let w = names_weight state table c.args.partition.now c.args.note.now weight in
          let start = back-start state table c.args.partition.now c.args.note.now weight ids in
          let same = ap (λ n. total (ended_weight table w) (take n ids)) c.last-number.ensures.last in
          omega (arith, start, same)),
      c.last-number.ensures.bound,
      subst (IsStop table ids) (sym c.last-number.ensures.last) (stop-start table ids),
    )

pub loop-number-preserved : goal.loop-number-preserved
loop-number-preserved c =
    let ids = c.args.ids.now.ids in
    let state = state_of c.args.book.now.entries in
    let table = c.args.table in
    let number = c.loop-number.number in
    let at = number - 1 in
    let next : number ≡ suc at = omega (arith, c.loop-number-test.true) in
    let within = c.loop-number.invariant.1 in
    let got = slice_get_read ids (length ids) at c.numbered.result refl (omega (arith, next, within)) c.numbered.ensures.id in
    let is = c.loop-number.invariant.2 at c.numbered.result next got in
    let before = c.before-number.ensures.before ∙ ap (λ n. before_of n (map table_of ids)) next in
    let less = c.before-number.ensures.less (omega (arith, next)) in (
      (λ weight.
          let w = names_weight state table c.args.partition.now c.args.note.now weight in
          let step = back-step state table c.args.partition.now c.args.note.now weight ids at c.numbered.result got is in
          let same = ap (λ n. total (ended_weight table w) (take n ids)) next in
          let back = ap (λ n. total (ended_weight table w) (take n ids)) before in
          let put = put-total weight c.loop-number.names.items _ (names_at state table c.args.partition.now c.args.note.now c.numbered.result.id) c.in_ok-put_id.ensures in
          omega (arith, c.loop-number.invariant.0 weight, step, same, back, put)),
      omega (arith, within, less),
      subst (IsStop table ids) (sym before) (stop-step table ids at c.numbered.result got is),
    )
