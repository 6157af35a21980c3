use Rattle.std.proofs.Common.{◌≡◌, ◌-◌, ◌<◌, suc, length, map, take, refl, sym, ap, ◌∙◌, subst, arith}
use Rattle.std.proofs.lemmas.Option.{slice_get_read}
use Rattle.hv_ids.specs.Ids.{table_of}
use Rattle.hv_links.specs.Links.{before_of}
use Rattle.hv_meta.specs.hv_book.specs.Past.{total}
use Rattle.hv_meta.specs.hv_book.proofs.IdLaws.{total-append}
use Rattle.hv_earlier.specs.Places.{ended_exceptions, weight_from}
use Rattle.hv_earlier.proofs.WalkLaws.{IsStop, stop-start, stop-step}
use Rattle.hv_earlier.proofs.ExceptionLaws.{ended-start, ended-step, ended-none}
use Rattle.hv_earlier.proofs.exceptions.put_ended.Goals as goal

pub loop-number-init : goal.loop-number-init
loop-number-init c =
    let ids = c.args.ids.now.ids in (
      (λ weight.
          let start = ended-start c.args.notes.now c.args.forgotten.now c.args.spot c.args.from weight ids in
          let same = ap (λ n. total (weight_from c.args.notes.now c.args.forgotten.now c.args.spot c.args.from weight) (take n ids)) c.last-number.ensures.last in
          omega (arith, start, same)),
      c.last-number.ensures.bound,
      subst (IsStop c.args.spot.table ids) (sym c.last-number.ensures.last) (stop-start c.args.spot.table ids),
    )

pub returns-then-ended-from : goal.returns-then-ended-from
returns-then-ended-from c =
    let ids = c.args.ids.now.ids in
    let number = c.loop-number.number in
    let at = number - 1 in
    let next : number ≡ suc at = omega (arith, c.loop-number-test.true) in
    let within = c.loop-number.invariant.1 in
    let got = slice_get_read ids (length ids) at c.numbered-ended.result refl (omega (arith, next, within)) c.numbered-ended.ensures.id in
    let some : 0 < c.args.from = omega (arith, c.if-ended-from.true) in
    record {
      put = λ weight.
          let none = ended-none c.args.notes.now c.args.forgotten.now c.args.spot c.args.from weight ids at c.numbered-ended.result (c.requires.rising some) got c.if-ended-from.true in
          let same = ap (λ n. total (weight_from c.args.notes.now c.args.forgotten.now c.args.spot c.args.from weight) (take n ids)) next in
          omega (arith, c.loop-number.invariant.0 weight, none, same);
    }

pub loop-number-preserved : goal.loop-number-preserved
loop-number-preserved c =
    let ids = c.args.ids.now.ids in
    let number = c.loop-number.number in
    let at = number - 1 in
    let next : number ≡ suc at = omega (arith, c.loop-number-test.true) in
    let within = c.loop-number.invariant.1 in
    let got = slice_get_read ids (length ids) at c.numbered-ended.result refl (omega (arith, next, within)) c.numbered-ended.ensures.id in
    let is = c.loop-number.invariant.2 at c.numbered-ended.result next got in
    let before = c.before-number.ensures.before ∙ ap (λ n. before_of n (map table_of ids)) next in
    let less = c.before-number.ensures.less (omega (arith, next)) in (
      (λ weight.
          let step = ended-step c.args.notes.now c.args.forgotten.now c.args.spot c.args.from weight ids at c.numbered-ended.result got is c.if-ended-from.false in
          let same = ap (λ n. total (weight_from c.args.notes.now c.args.forgotten.now c.args.spot c.args.from weight) (take n ids)) next in
          let back = ap (λ n. total (weight_from c.args.notes.now c.args.forgotten.now c.args.spot c.args.from weight) (take n ids)) before in
          let put = ap (total weight) c.in_ok-put_ended_one.ensures in
          let split = total-append weight c.loop-number.exceptions.items (ended_exceptions c.args.notes.now c.args.forgotten.now c.args.spot c.numbered-ended.result) in
          omega (arith, c.loop-number.invariant.0 weight, step, same, back, put, split)),
      omega (arith, within, less),
      subst (IsStop c.args.spot.table ids) (sym before) (stop-step c.args.spot.table ids at c.numbered-ended.result got is),
    )
