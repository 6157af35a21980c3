use Rattle.std.proofs.Common.{◌≡◌, ◌-◌, suc, length, map, take, refl, sym, ap, ◌∙◌, subst, arith}
use Rattle.std.proofs.lemmas.Option.{slice_get_read}
use Rattle.hv_queue.specs.hv_history.specs.State.{state_of}
use Rattle.hv_ids.specs.Ids.{table_of}
use Rattle.hv_links.specs.Links.{before_of}
use Rattle.hv_queue.specs.hv_tallies.specs.hv_earlier.specs.hv_meta.specs.hv_book.specs.Past.{total, only_if, ended_weight}
use Rattle.hv_queue.specs.hv_tallies.specs.hv_earlier.proofs.WalkLaws.{IsStop, stop-start, stop-step, walk-start, walk-step}
use Rattle.hv_queue.specs.hv_tallies.proofs.WalkLemmas.{other-none, own-weight}
use Rattle.hv_job_fits.specs.Notes.{lost_weight}
use Rattle.hv_job_fits.proofs.LostLemmas.{some-total, none-total}
use Rattle.hv_job_fits.proofs.lost.is_ended_lost.Goals as goal

pub loop-number-init : goal.loop-number-init
loop-number-init c =
    let ids = c.args.ids.now.ids in
    let weight = lost_weight (state_of c.args.book.now.entries).transactions c.args.write in (
      ap (λ n. total (ended_weight c.args.table weight) (take n ids)) c.last-number.ensures.last
          ∙ walk-start (ended_weight c.args.table weight) c.args.table (other-none c.args.table weight) ids,
      c.last-number.ensures.bound,
      subst (IsStop c.args.table ids) (sym c.last-number.ensures.last) (stop-start c.args.table ids),
    )

pub returns-then-lost : goal.returns-then-lost
returns-then-lost c =
    let ids = c.args.ids.now.ids in
    let weight = lost_weight (state_of c.args.book.now.entries).transactions c.args.write in
    let f = ended_weight c.args.table weight in
    let number = c.loop-number.number in
    let at = number - 1 in
    let x = c.numbered.result in
    let next : number ≡ suc at = omega (arith, c.loop-number-test.true) in
    let within = c.loop-number.invariant.1 in
    let got = slice_get_read ids (length ids) at x refl (omega (arith, next, within)) c.numbered.ensures.id in
    let is = c.loop-number.invariant.2 at x next got in
    let step = walk-step f c.args.table (other-none c.args.table weight) ids at x got is in
    let same = ap (λ n. total f (take n ids)) next in
    let own : f x ≡ 1 = own-weight c.args.table weight x is ∙ ap (λ b. only_if b 1) (sym c.is_lost-lost.ensures ∙ c.if-lost.true) in
    let whole = c.loop-number.invariant.0 in
    some-total (total f ids) (omega (arith, step, same, own, whole))

pub loop-number-preserved : goal.loop-number-preserved
loop-number-preserved c =
    let ids = c.args.ids.now.ids in
    let weight = lost_weight (state_of c.args.book.now.entries).transactions c.args.write in
    let f = ended_weight c.args.table weight in
    let number = c.loop-number.number in
    let at = number - 1 in
    let x = c.numbered.result in
    let next : number ≡ suc at = omega (arith, c.loop-number-test.true) in
    let within = c.loop-number.invariant.1 in
    let got = slice_get_read ids (length ids) at x refl (omega (arith, next, within)) c.numbered.ensures.id in
    let is = c.loop-number.invariant.2 at x next got in
    let step = walk-step f c.args.table (other-none c.args.table weight) ids at x got is in
    let same = ap (λ n. total f (take n ids)) next in
    let own : f x ≡ 0 = own-weight c.args.table weight x is ∙ ap (λ b. only_if b 1) (sym c.is_lost-lost.ensures ∙ c.if-lost.false) in
    let whole = c.loop-number.invariant.0 in
    let before = c.before-number.ensures.before ∙ ap (λ n. before_of n (map table_of ids)) next in
    let less = c.before-number.ensures.less (omega (arith, next)) in
    let back = ap (λ n. total f (take n ids)) before in (
      omega (arith, step, same, own, whole, back),
      omega (arith, within, less),
      subst (IsStop c.args.table ids) (sym before) (stop-step c.args.table ids at x got is),
    )

pub returns : goal.returns
returns c =
    let ids = c.args.ids.now.ids in
    let weight = lost_weight (state_of c.args.book.now.entries).transactions c.args.write in
    let f = ended_weight c.args.table weight in
    let none : c.loop-number.number ≡ 0 = omega (arith, c.loop-number-test.false) in
    let front : total f (take c.loop-number.number ids) ≡ 0 = ap (λ n. total f (take n ids)) none in
    none-total (total f ids) (sym c.loop-number.invariant.0 ∙ front)
