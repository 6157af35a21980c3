use Rattle.std.proofs.Common.{◌≡◌, ◌-◌, suc, length, map, refl, ap, ◌∙◌, subst, arith}
use Rattle.std.proofs.lemmas.Option.{slice_get_read}
use Rattle.hv_jobs.specs.hv_history.specs.State.{state_of}
use Rattle.hv_ids.specs.Ids.{table_of}
use Rattle.hv_links.specs.Links.{before_of}
use Rattle.hv_tallies.specs.Tallies.{visited}
use Rattle.hv_tallies.proofs.WalkLemmas.{IsWalking, walk-begins, walk-goes, walk-ends}
use Rattle.hv_tallies.proofs.walking.walk_ended.Goals as goal

pub loop-number-init : goal.loop-number-init
loop-number-init c =
    walk-begins (visited (state_of c.args.book.now.entries) c.args.table c.args.partition.now c.args.reach) c.args.table c.args.ids.now.ids c.last-number.result c.args.tally
    c.last-number.ensures.last c.last-number.ensures.bound

pub loop-number-preserved : goal.loop-number-preserved
loop-number-preserved c =
    let ids = c.args.ids.now.ids in
    let number = c.loop-number.number in
    let at = number - 1 in
    let visit = visited (state_of c.args.book.now.entries) c.args.table c.args.partition.now c.args.reach in
    let next : number ≡ suc at = omega (arith, c.loop-number-test.true) in
    let walking = subst (λ n. IsWalking visit c.args.table ids n c.args.tally c.loop-number.sum) next c.loop-number.invariant in
    let within = walking.within in
    let got = slice_get_read ids (length ids) at c.numbered.result refl (omega (arith, next, within)) c.numbered.ensures.id in
    let less = c.before-number.ensures.less (omega (arith, next)) in
    walk-goes visit c.args.table ids at c.before-number.result c.numbered.result c.args.tally c.loop-number.sum c.visit-sum.result walking got
    (c.before-number.ensures.before ∙ ap (λ n. before_of n (map table_of ids)) next) (omega (arith, next, less)) c.visit-sum.ensures

pub returns : goal.returns
returns c =
    walk-ends (visited (state_of c.args.book.now.entries) c.args.table c.args.partition.now c.args.reach) c.args.table c.args.ids.now.ids c.loop-number.number c.args.tally c.loop-number.sum
    c.loop-number.invariant (omega (arith, c.loop-number-test.false))
