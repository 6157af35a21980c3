use Rattle.std.proofs.Common.{arith, ap, length}
use Rattle.hv_program.proofs.HeldLists.{found-at, left-at}
use Rattle.hv_program.proofs.held.let_go.Goals as goal

pub returns-then-eq-clause-found : goal.returns-then-eq-clause-found
returns-then-eq-clause-found c =
    found-at c.args.session.now c.loop-place.held.items _ c.loop-place.place c.index.result.now c.remove.result
    (omega (arith, c.loop-place-test.true, c.len-place-end.ensures, c.args.held.now.ok.0, ap length c.loop-place.invariant.1.1)) c.index.ensures c.remove.ensures.value c.if-eq.ensures
    c.loop-place.invariant.0

pub returns-then-eq-clause-left : goal.returns-then-eq-clause-left
returns-then-eq-clause-left c =
    left-at c.args.session.now c.loop-place.held.items _ _ c.loop-place.place c.index.result.now c.remove.result
    (omega (arith, c.loop-place-test.true, c.len-place-end.ensures, c.args.held.now.ok.0, ap length c.loop-place.invariant.1.1)) c.index.ensures c.remove.ensures.value c.if-eq.ensures
    c.loop-place.invariant.1.0 c.remove.ensures.by_index.2
