use Rattle.std.proofs.Common.{arith}
use Rattle.tests_turn.proofs.Laters.{later_itself, later_then}
use Rattle.tests_turn.proofs.work.work.Goals as goal

pub loop-number-init : goal.loop-number-init
loop-number-init g c = (later_itself c.args.seat c.requires.free, omega arith)

pub loop-number-preserved : goal.loop-number-preserved
loop-number-preserved g c =
    let most = c.loop-number.invariant.1 in
    let one = c.add_one-added.ensures.added in
    (later_then _ _ _ _ _ c.loop-number.invariant.0 c.add_one-added.ensures.seat, omega (arith, most, one))
