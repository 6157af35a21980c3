use Rattle.std.proofs.Common.{sym, ◌∙◌, arith}
use Rattle.hv_eval.proofs.Parts.{part_here, part_next}
use Rattle.hv_eval.proofs.frame.Frame.get.Goals as goal

pub returns-then-place-part : goal.returns-then-place-part
returns-then-place-part c =
    c.value_at.ensures
    ∙ sym (part_here c.args.self.now.before.now c.args.self.now.last.now c.loop-part.part-index c.part-item.result c.loop-part.place c.loop-part-test.true c.part-item.is (omega (arith, c.if-place-part.true)))
    ∙ c.loop-part.invariant

pub loop-part-preserved : goal.loop-part-preserved
loop-part-preserved c =
    sym (part_next c.args.self.now.before.now c.args.self.now.last.now c.loop-part.part-index c.part-item.result c.loop-part.place c.loop-part-test.true c.part-item.is (omega (arith, c.if-place-part.false)))
    ∙ c.loop-part.invariant
