use Rattle.std.proofs.Common.{ℕ, arith, length-drop}
use Rattle.std.proofs.lemmas.List.{length-take}
use Rattle.hv_base.proofs.SinkLemmas.{Gains-more}
use Rattle.hv_base.proofs.sink.write_all.Goals as goal

pub loop-done-preserved : goal.loop-done-preserved
loop-done-preserved g c = record {
  within = omega (arith, c.in_ok-done.ensures.bound, length-take {A = ℕ}, length-drop {A = ℕ});
  gained = Gains-more _ _ _ _ _ _ c.loop-done.invariant.gained c.in_ok-done.ensures.done;
  later = omega (arith, c.in_ok-done.ensures.cause.later);
}
