use Rattle.std.proofs.Common.{◌≡◌, drop}
use Rattle.hv_typing.specs.Creates.{repeats}
use Rattle.hv_analysis.proofs.creates.repeats.Given as goal

abbrev pub invariant-loop-i : goal.invariant-loop-i
invariant-loop-i l = repeats (drop l.i l.columns) ≡ repeats l.columns
