use Rattle.std.proofs.Common.{◌≡◌}
use Rattle.hv_workers.specs.Entries.{pairs_in}
use Rattle.hv_workers.proofs.parts.as_pairs.Given as goal

abbrev pub invariant-loop-entry : goal.invariant-loop-entry
invariant-loop-entry l = l.found.items ≡ pairs_in l.yielded
