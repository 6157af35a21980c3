use Rattle.std.proofs.Common.{◌≡◌}
use Rattle.hv_workers.specs.Entries.{pairs_in}
use Rattle.hv_workers.proofs.parts.as_entries.Given as goal

abbrev pub invariant-loop-key : goal.invariant-loop-key
invariant-loop-key l = pairs_in l.entries.items ≡ l.yielded
