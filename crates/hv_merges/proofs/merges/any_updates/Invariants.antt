use Rattle.std.proofs.Common.{◌≡◌, drop}
use Rattle.std.specs.List.{list_any}
use Rattle.hv_typing.specs.Merges.{updates}
use Rattle.hv_merges.proofs.merges.any_updates.Given as goal

abbrev pub invariant-loop-clause : goal.invariant-loop-clause
invariant-loop-clause l = list_any updates (drop l.clause-index l.clauses) ≡ list_any updates l.clauses
