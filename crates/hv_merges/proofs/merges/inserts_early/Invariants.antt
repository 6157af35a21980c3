use Rattle.std.proofs.Common.{◌≡◌, drop}
use Rattle.hv_typing.specs.Merges.{inserts_early}
use Rattle.hv_merges.proofs.merges.inserts_early.Given as goal

abbrev pub invariant-loop-i : goal.invariant-loop-i
invariant-loop-i l = inserts_early (drop l.i l.clauses) ≡ inserts_early l.clauses
