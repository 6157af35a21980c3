use Rattle.std.proofs.Common.{◌≡◌, drop}
use Rattle.hv_typing.specs.Merges.{no_clauses, clauses_typed}
use Rattle.hv_merges.proofs.merges.clauses_typed.Given as goal

abbrev pub invariant-loop-clause : goal.invariant-loop-clause
invariant-loop-clause l =
    clauses_typed l.shape l.columns l.both l.alone l.done (drop l.clause-index l.clauses)
    ≡ clauses_typed l.shape l.columns l.both l.alone no_clauses l.clauses
