use Rattle.std.proofs.Common.{◌≡◌, drop}
use Rattle.hv_history.specs.State.{is_deleted}
use Rattle.tests_books.proofs.meanings.is_deleted.Given as goal

abbrev pub invariant-loop-written : goal.invariant-loop-written
invariant-loop-written l = is_deleted l.writes l.found ≡ is_deleted (drop l.written-index l.writes) l.found
