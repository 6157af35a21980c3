use Rattle.std.proofs.Common.{◌≡◌, ◌++◌, take, filter, not}
use Rattle.hv_history.specs.State.{is_deleted}
use Rattle.tests_books.proofs.meanings.put_standing.Given as goal

abbrev pub invariant-loop-found : goal.invariant-loop-found
invariant-loop-found l =
    l.standing.items ≡ l.initial.standing.items ++ filter (λ found. not (is_deleted l.writes found)) (take l.found-index l.rows)
