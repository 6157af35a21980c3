use Rattle.std.proofs.Common.{◌≡◌, take, filter, not}
use Rattle.std.specs.List.{flat_map}
use Rattle.hv_history.specs.declared.state.Written.{Written}
use Rattle.hv_history.specs.State.{is_deleted}
use Rattle.tests_books.proofs.meanings.content_of.Given as goal

abbrev pub invariant-loop-written : goal.invariant-loop-written
invariant-loop-written l =
    l.standing.items ≡ filter (λ found. not (is_deleted l.writes found)) (flat_map (λ (written : Written). written.inserts) (take l.written-index l.writes))
