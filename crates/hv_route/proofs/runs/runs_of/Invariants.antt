use Rattle.std.proofs.Common.{◌≡◌, ◌++◌}
use Rattle.hv_route.specs.Placing.{runs_from, runs_of}
use Rattle.hv_route.proofs.runs.runs_of.Given as goal

abbrev pub invariant-loop-next : goal.invariant-loop-next
invariant-loop-next g l =
    l.runs.items ++ runs_from l.current.partition l.current.bucket l.current.items.items l.next-iterator.rest.items ≡ runs_of l.fn.placed.items
