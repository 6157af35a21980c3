use Rattle.std.proofs.Common.{◌≡◌, length, map}
use Rattle.hv_typing.specs.Calls.{look_up}
use Rattle.hv_types.proofs.names.look_up.Given as goal

abbrev pub invariant-loop-rest : goal.invariant-loop-rest
invariant-loop-rest l =
    look_up (map (λ row. (row.0.now, row.1)) l.rows) l.name
    ≡ look_up (map (λ row. (row.0.now, row.1)) l.rest) l.name

abbrev pub decreases-loop-rest : goal.decreases-loop-rest
decreases-loop-rest l = length l.rest
