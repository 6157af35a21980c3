use Rattle.std.proofs.Common.{flat_map, take}
use Rattle.hv_order.specs.First.{IsEnough, IsSound}
use Rattle.hv_partial.specs.Kept.{rows_shown, shown_by}
use Rattle.hv_exec.proofs.groups.rows_shown.Given as goal

abbrev pub invariant-loop-group : goal.invariant-loop-group
invariant-loop-group l =
    IsEnough l.front l.kept.rows.items (flat_map (λ group. rows_shown (shown_by l.lifted group)) (take l.group-index l.groups)) × IsSound l.front l.kept
