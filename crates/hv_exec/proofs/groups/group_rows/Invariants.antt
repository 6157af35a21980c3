use Rattle.std.proofs.Common.{map, filter, take}
use Rattle.hv_typing.specs.Rows.{is_met_over, group_row}
use Rattle.hv_eval.specs.Frames.{frames_values}
use Rattle.hv_order.specs.First.{IsEnough, IsSound}
use Rattle.hv_exec.proofs.groups.group_rows.Given as goal

abbrev pub invariant-loop-group : goal.invariant-loop-group
invariant-loop-group l =
    IsEnough l.front l.kept.rows.items (map (group_row l.items) (filter (is_met_over l.having) (map frames_values (take l.group-index l.group-items))))
    × IsSound l.front l.kept
