use Rattle.std.proofs.Common.{map, take}
use Rattle.hv_typing.specs.Rows.{item_row}
use Rattle.hv_eval.specs.Frames.{frames_values}
use Rattle.hv_order.specs.First.{IsEnough, IsSound}
use Rattle.hv_exec.proofs.items.item_rows.Given as goal

abbrev pub invariant-loop-frame : goal.invariant-loop-frame
invariant-loop-frame l =
    IsEnough l.front l.kept.rows.items (map (item_row l.items) (frames_values (take l.frame-index l.frames))) × IsSound l.front l.kept
