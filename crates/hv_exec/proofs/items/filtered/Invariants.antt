use Rattle.std.proofs.Common.{◌≡◌, filter, take}
use Rattle.hv_typing.specs.Rows.{is_met}
use Rattle.hv_eval.specs.Frames.{frames_values}
use Rattle.hv_exec.proofs.items.filtered.Given as goal

abbrev pub invariant-loop-frame : goal.invariant-loop-frame
invariant-loop-frame l = frames_values l.kept.items ≡ filter (is_met l.condition) (frames_values (take l.frame-index l.frame-items))
