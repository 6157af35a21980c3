use Rattle.std.proofs.Common.{◌≡◌, ◌++◌, drop}
use Rattle.hv_eval.specs.Frames.{frame_values}
use Rattle.hv_meaning.specs.Meaning.{stored_values}
use Rattle.hv_effect.proofs.rows.stored_values.Given as goal

abbrev pub invariant-loop-column : goal.invariant-loop-column
invariant-loop-column l =
    l.values.items ++ stored_values (drop l.column-index l.columns) l.rest (frame_values l.frame) ≡ stored_values l.columns l.exprs (frame_values l.frame)
