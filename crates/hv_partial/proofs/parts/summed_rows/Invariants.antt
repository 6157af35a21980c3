use Rattle.std.proofs.Common.{◌≡◌, take}
use Rattle.hv_eval.specs.Frames.{frames_values}
use Rattle.hv_partial.specs.Kept.{summed}
use Rattle.hv_partial.proofs.parts.summed_rows.Given as goal

abbrev pub invariant-loop-row : goal.invariant-loop-row
invariant-loop-row l = l.kept ≡ summed l.sums (frames_values (take l.row-index l.rows))
