use Rattle.std.proofs.Common.{◌≡◌, ◌++◌, length, map, take, drop}
use Rattle.hv_seen.specs.Seen.{seen_value}
use Rattle.hv_eval.specs.Frames.{frame_values}
use Rattle.hv_partial.specs.Kept.{each_more}
use Rattle.hv_partial.proofs.summed.each_more.Given as goal

abbrev pub invariant-loop-place : goal.invariant-loop-place
invariant-loop-place l = record {
  same_length : length l.kept.items ≡ length l.initial.kept.items;
  so_far : take l.place (map seen_value l.kept.items) ++ each_more (drop l.place l.sums) (drop l.place (map seen_value l.kept.items)) (frame_values l.row)
      ≡ each_more l.sums (map seen_value l.initial.kept.items) (frame_values l.row);
}
