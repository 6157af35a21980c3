use Rattle.std.proofs.Common.{◌≡◌, [], length}
use Rattle.hv_keyed.specs.Parts.{put_groups}
use Rattle.hv_keyed.proofs.merging.merged_groups.Given as goal

abbrev pub invariant-loop-key : goal.invariant-loop-key
invariant-loop-key g l = record {
  keys : l.keys.keys ≡ (put_groups g.K.PartialEq.eq (g.M.Merging.merge l.merging) ([], []) l.yielded).0;
  kept : l.kept.items ≡ (put_groups g.K.PartialEq.eq (g.M.Merging.merge l.merging) ([], []) l.yielded).1;
  fits : length l.kept.items ≡ length l.keys.keys;
}
