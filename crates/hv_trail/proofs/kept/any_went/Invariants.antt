use Rattle.std.proofs.Common.{◌≡◌, drop}
use Rattle.std.specs.List.{list_any}
use Rattle.hv_trail.specs.Kept.{is_gone_by}
use Rattle.hv_trail.proofs.kept.any_went.Given as goal

abbrev pub invariant-loop-kept : goal.invariant-loop-kept
invariant-loop-kept l = list_any (is_gone_by l.dir) (drop l.kept-index l.marks) ≡ list_any (is_gone_by l.dir) l.marks
