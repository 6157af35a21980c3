use Rattle.std.proofs.Common.{◌≡◌, ◌+◌, ◌≤◌, length, take}
use Rattle.std.specs.List.{suffix_len}
use Rattle.hv_script.specs.Kinds.{trails}
use Rattle.hv_script.proofs.kinds.trimmed_len.Given as goal

abbrev pub invariant-loop-kept : goal.invariant-loop-kept
invariant-loop-kept l = (l.kept ≤ length l.bytes) × (l.kept + suffix_len trails l.bytes ≡ length l.bytes + suffix_len trails (take l.kept l.bytes))

abbrev pub decreases-loop-kept : goal.decreases-loop-kept
decreases-loop-kept l = l.kept
