use Rattle.std.proofs.Common.{length}
use Rattle.hv_exec.proofs.wanted.+is_behind.Given as goal

abbrev pub decreases-is_behind : goal.decreases-is_behind
decreases-is_behind l = length l.keys.now
