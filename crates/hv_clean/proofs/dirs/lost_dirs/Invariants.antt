use Rattle.std.specs.List.{AllByRecursion}
use Rattle.hv_clean.specs.Removing.{IsLostDir}
use Rattle.hv_clean.proofs.dirs.lost_dirs.Given as goal

abbrev pub invariant-loop-place : goal.invariant-loop-place
invariant-loop-place l = AllByRecursion (IsLostDir l.id) l.dirs.items
