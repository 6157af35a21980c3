use Rattle.std.specs.List.{AllByRecursion}
use Rattle.hv_clean.specs.Dirs.{SweepsIf}
use Rattle.hv_clean.proofs.dirs.sweepable_dirs.Given as goal

abbrev pub invariant-loop-place : goal.invariant-loop-place
invariant-loop-place l = AllByRecursion (SweepsIf l.table l.live) l.dirs.items
