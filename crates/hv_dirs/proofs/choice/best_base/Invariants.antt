use Rattle.std.proofs.Common.{◌≡◌, None, drop}
use Rattle.hv_dirs.specs.Candidates.{best_from}
use Rattle.hv_dirs.specs.Choice.{sight_of}
use Rattle.hv_dirs.proofs.choice.best_base.Given as goal

abbrev pub invariant-loop-place : goal.invariant-loop-place
invariant-loop-place l =
    best_from (sight_of l.list) l.place l.found (drop l.place l.dirs) ≡ best_from (sight_of l.list) 0 (0, None) l.dirs
