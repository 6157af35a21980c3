use Rattle.std.proofs.Common.{◌≡◌, ◌++◌, drop}
use Rattle.hv_dirs.specs.Candidates.{candidates_from}
use Rattle.hv_dirs.proofs.choice.candidates_of.Given as goal

abbrev pub invariant-loop-place : goal.invariant-loop-place
invariant-loop-place l =
    l.found.items ++ candidates_from l.deletes l.place (drop l.place l.dirs) ≡ candidates_from l.deletes 0 l.dirs
