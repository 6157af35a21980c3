use Rattle.std.proofs.Common.{◌≡◌, ◌-◌, ◌++◌, true, false, length}
use Rattle.std.specs.List.{flat_map, AllByRecursion}
use Rattle.hv_dirs.specs.Choice.{sight_of}
use Rattle.hv_choosing.specs.Listing.{IsNamed}
use Rattle.hv_choosing.specs.Taken.{runs, run_taken, files_taken}
use Rattle.hv_choosing.proofs.taken.take_files.Given as goal

abbrev pub invariant-loop-turn : goal.invariant-loop-turn
invariant-loop-turn l =
    (l.taken.inserts.items ++ flat_map (run_taken false (sight_of l.list)) (runs (length l.files - l._turn) l.rest) ≡ files_taken false l.list l.files)
    × (l.taken.deletes.items ++ flat_map (run_taken true (sight_of l.list)) (runs (length l.files - l._turn) l.rest) ≡ files_taken true l.list l.files)
    × AllByRecursion IsNamed l.rest
