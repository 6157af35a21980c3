use Rattle.std.proofs.Common.{drop}
use Rattle.hv_trail.specs.Kept.{trail_of}
use Rattle.tests_house.specs.Asking.{AreFilesPut}
use Rattle.tests_house.proofs.asking.is_done.Given as goal

abbrev pub invariant-loop-file : goal.invariant-loop-file
invariant-loop-file g l =
    AreFilesPut (trail_of l.house.trail) l.txn l.table.0 l.write.0 (drop l.file-index l.files)
    → AreFilesPut (trail_of l.house.trail) l.txn l.table.0 l.write.0 l.files
