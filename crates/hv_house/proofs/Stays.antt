-- No call changes whether the store tells.
use Rattle.std.proofs.Common.{Option}
use Rattle.hv_base.specs.Told.{Moves, StaysTold}
use Rattle.hv_base.proofs.ToldLemmas.{stays_by}
use Rattle.hv_shelf.specs.Disk.{Store}
use Rattle.hv_journal.specs.Appending.{KeepsTree}

pub stays_of : (a b : Option Store) → Moves KeepsTree a b → StaysTold a b
stays_of a b = stays_by KeepsTree a b
