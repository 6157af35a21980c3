use Rattle.std.proofs.Common.{take}
use Rattle.hv_house.proofs.Renamed.{IsRenaming}
use Rattle.hv_house.proofs.renaming.rename_all.Given as goal

abbrev pub invariant-loop-renaming : goal.invariant-loop-renaming
invariant-loop-renaming g l =
    IsRenaming g.D.Shelf.told g.D.Shelf.faults g.D.Shelf.hard (take l.renaming-index l.renamings) l.begun l.fn.shelf l.shelf
