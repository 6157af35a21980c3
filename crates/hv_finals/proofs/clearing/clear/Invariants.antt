use Rattle.std.proofs.Common.{take}
use Rattle.hv_finals.proofs.ClearLemmas.{IsClearing}
use Rattle.hv_finals.proofs.clearing.clear.Given as goal

abbrev pub invariant-loop-dir : goal.invariant-loop-dir
invariant-loop-dir g l = IsClearing g.D.Shelf.told g.D.Shelf.faults g.D.Shelf.hard (take l.dir-index l.dirs) l.fn.shelf l.shelf
