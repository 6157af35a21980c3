use Rattle.hv_history.specs.State.{state_of}
use Rattle.hv_finals.proofs.LookLemmas.{IsLooking}
use Rattle.hv_finals.proofs.looking.find_whole.Given as goal

abbrev pub invariant-loop-i : goal.invariant-loop-i
invariant-loop-i g l =
    IsLooking g.D.Shelf.told g.D.Shelf.faults g.D.Shelf.hard (state_of l.book.entries) l.fn.shelf l.shelf l.i l.whole.items
