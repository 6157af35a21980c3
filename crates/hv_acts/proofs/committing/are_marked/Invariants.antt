use Rattle.std.proofs.Common.{◌↔◌, drop}
use Rattle.hv_trail.specs.Kept.{trail_of}
use Rattle.hv_acts.specs.Committing.{WerePut}
use Rattle.hv_acts.proofs.committing.are_marked.Given as goal

abbrev pub invariant-loop-place : goal.invariant-loop-place
invariant-loop-place g l = WerePut (trail_of l.house.trail) l.txn (drop l.place-index l.places) ↔ WerePut (trail_of l.house.trail) l.txn l.places
