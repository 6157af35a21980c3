use Rattle.std.proofs.Common.{◌≡◌, drop}
use Rattle.hv_typing.specs.Updates.{is_bucketed}
use Rattle.hv_changes.proofs.updates.is_bucketed.Given as goal

abbrev pub invariant-loop-other : goal.invariant-loop-other
invariant-loop-other l = is_bucketed (drop l.other-index l.places) l.place ≡ is_bucketed l.places l.place
