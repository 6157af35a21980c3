use Rattle.std.proofs.Common.{◌≡◌, drop}
use Rattle.hv_typing.specs.Updates.{is_set}
use Rattle.hv_changes.proofs.updates.is_set.Given as goal

abbrev pub invariant-loop-other : goal.invariant-loop-other
invariant-loop-other l = is_set (drop l.other-index l.before) l.name ≡ is_set l.before l.name
