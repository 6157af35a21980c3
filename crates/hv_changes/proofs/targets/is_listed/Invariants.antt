use Rattle.std.proofs.Common.{◌≡◌, drop}
use Rattle.hv_typing.specs.Targets.{is_listed}
use Rattle.hv_changes.proofs.targets.is_listed.Given as goal

abbrev pub invariant-loop-other : goal.invariant-loop-other
invariant-loop-other l = is_listed (drop l.other-index l.names) l.name ≡ is_listed l.names l.name
