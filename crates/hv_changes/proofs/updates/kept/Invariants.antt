use Rattle.std.proofs.Common.{◌≡◌, ◌++◌, drop}
use Rattle.hv_typing.specs.Updates.{kept}
use Rattle.hv_changes.proofs.updates.kept.Given as goal

abbrev pub invariant-loop-i : goal.invariant-loop-i
invariant-loop-i l = l.values.items ++ kept l.i (drop l.i l.kinds) ≡ kept 0 l.kinds
