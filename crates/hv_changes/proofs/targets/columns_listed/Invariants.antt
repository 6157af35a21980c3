use Rattle.std.proofs.Common.{◌≡◌, take, drop, []}
use Rattle.hv_typing.specs.Selects.{behind}
use Rattle.hv_typing.specs.Targets.{columns_listed}
use Rattle.hv_changes.proofs.targets.columns_listed.Given as goal

abbrev pub invariant-loop-i : goal.invariant-loop-i
invariant-loop-i l =
    behind l.listed.items (columns_listed l.items l.columns (take l.i l.names) (drop l.i l.names)) ≡ columns_listed l.items l.columns [] l.names
