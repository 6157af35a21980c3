use Rattle.std.proofs.Common.{◌≡◌, drop}
use Rattle.std.proofs.Common.{◌++◌}
use Rattle.hv_typing.specs.Selects.{columns_shown}
use Rattle.hv_select.proofs.items.columns_shown.Given as goal

abbrev pub invariant-loop-i : goal.invariant-loop-i
invariant-loop-i l = l.columns.items ++ columns_shown l.i (drop l.i l.shown) ≡ columns_shown 0 l.shown
