use Rattle.std.proofs.Common.{◌≡◌, drop}
use Rattle.std.proofs.Common.{◌++◌}
use Rattle.hv_typing.specs.Selects.{fields_shown}
use Rattle.hv_select.proofs.items.fields_shown.Given as goal

abbrev pub invariant-loop-i : goal.invariant-loop-i
invariant-loop-i l = l.shown.items ++ fields_shown l.alias l.i (drop l.i l.fields) ≡ fields_shown l.alias 0 l.fields
