use Rattle.std.proofs.Common.{◌≡◌, map}
use Rattle.hv_typing.specs.Selects.{expr_shown}
use Rattle.hv_select.proofs.items.exprs_shown.Given as goal

abbrev pub invariant-loop-one : goal.invariant-loop-one
invariant-loop-one l = l.exprs.items ≡ map expr_shown l.yielded
