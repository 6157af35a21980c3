use Rattle.std.proofs.Common.{◌≡◌, drop}
use Rattle.hv_typing.specs.Queries.{place_equal}
use Rattle.hv_select.proofs.orders.place_equal.Given as goal

abbrev pub invariant-loop-i : goal.invariant-loop-i
invariant-loop-i l = place_equal l.i l.expr (drop l.i l.items) ≡ place_equal 0 l.expr l.items
