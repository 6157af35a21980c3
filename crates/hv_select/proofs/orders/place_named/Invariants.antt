use Rattle.std.proofs.Common.{◌≡◌, drop}
use Rattle.hv_typing.specs.Queries.{place_named}
use Rattle.hv_select.proofs.orders.place_named.Given as goal

abbrev pub invariant-loop-i : goal.invariant-loop-i
invariant-loop-i l = place_named l.i l.name (drop l.i l.columns) ≡ place_named 0 l.name l.columns
