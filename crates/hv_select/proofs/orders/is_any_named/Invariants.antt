use Rattle.std.proofs.Common.{◌≡◌, drop}
use Rattle.std.specs.List.{list_any}
use Rattle.hv_typing.specs.Queries.{is_named}
use Rattle.hv_select.proofs.orders.is_any_named.Given as goal

abbrev pub invariant-loop-column : goal.invariant-loop-column
invariant-loop-column l = list_any (is_named l.name) (drop l.column-index l.columns) ≡ list_any (is_named l.name) l.columns
