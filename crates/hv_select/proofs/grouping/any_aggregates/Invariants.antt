use Rattle.std.proofs.Common.{◌≡◌, drop}
use Rattle.std.specs.List.{list_any}
use Rattle.hv_typing.specs.Selects.{aggregates_in}
use Rattle.hv_select.proofs.grouping.any_aggregates.Given as goal

abbrev pub invariant-loop-item : goal.invariant-loop-item
invariant-loop-item l = list_any aggregates_in (drop l.item-index l.items) ≡ list_any aggregates_in l.items
