use Rattle.std.proofs.Common.{◌≡◌, drop}
use Rattle.hv_typing.specs.Selects.{behind, most_shown, items_shown}
use Rattle.hv_select.proofs.items.items_shown.Given as goal

abbrev pub invariant-loop-item : goal.invariant-loop-item
invariant-loop-item l =
    behind l.made.items (items_shown l.room l.opened l.keys (drop l.item-index l.items)) ≡ items_shown most_shown l.opened l.keys l.items
