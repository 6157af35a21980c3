use Rattle.std.proofs.Common.{◌≡◌, drop}
use Rattle.hv_typing.specs.Selects.{behind}
use Rattle.hv_typing.specs.Asks.{items_typed}
use Rattle.hv_changes.proofs.asks.items_typed.Given as goal

abbrev pub invariant-loop-item : goal.invariant-loop-item
invariant-loop-item l = behind l.values.items (items_typed l.parts (drop l.item-index l.items)) ≡ items_typed l.parts l.items
