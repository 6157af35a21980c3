use Rattle.std.proofs.Common.{◌≡◌, drop}
use Rattle.hv_typing.specs.Selects.{behind}
use Rattle.hv_typing.specs.Queries.{order_typed}
use Rattle.hv_select.proofs.orders.order_typed.Given as goal

abbrev pub invariant-loop-key : goal.invariant-loop-key
invariant-loop-key l =
    behind l.made.items (order_typed l.single l.listed l.columns (drop l.key-index l.keys)) ≡ order_typed l.single l.listed l.columns l.keys
