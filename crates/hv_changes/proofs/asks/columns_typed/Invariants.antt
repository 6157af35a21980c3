use Rattle.std.proofs.Common.{◌≡◌, drop}
use Rattle.hv_typing.specs.Selects.{behind}
use Rattle.hv_typing.specs.Asks.{columns_typed}
use Rattle.hv_changes.proofs.asks.columns_typed.Given as goal

abbrev pub invariant-loop-column : goal.invariant-loop-column
invariant-loop-column l = behind l.values.items (columns_typed l.items (drop l.column-index l.parts)) ≡ columns_typed l.items l.parts
