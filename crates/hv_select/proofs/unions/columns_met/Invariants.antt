use Rattle.std.proofs.Common.{◌≡◌, drop}
use Rattle.hv_typing.specs.Selects.{behind}
use Rattle.hv_typing.specs.Queries.{columns_met}
use Rattle.hv_select.proofs.unions.columns_met.Given as goal

abbrev pub invariant-loop-column : goal.invariant-loop-column
invariant-loop-column l = behind l.made.items (columns_met (drop l.column-index l.columns) l.rest) ≡ columns_met l.columns l.items
