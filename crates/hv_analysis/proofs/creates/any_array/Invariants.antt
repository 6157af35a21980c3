use Rattle.std.proofs.Common.{◌≡◌, drop}
use Rattle.std.specs.List.{list_any}
use Rattle.hv_typing.specs.Creates.{has_array}
use Rattle.hv_analysis.proofs.creates.any_array.Given as goal

abbrev pub invariant-loop-column : goal.invariant-loop-column
invariant-loop-column l = list_any has_array (drop l.column-index l.columns) ≡ list_any has_array l.columns
