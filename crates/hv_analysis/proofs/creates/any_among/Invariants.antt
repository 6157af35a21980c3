use Rattle.std.proofs.Common.{◌≡◌, drop}
use Rattle.std.specs.List.{list_any}
use Rattle.hv_typing.specs.Creates.{is_among}
use Rattle.hv_analysis.proofs.creates.any_among.Given as goal

abbrev pub invariant-loop-column : goal.invariant-loop-column
invariant-loop-column l = list_any (is_among l.columns) (drop l.column-index l.partitions) ≡ list_any (is_among l.columns) l.partitions
