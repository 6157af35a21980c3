use Rattle.std.proofs.Common.{◌≡◌, ◌++◌, drop}
use Rattle.hv_route.specs.Partitions.{partition_values}
use Rattle.hv_route.proofs.partitions.partition_values.Given as goal

abbrev pub invariant-loop-column : goal.invariant-loop-column
invariant-loop-column l =
    l.values.items ++ partition_values (drop l.column-index l.columns) l.left ≡ partition_values l.columns l.text
