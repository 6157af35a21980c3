use Rattle.std.proofs.Common.{◌≡◌, ◌++◌, drop}
use Rattle.std.specs.String.{string_bytes}
use Rattle.hv_route.specs.Partitions.{partition_text}
use Rattle.hv_route.proofs.PartitionLemmas.{pieces_from}
use Rattle.hv_route.proofs.partitions.partition_text.Given as goal

abbrev pub invariant-loop-place : goal.invariant-loop-place
invariant-loop-place l =
    string_bytes l.out ++ pieces_from l.place (drop l.place l.columns) (drop l.place l.values) ≡ partition_text l.columns l.values
