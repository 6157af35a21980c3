use Rattle.std.proofs.Common.{◌∙◌, ap, List, ◌++◌, ℕ}
use Rattle.hv_route.proofs.PartitionLemmas.{pieces_from, all_pieces}
use Rattle.hv_route.proofs.partitions.partition_text.Goals as goal

pub loop-place-init : goal.loop-place-init
loop-place-init c =
    ap (λ (x : List ℕ). x ++ pieces_from 0 c.args.columns.now c.args.values.now) c.new-out.ensures.bytes ∙ all_pieces c.args.columns.now c.args.values.now
