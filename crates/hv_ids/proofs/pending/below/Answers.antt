use Rattle.std.proofs.Common.{rules}
use Rattle.std.specs.Prelude.{nat_lt}
use Rattle.std.proofs.lemmas.List.Sorted.{IsPartitionPoint-from_clause, IsPartitionedBy-ltb}
use Rattle.hv_ids.specs.declared.notes.IdNote.{IdNote}
use Rattle.hv_ids.specs.Ids.{note_table}
use Rattle.hv_ids.proofs.pending.below.Goals as goal

pub returns-clause-point : goal.returns-clause-point
returns-clause-point c =
    IsPartitionPoint-from_clause (λ (id : IdNote). nat_lt id.table c.args.table) _ _ c.partition_point.ensures.partitioned
    (IsPartitionedBy-ltb note_table _ c.args.table c.requires.sorted) (λ a r q k. search rules)
