use Rattle.std.proofs.Common.{rules}
use Rattle.std.proofs.lemmas.List.Sorted.{IsPartitionPoint-from_clause}
use Rattle.hv_history.specs.State.{state_of}
use Rattle.hv_book.specs.Names.{name_at, is_below}
use Rattle.hv_book.proofs.NameLaws.{parted}
use Rattle.hv_book.proofs.names.names_below.Goals as goal

pub returns-clause-point : goal.returns-clause-point
returns-clause-point c =
    let tables = (state_of c.args.book.now.entries).tables in
    IsPartitionPoint-from_clause (λ number. is_below (name_at tables number) c.args.name.now) _ _ c.partition_point.ensures.partitioned
    (parted tables c.args.name.now c.args.numbers.now c.requires.rise) (λ a r q k. search rules)
