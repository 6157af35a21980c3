use Rattle.std.proofs.Common.{ltb, leb, rules, tests}
use Rattle.std.proofs.lemmas.List.Sorted.{IsPartitionedBy-ltb, IsPartitionedBy-leb, IsPartitionPoint-from_clause}
use Rattle.std.proofs.lemmas.List.Kept.{AllPairs-from_increasing}
use Rattle.hv_wids.specs.declared.list.Exception.{Exception}
use Rattle.hv_wids.specs.WriteIds.{ids_of}
use Rattle.hv_wids.proofs.ExceptionLemmas.{id_of, IsNonDecreasingBy-rises, AreBounds-points}
use Rattle.hv_wids.proofs.RisingLemmas.{bounds_in_order, IsCountBetween-bounds}
use Rattle.hv_wids.proofs.list.count_between.Goals as goal

pub overflow_sub-result : goal.overflow_sub-result
overflow_sub-result c =
    let exceptions = c.args.exceptions.now in
    let sorted = IsNonDecreasingBy-rises exceptions c.requires.rises in
    let from = IsPartitionPoint-from_clause (λ (e : Exception). ltb (id_of e) c.args.low.0) exceptions c.partition_point-from.result c.partition_point-from.ensures.partitioned (IsPartitionedBy-ltb id_of exceptions c.args.low.0 sorted) (λ a r f k. search (rules, tests)) in
    let to = IsPartitionPoint-from_clause (λ (e : Exception). leb (id_of e) c.args.last.0) exceptions c.partition_point-to.result c.partition_point-to.ensures.partitioned (IsPartitionedBy-leb id_of exceptions c.args.last.0 sorted) (λ a r f k. search (rules, tests)) in
    bounds_in_order c.args.low.0 c.args.last.0 c.partition_point-from.result c.partition_point-to.result (ids_of exceptions)
    (AreBounds-points c.args.low.0 c.args.last.0 c.partition_point-from.result c.partition_point-to.result exceptions c.partition_point-from.ensures.bound c.partition_point-to.ensures.bound from to)
    c.requires.order

pub returns : goal.returns
returns c =
    let exceptions = c.args.exceptions.now in
    let sorted = IsNonDecreasingBy-rises exceptions c.requires.rises in
    let from = IsPartitionPoint-from_clause (λ (e : Exception). ltb (id_of e) c.args.low.0) exceptions c.partition_point-from.result c.partition_point-from.ensures.partitioned (IsPartitionedBy-ltb id_of exceptions c.args.low.0 sorted) (λ a r f k. search (rules, tests)) in
    let to = IsPartitionPoint-from_clause (λ (e : Exception). leb (id_of e) c.args.last.0) exceptions c.partition_point-to.result c.partition_point-to.ensures.partitioned (IsPartitionedBy-leb id_of exceptions c.args.last.0 sorted) (λ a r f k. search (rules, tests)) in
    IsCountBetween-bounds c.args.low.0 c.args.last.0 c.partition_point-from.result c.partition_point-to.result (ids_of exceptions)
    (AllPairs-from_increasing (ids_of exceptions) c.requires.rises)
    (AreBounds-points c.args.low.0 c.args.last.0 c.partition_point-from.result c.partition_point-to.result exceptions c.partition_point-from.ensures.bound c.partition_point-to.ensures.bound from to)
    c.requires.order
