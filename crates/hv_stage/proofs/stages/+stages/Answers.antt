use Rattle.std.proofs.Common.{arith, ap, ◌∙◌}
use Rattle.hv_law_query.proofs.Weights.{query_below, select_below, unions_below, from_below, first_below, joins_below, join_below, union_below}
use Rattle.hv_typing.specs.Stages.{source_stages}
use Rattle.hv_stage.proofs.StageNodes.{stages-Table, unchanged}
use Rattle.hv_stage.proofs.stages.+stages.Goals as goal

pub put_query-put_select-requires : goal.put_query-put_select-requires
put_query-put_select-requires t c = (grind (arith, select_below c.args.query.now, c.decreases), tt)

pub put_query-put_unions-requires : goal.put_query-put_unions-requires
put_query-put_unions-requires t c = (grind (arith, unions_below c.args.query.now, c.as_slice.ensures, c.decreases), tt)

pub put_from-put_source-requires : goal.put_from-put_source-requires
put_from-put_source-requires t c = (grind (arith, first_below c.args.from.now, c.decreases), tt)

pub put_from-put_sources-requires : goal.put_from-put_sources-requires
put_from-put_sources-requires t c = (grind (arith, joins_below c.args.from.now, c.as_slice.ensures, c.decreases), tt)

pub put_select-put_from-requires : goal.put_select-put_from-requires
put_select-put_from-requires t c = (grind (arith, from_below c.args.select.now c.in-Some.from c.in-Some.is, c.decreases), tt)

pub put_source-put_query-requires : goal.put_source-put_query-requires
put_source-put_query-requires t c = (grind (arith, query_below c.args.source.now c.in-Query.query c.in-Query.is, c.decreases), tt)

pub put_sources-put_source-requires : goal.put_sources-put_source-requires
put_sources-put_source-requires t c =
    (grind (arith, join_below c.args.joins.now c.loop-join.join-index c.join-item.result c.loop-join-test.true c.join-item.is, c.decreases), tt)

pub put_unions-put_select-requires : goal.put_unions-put_select-requires
put_unions-put_select-requires t c =
    (grind (arith, union_below c.args.unions.now c.loop-next.next-index c.next-item.result c.loop-next-test.true c.next-item.is, c.decreases), tt)

pub put_source-returns-in-Table : goal.put_source-returns-in-Table
put_source-returns-in-Table t c =
    unchanged c.args.kinds.now.items (source_stages c.args.source.now)
    (ap source_stages c.in-Table.is ∙ stages-Table c.in-Table.field-0)
