use Rattle.std.proofs.Common.{arith}
use Rattle.hv_law_query.proofs.Weights.{query_below, select_below, unions_below, from_below, first_below, joins_below, join_below, union_below}
use Rattle.hv_rewrite.proofs.uses.+uses.Goals as goal

pub put_query-put_select-requires : goal.put_query-put_select-requires
put_query-put_select-requires t c = (grind (arith, select_below c.args.query.now, c.decreases), tt)

pub put_query-put_unions-requires : goal.put_query-put_unions-requires
put_query-put_unions-requires t c = (grind (arith, unions_below c.args.query.now, c.as_slice.ensures, c.decreases), tt)

pub put_from-put_source-requires : goal.put_from-put_source-requires
put_from-put_source-requires t c = (grind (arith, first_below c.args.from.now, c.decreases), tt)

pub put_from-put_joined-requires : goal.put_from-put_joined-requires
put_from-put_joined-requires t c = (grind (arith, joins_below c.args.from.now, c.as_slice-joins.ensures, c.decreases), tt)

pub put_select-put_from-requires : goal.put_select-put_from-requires
put_select-put_from-requires t c = (grind (arith, from_below c.args.select.now c.in-Some.from c.in-Some.is, c.decreases), tt)

pub put_source-put_query-requires : goal.put_source-put_query-requires
put_source-put_query-requires t c = (grind (arith, query_below c.args.source.now c.in-Query.query c.in-Query.is, c.decreases), tt)

pub put_unions-put_select-requires : goal.put_unions-put_select-requires
put_unions-put_select-requires t c =
    (grind (arith, union_below c.args.unions.now c.loop-next.next-index c.next-item.result c.loop-next-test.true c.next-item.is, c.decreases), tt)

pub put_joined-put_source-requires : goal.put_joined-put_source-requires
put_joined-put_source-requires t c =
    (grind (arith, join_below c.args.joins.now c.loop-place.place c.index-joins-place.result c.loop-place-test.true c.index-joins-place.is, c.decreases), tt)
