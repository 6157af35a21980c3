use Rattle.std.proofs.Common.{arith}
use Rattle.hv_law_query.proofs.Weights.{query_below, select_below, unions_below, from_below, first_below, joins_below, join_below, union_below}
use Rattle.hv_rewrite.proofs.widths.+widths.Goals as goal

pub query_wide-select_wide-requires : goal.query_wide-select_wide-requires
query_wide-select_wide-requires t c = (grind (arith, select_below c.args.query.now, c.decreases), tt)

pub query_wide-unions_wide-requires : goal.query_wide-unions_wide-requires
query_wide-unions_wide-requires t c = (grind (arith, unions_below c.args.query.now, c.as_slice.ensures, c.decreases), tt)

pub from_wide-source_wide-requires : goal.from_wide-source_wide-requires
from_wide-source_wide-requires t c = (grind (arith, first_below c.args.from.now, c.decreases), tt)

pub from_wide-joins_wide-requires : goal.from_wide-joins_wide-requires
from_wide-joins_wide-requires t c = (grind (arith, joins_below c.args.from.now, c.as_slice.ensures, c.decreases), tt)

pub select_wide-from_wide-requires : goal.select_wide-from_wide-requires
select_wide-from_wide-requires t c = (grind (arith, from_below c.args.select.now c.in-Some.from c.in-Some.is, c.decreases), tt)

pub source_wide-query_wide-requires : goal.source_wide-query_wide-requires
source_wide-query_wide-requires t c = (grind (arith, query_below c.args.source.now c.in-Query.query c.in-Query.is, c.decreases), tt)

pub joins_wide-source_wide-requires : goal.joins_wide-source_wide-requires
joins_wide-source_wide-requires t c =
    (grind (arith, join_below c.args.joins.now c.loop-join.join-index c.join-item.result c.loop-join-test.true c.join-item.is, c.decreases), tt)

pub unions_wide-select_wide-requires : goal.unions_wide-select_wide-requires
unions_wide-select_wide-requires t c =
    (grind (arith, union_below c.args.unions.now c.loop-next.next-index c.next-item.result c.loop-next-test.true c.next-item.is, c.decreases), tt)
