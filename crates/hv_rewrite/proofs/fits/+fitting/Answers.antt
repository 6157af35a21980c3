use Rattle.std.proofs.Common.{arith}
use Rattle.hv_law_query.proofs.Weights.{query_below, select_below, unions_below, from_below, first_below, joins_below, join_below, union_below}
use Rattle.hv_rewrite.proofs.fits.+fitting.Goals as goal

pub query_fits-select_fits-requires : goal.query_fits-select_fits-requires
query_fits-select_fits-requires t c = (grind (arith, select_below c.args.query.now, c.decreases), tt)

pub query_fits-unions_fit-requires : goal.query_fits-unions_fit-requires
query_fits-unions_fit-requires t c = (grind (arith, unions_below c.args.query.now, c.as_slice.ensures, c.decreases), tt)

pub from_fits-source_fits-requires : goal.from_fits-source_fits-requires
from_fits-source_fits-requires t c = (grind (arith, first_below c.args.from.now, c.decreases), tt)

pub from_fits-joins_fit-requires : goal.from_fits-joins_fit-requires
from_fits-joins_fit-requires t c = (grind (arith, joins_below c.args.from.now, c.as_slice.ensures, c.decreases), tt)

pub select_fits-from_fits-requires : goal.select_fits-from_fits-requires
select_fits-from_fits-requires t c = (grind (arith, from_below c.args.select.now c.in-Some.from c.in-Some.is, c.decreases), tt)

pub source_fits-query_fits-requires : goal.source_fits-query_fits-requires
source_fits-query_fits-requires t c = (grind (arith, query_below c.args.source.now c.in-Query.query c.in-Query.is, c.decreases), tt)

pub joins_fit-source_fits-requires : goal.joins_fit-source_fits-requires
joins_fit-source_fits-requires t c =
    (grind (arith, join_below c.args.joins.now c.loop-join.join-index c.join-item.result c.loop-join-test.true c.join-item.is, c.decreases), tt)

pub unions_fit-select_fits-requires : goal.unions_fit-select_fits-requires
unions_fit-select_fits-requires t c =
    (grind (arith, union_below c.args.unions.now c.loop-next.next-index c.next-item.result c.loop-next-test.true c.next-item.is, c.decreases), tt)
