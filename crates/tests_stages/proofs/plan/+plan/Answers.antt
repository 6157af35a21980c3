use Rattle.std.proofs.Common.{arith}
use Rattle.hv_law_query.proofs.Weights.{query_below, select_below, unions_below, from_below, first_below, joins_below, join_below, union_below}
use Rattle.tests_stages.proofs.plan.+plan.Goals as goal

pub plan-select-requires : goal.plan-select-requires
plan-select-requires t c = (grind (arith, select_below c.args.query.now, c.decreases), tt)

pub plan-unions-requires : goal.plan-unions-requires
plan-unions-requires t c = (grind (arith, unions_below c.args.query.now, c.as_slice.ensures, c.decreases), tt)

pub from-source-requires : goal.from-source-requires
from-source-requires t c = (grind (arith, first_below c.args.from.now, c.decreases), tt)

pub from-joins-requires : goal.from-joins-requires
from-joins-requires t c = (grind (arith, joins_below c.args.from.now, c.as_slice.ensures, c.decreases), tt)

pub select-from-requires : goal.select-from-requires
select-from-requires t c = (grind (arith, from_below c.args.select.now c.in-Some.sources c.in-Some.is, c.decreases), tt)

pub source-plan-requires : goal.source-plan-requires
source-plan-requires t c = (grind (arith, query_below c.args.source.now c.in-Query.query c.in-Query.is, c.decreases), tt)

pub joins-source-requires : goal.joins-source-requires
joins-source-requires t c =
    (grind (arith, join_below c.args.joins.now c.loop-join.join-index c.join-item.result c.loop-join-test.true c.join-item.is, c.decreases), tt)

pub unions-select-requires : goal.unions-select-requires
unions-select-requires t c =
    (grind (arith, union_below c.args.unions.now c.loop-union.union-index c.union-item.result c.loop-union-test.true c.union-item.is, c.decreases), tt)
