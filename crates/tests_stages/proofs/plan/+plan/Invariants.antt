use Rattle.hv_law_query.proofs.Weights.{source_weight, joins_weight, from_weight, select_weight, unions_weight, query_weight}
use Rattle.tests_stages.proofs.plan.+plan.Given as goal

abbrev pub decreases-source : goal.decreases-source
decreases-source a = source_weight a.source.now

abbrev pub decreases-joins : goal.decreases-joins
decreases-joins a = joins_weight a.joins.now

abbrev pub decreases-from : goal.decreases-from
decreases-from a = from_weight a.from.now

abbrev pub decreases-select : goal.decreases-select
decreases-select a = select_weight a.select.now

abbrev pub decreases-unions : goal.decreases-unions
decreases-unions a = unions_weight a.unions.now

abbrev pub decreases-plan : goal.decreases-plan
decreases-plan a = query_weight a.query.now
