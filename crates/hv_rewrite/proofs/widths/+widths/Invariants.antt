use Rattle.std.proofs.Common.{◌≡◌, drop}
use Rattle.hv_law_query.proofs.Weights.{source_weight, joins_weight, from_weight, select_weight, unions_weight, query_weight}
use Rattle.hv_rewrite.specs.Wide.{tables_in, joins_wide, unions_wide, source_wide}
use Rattle.hv_rewrite.proofs.widths.+widths.Given as goal

abbrev pub invariant-joins_wide-loop-join : goal.invariant-joins_wide-loop-join
invariant-joins_wide-loop-join l =
    joins_wide (source_wide (tables_in l.tables)) (drop l.join-index l.joins) ≡ joins_wide (source_wide (tables_in l.tables)) l.joins

abbrev pub invariant-unions_wide-loop-next : goal.invariant-unions_wide-loop-next
invariant-unions_wide-loop-next l =
    unions_wide (source_wide (tables_in l.tables)) (drop l.next-index l.unions) ≡ unions_wide (source_wide (tables_in l.tables)) l.unions

abbrev pub decreases-source_wide : goal.decreases-source_wide
decreases-source_wide a = source_weight a.source.now

abbrev pub decreases-joins_wide : goal.decreases-joins_wide
decreases-joins_wide a = joins_weight a.joins.now

abbrev pub decreases-from_wide : goal.decreases-from_wide
decreases-from_wide a = from_weight a.from.now

abbrev pub decreases-select_wide : goal.decreases-select_wide
decreases-select_wide a = select_weight a.select.now

abbrev pub decreases-unions_wide : goal.decreases-unions_wide
decreases-unions_wide a = unions_weight a.unions.now

abbrev pub decreases-query_wide : goal.decreases-query_wide
decreases-query_wide a = query_weight a.query.now
