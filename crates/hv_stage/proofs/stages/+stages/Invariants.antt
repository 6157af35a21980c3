use Rattle.std.proofs.Common.{◌≡◌, ◌++◌, take}
use Rattle.std.specs.List.{flat_map}
use Rattle.hv_law_query.proofs.Weights.{source_weight, joins_weight, from_weight, select_weight, unions_weight, query_weight}
use Rattle.hv_typing.specs.Stages.{source_of_join, union_stages, source_stages}
use Rattle.hv_stage.proofs.stages.+stages.Given as goal

abbrev pub invariant-put_sources-loop-join : goal.invariant-put_sources-loop-join
invariant-put_sources-loop-join l = l.kinds.items ≡ l.initial.kinds.items ++ flat_map (source_of_join source_stages) (take l.join-index l.joins)

abbrev pub invariant-put_unions-loop-next : goal.invariant-put_unions-loop-next
invariant-put_unions-loop-next l = l.kinds.items ≡ l.initial.kinds.items ++ flat_map (union_stages source_stages) (take l.next-index l.unions)

abbrev pub decreases-put_source : goal.decreases-put_source
decreases-put_source a = source_weight a.source.now

abbrev pub decreases-put_sources : goal.decreases-put_sources
decreases-put_sources a = joins_weight a.joins.now

abbrev pub decreases-put_from : goal.decreases-put_from
decreases-put_from a = from_weight a.from.now

abbrev pub decreases-put_select : goal.decreases-put_select
decreases-put_select a = select_weight a.select.now

abbrev pub decreases-put_unions : goal.decreases-put_unions
decreases-put_unions a = unions_weight a.unions.now

abbrev pub decreases-put_query : goal.decreases-put_query
decreases-put_query a = query_weight a.query.now
