use Rattle.std.proofs.Common.{◌≡◌, ◌++◌, map, take, drop}
use Rattle.std.specs.List.{flat_map}
use Rattle.hv_law_query.proofs.Weights.{source_weight, joins_weight, from_weight, select_weight, unions_weight, query_weight}
use Rattle.hv_rewrite.specs.Reach.{joined_spots, union_spots}
use Rattle.hv_rewrite.specs.Pruned.{placed_uses, spot_seen}
use Rattle.hv_rewrite.proofs.uses.+uses.Given as goal

abbrev pub invariant-put_joined-loop-place : goal.invariant-put_joined-loop-place
invariant-put_joined-loop-place l =
    map spot_seen l.found.items ++ flat_map (placed_uses l.wanted) (joined_spots l.base (drop l.place l.joins) l.condition)
    ≡ map spot_seen l.initial.found.items ++ flat_map (placed_uses l.wanted) (joined_spots l.width l.joins l.condition)

abbrev pub invariant-put_unions-loop-next : goal.invariant-put_unions-loop-next
invariant-put_unions-loop-next l =
    map spot_seen l.found.items
    ≡ map spot_seen l.initial.found.items ++ flat_map (placed_uses l.wanted) (flat_map union_spots (take l.next-index l.unions))

abbrev pub decreases-put_source : goal.decreases-put_source
decreases-put_source a = source_weight a.source.now

abbrev pub decreases-put_joined : goal.decreases-put_joined
decreases-put_joined a = joins_weight a.joins.now

abbrev pub decreases-put_from : goal.decreases-put_from
decreases-put_from a = from_weight a.from.now

abbrev pub decreases-put_select : goal.decreases-put_select
decreases-put_select a = select_weight a.select.now

abbrev pub decreases-put_unions : goal.decreases-put_unions
decreases-put_unions a = unions_weight a.unions.now

abbrev pub decreases-put_query : goal.decreases-put_query
decreases-put_query a = query_weight a.query.now
