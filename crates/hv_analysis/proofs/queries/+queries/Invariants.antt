-- The depth of a source, and for the parts of one query their order.
use Rattle.std.proofs.Common.{◌≡◌, ◌+◌, ◌*◌, drop}
use Rattle.hv_typing.specs.Sources.{all_joined}
use Rattle.hv_typing.specs.Queries.{all_united}
use Rattle.hv_typing.specs.Subqueries.{brought}
use Rattle.hv_analysis.proofs.queries.+queries.Given as goal

abbrev pub invariant-all_joined-loop-join : goal.invariant-all_joined-loop-join
invariant-all_joined-loop-join l =
    all_joined (brought l.tables) l.sources (drop l.join-index l.joins) ≡ all_joined (brought l.tables) l.initial.sources l.joins

abbrev pub invariant-all_united-loop-union : goal.invariant-all_united-loop-union
invariant-all_united-loop-union l =
    all_united (brought l.tables) l.united (drop l.union-index l.unions) ≡ all_united (brought l.tables) l.initial.united l.unions

abbrev pub decreases-query_typed : goal.decreases-query_typed
decreases-query_typed l = goal.size-query_typed l * 6 + 5

abbrev pub decreases-all_united : goal.decreases-all_united
decreases-all_united l = goal.size-all_united l * 6 + 4

abbrev pub decreases-select_typed : goal.decreases-select_typed
decreases-select_typed l = goal.size-select_typed l * 6 + 3

abbrev pub decreases-opened : goal.decreases-opened
decreases-opened l = goal.size-opened l * 6 + 2

abbrev pub decreases-all_joined : goal.decreases-all_joined
decreases-all_joined l = goal.size-all_joined l * 6 + 1

abbrev pub decreases-brought : goal.decreases-brought
decreases-brought l = goal.size-brought l * 6
