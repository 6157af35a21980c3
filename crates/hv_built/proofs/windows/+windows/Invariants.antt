-- The depth of a source, and for the parts of one query their order.
use Rattle.std.proofs.Common.{◌≡◌, ◌+◌, ◌*◌, drop}
use Rattle.hv_typing.specs.Analysis.{windowless_joins, windowless_unions, is_windowless_source}
use Rattle.hv_built.proofs.windows.+windows.Given as goal

abbrev pub invariant-windowless_joins-loop-join : goal.invariant-windowless_joins-loop-join
invariant-windowless_joins-loop-join l =
    windowless_joins is_windowless_source (drop l.join-index l.joins) ≡ windowless_joins is_windowless_source l.joins

abbrev pub invariant-windowless_unions-loop-union : goal.invariant-windowless_unions-loop-union
invariant-windowless_unions-loop-union l =
    windowless_unions is_windowless_source (drop l.union-index l.unions) ≡ windowless_unions is_windowless_source l.unions

abbrev pub decreases-is_windowless : goal.decreases-is_windowless
decreases-is_windowless l = goal.size-is_windowless l * 6 + 5

abbrev pub decreases-windowless_unions : goal.decreases-windowless_unions
decreases-windowless_unions l = goal.size-windowless_unions l * 6 + 4

abbrev pub decreases-is_windowless_select : goal.decreases-is_windowless_select
decreases-is_windowless_select l = goal.size-is_windowless_select l * 6 + 3

abbrev pub decreases-is_windowless_from : goal.decreases-is_windowless_from
decreases-is_windowless_from l = goal.size-is_windowless_from l * 6 + 2

abbrev pub decreases-windowless_joins : goal.decreases-windowless_joins
decreases-windowless_joins l = goal.size-windowless_joins l * 6 + 1

abbrev pub decreases-is_windowless_source : goal.decreases-is_windowless_source
decreases-is_windowless_source l = goal.size-is_windowless_source l * 6
