use Rattle.std.proofs.Common.{◌≡◌, ◌++◌, drop}
use Rattle.hv_rewrite.specs.Conditions.{only_within}
use Rattle.hv_rewrite.specs.Reach.{known}
use Rattle.hv_rewrite.specs.Pruned.{exprs_seen}
use Rattle.hv_rewrite.proofs.reach.put_known.Given as goal

abbrev pub invariant-loop-join : goal.invariant-loop-join
invariant-loop-join l =
    exprs_seen l.found.items ++ only_within l.places.from l.places.to (known (drop l.join-index l.joins) l.condition)
    ≡ exprs_seen l.initial.found.items ++ only_within l.places.from l.places.to (known l.joins l.condition)
