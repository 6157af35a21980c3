use Rattle.std.proofs.Common.{◌≡◌, ◌++◌, take}
use Rattle.hv_rewrite.specs.Conditions.{only_within}
use Rattle.hv_rewrite.specs.Pruned.{exprs_seen}
use Rattle.hv_rewrite.proofs.conditions.put_all.Given as goal

abbrev pub invariant-loop-condition : goal.invariant-loop-condition
invariant-loop-condition l =
    exprs_seen l.found.items
    ≡ exprs_seen l.initial.found.items ++ only_within l.places.from l.places.to (take l.condition-index l.conditions)
