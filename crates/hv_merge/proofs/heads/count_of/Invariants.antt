use Rattle.std.proofs.Common.{◌≡◌, fold, map, drop}
use Rattle.hv_merge.specs.Steps.{count_with}
use Rattle.hv_merge.proofs.heads.count_of.Given as goal

abbrev pub invariant-loop-head : goal.invariant-loop-head
invariant-loop-head l =
    fold count_with l.count (map (λ head. head.items) (drop l.head-index l.heads)) ≡ fold count_with 0 (map (λ head. head.items) l.heads)
