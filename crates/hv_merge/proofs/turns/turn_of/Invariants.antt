use Rattle.std.proofs.Common.{◌≡◌, map, drop}
use Rattle.hv_merge.specs.Steps.{turn_from, turn_of}
use Rattle.hv_merge.proofs.turns.turn_of.Given as goal

abbrev pub invariant-loop-place : goal.invariant-loop-place
invariant-loop-place l =
    turn_from l.place l.found (map (λ head. head.items) (drop l.place l.heads)) ≡ turn_of (map (λ head. head.items) l.heads)
