use Rattle.std.proofs.Common.{◌≡◌, ◌++◌, fold, map, take, drop}
use Rattle.hv_merge.specs.Steps.{behind_at, later_at, last_at}
use Rattle.hv_merge.proofs.heads.take_last.Given as goal

abbrev pub invariant-loop-place : goal.invariant-loop-place
invariant-loop-place l = record {
  behind : map (λ head. head.items) (take l.place l.heads.items) ++ map (behind_at l.id) (map (λ head. head.items) (drop l.place l.heads.items))
      ≡ map (behind_at l.id) (map (λ head. head.items) l.fn.heads.items);
  last : fold (later_at l.list l.id) l.last (map (λ head. head.items) (drop l.place l.heads.items)) ≡ last_at l.list l.id (map (λ head. head.items) l.fn.heads.items);
}
