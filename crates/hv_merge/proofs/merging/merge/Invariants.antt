use Rattle.std.proofs.Common.{◌≡◌, ◌++◌, map, None}
use Rattle.std.specs.List.{AllByRecursion}
use Rattle.hv_rowfile.specs.Layout.{RisesFrom}
use Rattle.hv_merge.specs.Merging.{merged}
use Rattle.hv_merge.specs.Steps.{valid_rows}
use Rattle.hv_merge.proofs.Kept.{IdsRise, coming}
use Rattle.hv_merge.proofs.Looks.{count_recs}
use Rattle.hv_merge.proofs.merging.merge.Given as goal

abbrev pub invariant-loop-turn : goal.invariant-loop-turn
invariant-loop-turn l = record {
  rise : AllByRecursion (RisesFrom None) (map (λ head. head.items) l.heads.items);
  gone : IdsRise l.gone;
  rows : l.rows.items ++ coming l.gone (map (valid_rows l.list) (map (λ head. head.items) l.heads.items))
      ≡ merged l.list (map (λ file. file.items) l.fn.files.items) (map (λ file. file.items) l.deletes);
}

abbrev pub decreases-loop-turn : goal.decreases-loop-turn
decreases-loop-turn l = count_recs (map (λ head. head.items) l.heads.items)
