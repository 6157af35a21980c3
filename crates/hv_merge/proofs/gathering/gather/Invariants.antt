use Rattle.std.proofs.Common.{◌≡◌, ◌++◌, List, map, length, None}
use Rattle.std.specs.List.{AllByRecursion}
use Rattle.hv_rowfile.specs.declared.record.Rec.{Rec}
use Rattle.hv_rowfile.specs.Layout.{RisesFrom}
use Rattle.hv_merge.specs.Gathering.{gathered}
use Rattle.hv_merge.proofs.gathering.gather.Given as goal

abbrev pub invariant-loop-file : goal.invariant-loop-file
invariant-loop-file l = record {
  rises : AllByRecursion (RisesFrom None) (map (λ file. file.items) l.rest.items);
  rising : RisesFrom None l.recs.items;
  recs : (done : List (List Rec)) × (map (λ file. file.items) l.rest.items ++ done ≡ map (λ file. file.items) l.fn.files.items)
      × (l.recs.items ≡ gathered l.low.0 l.high.0 done);
}

abbrev pub decreases-loop-file : goal.decreases-loop-file
decreases-loop-file l = length l.rest.items
