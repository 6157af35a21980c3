use Rattle.std.proofs.Common.{◌≡◌, ◌+◌, ◌++◌, length}
use Rattle.hv_law_visible.proofs.SortingLemmas.{Rises}
use Rattle.hv_merge.specs.Gathering.{rec_cmp, put_all}
use Rattle.hv_merge.proofs.gathering.merge_two.Given as goal

abbrev pub invariant-loop-rec : goal.invariant-loop-rec
invariant-loop-rec l = record {
  up : Rises rec_cmp l.left.items;
  rise : Rises rec_cmp l.right.items;
  recs : l.recs.items ++ put_all l.left.items l.right.items ≡ put_all l.fn.first.items l.fn.second.items;
}

abbrev pub decreases-loop-rec : goal.decreases-loop-rec
decreases-loop-rec l = length l.left.items + length l.right.items
