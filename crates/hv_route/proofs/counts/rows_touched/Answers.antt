use Rattle.std.proofs.Common.{◌≡◌, rules, subst, IsPermutation}
use Rattle.std.specs.Cmp.{bool_cmp_total}
use Rattle.hv_base.proofs.SortingLaws.{sorted_is}
use Rattle.hv_route.specs.Placing.{placed_total}
use Rattle.hv_route.specs.Touching.{rows_touched}
use Rattle.hv_route.proofs.PlacedLemmas.{placed-same, bool-same}
use Rattle.hv_route.proofs.counts.rows_touched.Goals as goal

pub returns : goal.returns
returns c =
    let all : c.push_deletes.new.placed.items ≡ rows_touched c.args.shape.now c.args.effect.now = search rules in
    sorted_is (placed_total bool_cmp_total) (placed-same bool-same) (rows_touched c.args.shape.now c.args.effect.now) c.sort.new.self.items
    (subst (λ xs. IsPermutation xs c.sort.new.self.items) all c.in_ok-sort.ensures.permutation) c.in_ok-sort.ensures.sorted
