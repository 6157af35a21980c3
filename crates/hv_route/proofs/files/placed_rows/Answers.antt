use Rattle.std.proofs.Common.{map, subst, IsPermutation}
use Rattle.hv_value.specs.OrderLaws.{row_cmp_total, row_cmp-IsAntisymmetric}
use Rattle.hv_base.proofs.SortingLaws.{sorted_is}
use Rattle.hv_route.specs.Placing.{placed_total}
use Rattle.hv_route.specs.Routes.{place_of_row}
use Rattle.hv_route.proofs.PlacedLemmas.{placed-same}
use Rattle.hv_route.proofs.files.placed_rows.Goals as goal

pub returns : goal.returns
returns c =
    sorted_is (placed_total row_cmp_total) (placed-same row_cmp-IsAntisymmetric) (map (place_of_row c.args.shape.now) c.args.rows) c.sort.new.self.items
    (subst (λ xs. IsPermutation xs c.sort.new.self.items) c.in_ok-placed.ensures c.in_ok-sort.ensures.permutation) c.in_ok-sort.ensures.sorted
