use Rattle.std.proofs.Common.{map, subst, IsPermutation}
use Rattle.hv_base.specs.Identifiers.{row_id_total}
use Rattle.hv_base.proofs.SortingLaws.{sorted_is}
use Rattle.hv_route.specs.Placing.{placed_total}
use Rattle.hv_route.specs.Routes.{place_of_deleted}
use Rattle.hv_route.proofs.PlacedLemmas.{placed-same, id-same}
use Rattle.hv_route.proofs.files.placed_deletes.Goals as goal

pub returns : goal.returns
returns c =
    sorted_is (placed_total row_id_total) (placed-same id-same) (map place_of_deleted c.args.deletes) c.sort.new.self.items
    (subst (λ xs. IsPermutation xs c.sort.new.self.items) c.in_ok-placed.ensures c.in_ok-sort.ensures.permutation) c.in_ok-sort.ensures.sorted
