-- The order of row identifiers, and its laws.
use Rattle.std.specs.Prelude.{◌≡◌, Bool, ◌&&◌, ◌==◌}
use Rattle.std.specs.declared.cmp.Ordering.{Ordering}
use Rattle.std.specs.Ordering.{nat_cmp, on, then_cmp, eq_by_cmp, as_partial_cmp}
use Rattle.std.specs.Cmp.{IsTotalOrder, IsPartialOrder, po, on_total, then_total, nat_cmp_total, both_tied, unsigned_ties}
use Rattle.hv_base.specs.declared.ids.RowId.{RowId}

-- by write id, then by statement, bucket and row number
unfoldable pub row_id_cmp : RowId → RowId → Ordering
row_id_cmp =
    then_cmp (on (λ (id : RowId). id.write.0) nat_cmp)
    (then_cmp (on (λ (id : RowId). id.statement) nat_cmp)
    (then_cmp (on (λ (id : RowId). id.bucket) nat_cmp) (on (λ (id : RowId). id.row) nat_cmp)))

abbrev pub row_id_eq : RowId → RowId → Bool
row_id_eq x y =
    (x.write.0 == y.write.0) && ((x.statement == y.statement) && ((x.bucket == y.bucket) && (x.row == y.row)))

pub row_id_total : IsTotalOrder row_id_cmp
unfolding row_id_cmp
row_id_total =
    then_total (on_total (λ (id : RowId). id.write.0) nat_cmp_total)
    (then_total (on_total (λ (id : RowId). id.statement) nat_cmp_total)
    (then_total (on_total (λ (id : RowId). id.bucket) nat_cmp_total) (on_total (λ (id : RowId). id.row) nat_cmp_total)))

-- what the order doesn't tell apart is equal
pub row_id_ties : (x y : RowId) → row_id_eq x y ≡ eq_by_cmp row_id_cmp x y
unfolding row_id_cmp
row_id_ties x y =
    both_tied _ _ _ _ (unsigned_ties x.write.0 y.write.0)
    (both_tied _ _ _ _ (unsigned_ties x.statement y.statement)
    (both_tied _ _ _ _ (unsigned_ties x.bucket y.bucket) (unsigned_ties x.row y.row)))

pub row_id_laws : IsPartialOrder row_id_eq (as_partial_cmp row_id_cmp)
row_id_laws = po row_id_total row_id_ties
