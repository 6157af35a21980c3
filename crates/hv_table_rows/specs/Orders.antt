-- The order of rows by where they stand, and its laws.
use Rattle.std.specs.declared.cmp.Ordering.{Ordering}
use Rattle.std.specs.Ordering.{nat_cmp, on, then_cmp}
use Rattle.std.specs.Cmp.{IsTotalOrder, on_total, then_total}
use Rattle.std.specs.Cmp.Lexicographic.{slice_cmp, nat_list_cmp_total}
use Rattle.hv_base.specs.Identifiers.{row_id_cmp, row_id_total}
use Rattle.hv_logic.specs.declared.effect.Found.{Found}
use Rattle.hv_logic.specs.Rows.{found_cmp}
use Rattle.hv_stands.proofs.StandingRows.{found-total as found_total}
use Rattle.hv_table_rows.specs.declared.placed.Placed.{Placed}
use Rattle.hv_table_rows.specs.declared.row_at.RowAt.{RowAt}

-- by partition and identifier
unfoldable pub row_at_cmp : RowAt → RowAt → Ordering
row_at_cmp = then_cmp (on (λ (row : RowAt). row.partition) (slice_cmp nat_cmp)) (on (λ (row : RowAt). row.id) row_id_cmp)

pub row_at_total : IsTotalOrder row_at_cmp
unfolding row_at_cmp
row_at_total = then_total (on_total (λ (row : RowAt). row.partition) nat_list_cmp_total) (on_total (λ (row : RowAt). row.id) row_id_total)

-- rows that stand in a table, in the same order
abbrev pub found_in : Placed → Found
found_in placed = placed.found

unfoldable pub placed_cmp : Placed → Placed → Ordering
placed_cmp = on found_in found_cmp

pub placed_total : IsTotalOrder placed_cmp
unfolding placed_cmp
placed_total = on_total found_in found_total
