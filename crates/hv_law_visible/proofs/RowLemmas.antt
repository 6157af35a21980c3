-- Rows that their identifiers don't tell apart.
use Rattle.std.proofs.Common.{◌≡◌, true, ◌==◌, ◌∙◌}
use Rattle.std.proofs.lemmas.Bool.{and_parts, eqb-true}
use Rattle.std.specs.Cmp.{IsTotalOrder, on_total}
use Rattle.hv_base.specs.declared.ids.RowId.{RowId}
use Rattle.hv_base.specs.Identifiers.{row_id_eq, row_id_total, row_id_ties}
use Rattle.hv_law_visible.specs.History.{write_of, is_row}
use Rattle.hv_law_visible.specs.Visible.{by_id}

-- they were inserted by one write
pub row-write : (x y : RowId) → is_row x y ≡ true → write_of x ≡ write_of y
row-write x y e =
    let tied : row_id_eq x y ≡ true = row_id_ties x y ∙ e in
    eqb-true x.write.0 y.write.0 (and_parts (x.write.0 == y.write.0) _ tied).0

pub by_id-total : {Found : Type 0} (id_of : Found → RowId) → IsTotalOrder (by_id id_of)
by_id-total id_of = on_total id_of row_id_total
