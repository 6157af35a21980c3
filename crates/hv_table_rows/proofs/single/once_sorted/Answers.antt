use Rattle.std.proofs.Common.{map, sym, subst, List}
use Rattle.hv_logic.specs.declared.effect.Found.{Found}
use Rattle.hv_logic.specs.Rows.{found_cmp}
use Rattle.hv_table_rows.specs.Orders.{found_in}
use Rattle.hv_table_rows.specs.Reading.{AreOnce}
use Rattle.hv_table_rows.proofs.Onces.{if-ok, once-map}
use Rattle.hv_table_rows.proofs.single.once_sorted.Goals as goal

pub returns : goal.returns
returns c =
    if-ok c.founds.result _ _
    (λ found is.
    subst (AreOnce found_cmp c.args.rows.items) (sym is)
    (subst (λ (rows : List Found). AreOnce found_cmp rows (map found_in c.in_ok-rows.rows.items)) c.in_ok-placed.ensures
    (once-map c.in_ok-placed.field-0.items c.in_ok-rows.rows.items c.in_ok-rows.ensures)))
    c.founds.ensures
