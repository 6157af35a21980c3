use Rattle.std.proofs.Common.{◌≡◌, List, map, ap, ◌∙◌, subst}
use Rattle.std.specs.Prelude.{IfOk}
use Rattle.hv_value.specs.declared.row.Row.{Row}
use Rattle.hv_showing.specs.Fronts.{tables_then, info_row}
use Rattle.hv_showing.proofs.Listed.{rows-named}
use Rattle.hv_showing.proofs.showing.table_rows.Goals as goal

pub returns : goal.returns
returns c =
    subst (λ (all : List Row). IfOk c.info_rows.result (λ rows. rows.items ≡ all))
    (ap (map info_row) (c.as_slice.ensures ∙ c.in_ok-catalog.ensures.catalog) ∙ rows-named (tables_then c.args.book.now.entries c.args.front.position))
    c.info_rows.ensures
