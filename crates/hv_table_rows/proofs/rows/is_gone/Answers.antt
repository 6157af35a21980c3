use Rattle.std.proofs.Common.{◌∙◌}
use Rattle.hv_table_rows.specs.Orders.{row_at_total}
use Rattle.hv_choosing.proofs.Searching.{searched}
use Rattle.hv_table_rows.proofs.rows.is_gone.Goals as goal

pub returns : goal.returns
returns c =
    c.is_ok.ensures.value
    ∙ searched row_at_total c.args.gone.now c.args.row.now c.binary_search.result c.requires c.binary_search.ensures.bound c.binary_search.ensures.position
