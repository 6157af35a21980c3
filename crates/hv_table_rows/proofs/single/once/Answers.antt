use Rattle.std.proofs.Common.{sym, ap, ◌∙◌}
use Rattle.hv_table_rows.specs.Rising.{rise}
use Rattle.hv_table_rows.proofs.Onces.{once-rising}
use Rattle.hv_table_rows.proofs.single.once.Goals as goal

pub returns-then-rise : goal.returns-then-rise
returns-then-rise c =
    once-rising c.args.rows.items (ap rise (sym c.as_slice.ensures.value) ∙ sym c.rise.ensures ∙ c.if-rise.true)
