use Rattle.std.proofs.Common.{sym, ◌∙◌}
use Rattle.hv_values_text.proofs.Joined.{part_same}
use Rattle.hv_values_text.proofs.Known.{columns_part, no_columns}
use Rattle.hv_values_text.proofs.columns.column_names.Goals as goal

pub returns-then-not-sees-clause-part : goal.returns-then-not-sees-clause-part
returns-then-not-sees-clause-part c = part_same (no_columns c.args.cursor.now) c.empty.ensures

pub returns-clause-part : goal.returns-clause-part
returns-clause-part c = columns_part (sym c.sees.ensures ∙ c.if-not-sees.false, c.pass.ensures) c.in_ok-found.ensures.part c.in_ok-expect.ensures.front
