use Rattle.std.proofs.Common.{sym, ◌∙◌}
use Rattle.hv_values_text.proofs.Known.{into_part, into_table_part}
use Rattle.hv_values_text.proofs.insert.into.Goals as goal

pub returns-then-not-sees_word-clause-part : goal.returns-then-not-sees_word-clause-part
returns-then-not-sees_word-clause-part c = into_part c.in_ok-expect_word.ensures.front

pub returns-clause-part : goal.returns-clause-part
returns-clause-part c = into_table_part c.in_ok-expect_word.ensures.front (sym c.sees_word.ensures ∙ c.if-not-sees_word.false, c.pass_word.ensures)
