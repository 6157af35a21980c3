use Rattle.std.proofs.Common.{sym, ◌∙◌}
use Rattle.hv_values_text.proofs.Known.{true_part, false_part}
use Rattle.hv_values_text.proofs.literals.truth.Goals as goal

pub returns-then-sees_word-clause-part : goal.returns-then-sees_word-clause-part
returns-then-sees_word-clause-part c = true_part (sym c.sees_word.ensures ∙ c.if-sees_word.true, c.pass_word.ensures)

pub returns-clause-part : goal.returns-clause-part
returns-clause-part c = false_part c.in_ok-expect_word.ensures.front
