use Rattle.std.proofs.Common.{sym, subst, ◌∙◌}
use Rattle.hv_grammar.specs.Texts.{Spells}
use Rattle.hv_values_text.proofs.Spelled.{nothing_left, text_spelled}
use Rattle.hv_values_text.proofs.insert.whole.Goals as goal

pub returns-clause-tree : goal.returns-clause-tree
returns-clause-tree c =
    subst (λ text. Spells text c.in_ok-tree.tree) c.new-cursor.ensures
    (text_spelled _ _ _ c.in_ok-tree.ensures.word c.in_ok-tree.ensures.part (nothing_left _ (sym c.is_done.ensures ∙ c.if-not-is_done.false)))
