use Rattle.std.proofs.Common.{sym, subst, ◌∙◌}
use Rattle.hv_values_text.specs.Bare.{SpellsWithout}
use Rattle.hv_values_text.proofs.Spelled.{nothing_left}
use Rattle.hv_values_text.proofs.Without.{text_without}
use Rattle.hv_values_text.proofs.skims.whole_over.Goals as goal

pub returns-clause-tree : goal.returns-clause-tree
returns-clause-tree c =
    subst (λ text. SpellsWithout text c.in_ok-tree.tree) c.new-cursor.ensures
    (text_without _ _ _ c.in_ok-tree.ensures.word c.in_ok-tree.ensures.part (nothing_left _ (sym c.is_done.ensures ∙ c.if-not-is_done.false)))
