use Rattle.std.proofs.Common.{IfOk, subst}
use Rattle.hv_values_text.specs.Bare.{SpellsWithout}
use Rattle.hv_values_text.specs.Passing.{Knows}
use Rattle.hv_values_text.specs.Ways.{is_insert_of_values}
use Rattle.hv_values_text.proofs.skims.skim_values.Goals as goal

pub returns-clause-tree : goal.returns-clause-tree
returns-clause-tree c = subst (λ text. IfOk c.whole_over.result (SpellsWithout text)) c.bytes.ensures.value c.whole_over.ensures.tree

pub returns-clause-known : goal.returns-clause-known
returns-clause-known c = subst (λ text. Knows (is_insert_of_values text) c.whole_over.result) c.bytes.ensures.value c.whole_over.ensures.known
