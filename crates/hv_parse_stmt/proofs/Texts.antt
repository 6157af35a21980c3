-- What a text spells, and its tree and its fault as functions of it.
use Rattle.std.proofs.Common.{◌≡◌, ◌⊎◌, ◌↔◌, inl, inr, Option, Some, None, Ok, Err, List, refl, sym, ap, subst, ◌∙◌}
use Rattle.std.specs.Option.{option_map}
use Rattle.hv_ast.specs.declared.token.Token.{Token}
use Rattle.hv_ast.specs.declared.statement.Stmt.{Stmt}
use Rattle.hv_ast.specs.declared.statement.Stmt.TheVariants as s
use Rattle.hv_ast.specs.declared.statement.Setting.{Setting}
use Rattle.hv_ast.specs.Tokens.{Text, Tokens, tokens_of}
use Rattle.hv_grammar.specs.Settings.{behind_set, setting_in}
use Rattle.hv_grammar.specs.StatementGrammar.{IsStatement}
use Rattle.hv_grammar.specs.StatementReading.{Answer, found, nesting, syntax, statement_of}
use Rattle.hv_grammar.specs.Texts.{TextFault, Syntax, Nesting, lexing_fault, Spells, SpelledBy, SpellsSetting, tree_of, tree_by, tree_in, fault_of, fault_by, fault_in, setting_fault}
use Rattle.hv_parse_stmt.specs.Exact.{TreeIsSpelled, OneTree, SpelledOrFaulty}
use Rattle.hv_parse_stmt.proofs.Told.{found_of, only_of}

by_setting : (setting : Option Setting) (tree : Stmt) → (option_map s.Set setting ≡ Some tree) ↔ SpellsSetting setting tree
by_setting (Some setting) tree = ((λ h. cc), (λ e. ap Some (sym e)))
by_setting None tree = ((λ h. absurd (cc)), (λ h. absurd h))

by_answer : (tokens : List Token) (tree : Stmt) (answer : Answer) → statement_of tokens ≡ answer → tree_in answer ≡ Some tree → IsStatement tokens tree
by_answer tokens tree (found one) e h = found_of tokens tree (e ∙ ap found (cc))
by_answer tokens tree (nesting at) e h = absurd (cc)
by_answer tokens tree syntax e h = absurd (cc)

by_tokens : (tokens : Tokens) (set : Option Text) (tree : Stmt) → (tree_by set tokens ≡ Some tree) ↔ SpelledBy set tokens tree
by_tokens tokens (Some rest) tree = by_setting (setting_in rest) tree
by_tokens (Ok tokens) None tree = ((λ h. by_answer tokens tree (statement_of tokens) refl h), (λ is. ap tree_in (only_of tokens tree is)))
by_tokens (Err fault) None tree = ((λ h. absurd (cc)), (λ h. absurd h))

pub tree_spelled : TreeIsSpelled
unfolding tree_of Spells
tree_spelled text tree = by_tokens (tokens_of text) (behind_set text) tree

pub one_tree_of : OneTree
one_tree_of text one other is also =
    let same : Some one ≡ Some other = sym ((tree_spelled text one).1 is) ∙ (tree_spelled text other).1 also in
    cc

-- ---- a text spells a statement or has a fault

abbrev Good : Option Text → Tokens → Type 0
Good set tokens = ((tree : Stmt) × SpelledBy set tokens tree) × (fault_by set tokens ≡ None)

abbrev Faulty : Option Text → Tokens → Type 0
Faulty set tokens = ((fault : TextFault) × (fault_by set tokens ≡ Some fault)) × ((tree : Stmt) → SpelledBy set tokens tree → ⊥)

setting_judged : (rest : Text) (tokens : Tokens) (setting : Option Setting) → setting_in rest ≡ setting → Good (Some rest) tokens ⊎ Faulty (Some rest) tokens
setting_judged rest tokens (Some setting) e =
    inl ((s.Set setting, subst (λ o. SpellsSetting o (s.Set setting)) (sym e) refl), ap setting_fault e)
setting_judged rest tokens None e = inr ((Syntax, ap setting_fault e), λ tree is. subst (λ o. SpellsSetting o tree) e is)

tokens_judged : (tokens : List Token) (answer : Answer) → statement_of tokens ≡ answer → Good None (Ok tokens) ⊎ Faulty None (Ok tokens)
tokens_judged tokens (found tree) e = inl ((tree, found_of tokens tree e), ap fault_in e)
tokens_judged tokens (nesting at) e = inr ((Nesting at, ap fault_in e), λ tree is. let same = sym e ∙ only_of tokens tree is in absurd (cc))
tokens_judged tokens syntax e = inr ((Syntax, ap fault_in e), λ tree is. let same = sym e ∙ only_of tokens tree is in absurd (cc))

judged : (tokens : Tokens) (set : Option Text) → Good set tokens ⊎ Faulty set tokens
judged tokens (Some rest) = setting_judged rest tokens (setting_in rest) refl
judged (Ok tokens) None = tokens_judged tokens (statement_of tokens) refl
judged (Err fault) None = inr ((lexing_fault fault, refl), λ tree is. is)

pub spelled_or_faulty : SpelledOrFaulty
unfolding fault_of Spells
spelled_or_faulty text = judged (tokens_of text) (behind_set text)
