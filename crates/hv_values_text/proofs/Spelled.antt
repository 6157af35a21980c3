-- A whole text: an INSERT that nothing but spaces follows is the statement that the text spells.
use Rattle.std.proofs.Common.{◌≡◌, ℕ, zero, suc, Bool, true, false, cond, nat_eq, Option, Some, None, Ok, List, [], ◌∷◌, drop, map, arith, refl, sym, ap, ◌∙◌, subst, codes, bytes_eq}
use Rattle.std.specs.Prelude.{slice_index}
use Rattle.std.specs.List.{take_while, starts_with}
use Rattle.std.specs.Char.{to_ascii_lowercase}
use Rattle.hv_ast.specs.declared.token.Token.{Token}
use Rattle.hv_ast.specs.declared.statement.Stmt.{Stmt}
use Rattle.hv_ast.specs.Tokens.{Text, Tokens, is_space, continues_word, begins_word, tokens_from, tokens_of}
use Rattle.hv_grammar.specs.Nesting.{most_levels}
use Rattle.hv_grammar.specs.Settings.{behind_gaps, behind_word, behind_set}
use Rattle.hv_grammar.specs.StatementGrammar as st
use Rattle.hv_grammar.specs.StatementGrammar.{IsStatement}
use Rattle.hv_grammar.specs.Texts.{Spells, SpelledBy}
use Rattle.hv_values_text.specs.Fronts.{after_spaces, sees_word}
use Rattle.hv_values_text.specs.Parts.{IsPart, flat, flat_query}
use Rattle.hv_values_text.specs.Ways.{is_nothing}
use Rattle.hv_values_text.proofs.Begun.{spaces_passed, letters_are, begins_word_seen, word_no_dash, no_dashes}

-- where a word comes next, there is no comment before it
gaps_are_spaces : (text : Text) → begins_word (slice_index (after_spaces text) 0) ≡ true → behind_gaps false text ≡ after_spaces text
gaps_are_spaces [] begins = refl
gaps_are_spaces (b ∷ rest) begins = by_space (is_space b) begins (gaps_are_spaces rest)
  where
    no_gap : begins_word b ≡ true → cond (starts_with nat_eq (b ∷ rest) (codes "--")) (behind_gaps true rest) (b ∷ rest) ≡ b ∷ rest
    no_gap begins = ap (λ (dashes : Bool). cond dashes (behind_gaps true rest) (b ∷ rest)) (no_dashes b rest (word_no_dash b begins))

    by_space : (space : Bool) → begins_word (slice_index (cond space (after_spaces rest) (b ∷ rest)) 0) ≡ true
        → (begins_word (slice_index (after_spaces rest) 0) ≡ true → behind_gaps false rest ≡ after_spaces rest)
        → cond space (behind_gaps false rest) (cond (starts_with nat_eq (b ∷ rest) (codes "--")) (behind_gaps true rest) (b ∷ rest)) ≡ cond space (after_spaces rest) (b ∷ rest)
    by_space true begins later = later begins
    by_space false begins later = no_gap begins

-- a text that begins with INSERT is no SET text
no_set_word : (left : Text) → map to_ascii_lowercase (take_while continues_word left) ≡ codes "insert" → behind_word left ≡ None
no_set_word left letters = ap (λ (spelled : Text). cond (bytes_eq spelled (codes "set")) (Some (drop 3 left)) None) letters

no_set : (text : Text) → sees_word (codes "insert") text ≡ true → behind_set text ≡ None
unfolding behind_set
no_set text seen =
    ap behind_word (gaps_are_spaces text (begins_word_seen (codes "insert") text seen))
    ∙ no_set_word (after_spaces text) (letters_are (codes "insert") text seen)

spelled_by : (text : Text) (tree : Stmt) (tokens : List Token) → behind_set text ≡ None → tokens_of text ≡ Ok tokens → IsStatement tokens tree → Spells text tree
unfolding Spells
spelled_by text tree tokens none same is =
    subst (λ (set : Option Text). SpelledBy set (tokens_of text) tree) (sym none)
    (subst (λ (found : Tokens). SpelledBy None found tree) (sym same) is)

pub nothing_left : (text : Text) → is_nothing text ≡ true → text ≡ []
nothing_left [] nothing = refl
nothing_left (b ∷ rest) nothing = absurd (cc)

-- nothing but spaces has no tokens
done : (rest : Text) (at : ℕ) → after_spaces rest ≡ [] → tokens_from 0 at rest ≡ Ok []
done rest at none = (spaces_passed rest at).1 ∙ ap (tokens_from 0 (spaces_passed rest at).0) none

pub text_spelled : (text rest : Text) (tree : Stmt) → sees_word (codes "insert") text ≡ true → IsPart 1 (st.statement_over flat flat_query) tree text rest
    → after_spaces rest ≡ [] → Spells text tree
unfolding tokens_of st.statement
text_spelled text rest tree seen part none =
    let it = part.written 0 [] (done rest (part.place 0) none) in
    spelled_by text tree it.0 (no_set text seen) it.1 (record {
      nests = it.2.nests most_levels (omega arith);
      depth = suc zero;
      spelled = it.2.spelled;
    })
