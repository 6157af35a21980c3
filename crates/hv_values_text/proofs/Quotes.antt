-- How far a text in quotes goes, by what the code finds between the quotes.
use Rattle.std.proofs.Common.{◌≡◌, ◌≢◌, ℕ, ◌<◌, Bool, true, false, cond, nat_lt, Option, Some, None, Result, Ok, take, drop, arith, refl, sym, ap, ◌∙◌}
use Rattle.std.specs.Prelude.{slice_index}
use Rattle.std.specs.List.{prefix_len}
use Rattle.std.specs.Str.{IsUtf8, is_utf8}
use Rattle.std.proofs.lemmas.Bool.Decides.{nat_tests}
use Rattle.std.proofs.lemmas.Str.{IsUtf8-from_is_utf8}
use Rattle.hv_ast.specs.Tokens.{Text, Fault, is_quote, closing, unescaped}
use Rattle.hv_lex.specs.declared.fault.LexFault.{LexFault}
use Rattle.hv_lex.specs.declared.fault.LexFault.TheVariants as lexing
use Rattle.hv_lex.specs.Lexed.{Tells}
use Rattle.hv_values_text.specs.declared.fault.Unread.TheVariants as unread
use Rattle.hv_values_text.specs.Fronts.{next_of, after_next, is_plain}
use Rattle.hv_values_text.specs.Passing.{unread_by}
use Rattle.hv_values_text.specs.Ways.{is_content, behind_quote, quoted}
use Rattle.hv_values_text.proofs.Begun.{plain_closes}

-- ---- tests

pub small_passes : (a b : ℕ) → a < b → nat_lt a b ≡ true
small_passes a b below = grind (arith, nat_tests)

pub large_fails : (a b : ℕ) → (a < b → ⊥) → nat_lt a b ≡ false
large_fails a b large = by_test (nat_lt a b) refl
  where
    small : nat_lt a b ≡ true → a < b
    small test = grind (arith, nat_tests)

    by_test : (other : Bool) → nat_lt a b ≡ other → nat_lt a b ≡ false
    by_test true test = absurd (large (small test))
    by_test false test = test

pub no_text : (bytes : Text) → (IsUtf8 bytes → ⊥) → is_utf8 bytes ≡ false
no_text bytes other = by_test (is_utf8 bytes) refl
  where
    by_test : (b : Bool) → is_utf8 bytes ≡ b → is_utf8 bytes ≡ false
    by_test true test = absurd (other (IsUtf8-from_is_utf8 bytes test))
    by_test false test = test

-- ---- by what stands before the closing quote

module _ (quote n : ℕ) (inner text : Text) (first : quote ≡ next_of text) (others : inner ≡ after_next text) (opens : is_quote quote ≡ true)
    (closes : closing quote false inner ≡ Some n) where
  closed : quoted text ≡ cond (is_content (unescaped false 1 (take n inner))) (Some (drop 1 (drop n inner))) None
  unfolding quoted
  closed =
      ap (λ (q : ℕ). cond (is_quote q) (behind_quote (after_next text) (closing q false (after_next text))) None) (sym first)
      ∙ ap (λ (left : Text). cond (is_quote quote) (behind_quote left (closing quote false left)) None) (sym others)
      ∙ ap (λ (b : Bool). cond b (behind_quote inner (closing quote false inner)) None) opens
      ∙ ap (behind_quote inner) closes

  pub content_passes : (content last rest : Text) → unescaped false 1 (take n inner) ≡ Ok content → is_utf8 content ≡ true → last ≡ drop n inner
      → rest ≡ drop 1 last → quoted text ≡ Some rest
  content_passes content last rest stands utf8 ends cut =
      closed ∙ ap (λ (b : Bool). cond b (Some (drop 1 (drop n inner))) None) (ap is_content stands ∙ utf8)
      ∙ ap (λ (t : Text). Some t) (sym (cut ∙ ap (λ (t : Text). drop 1 t) ends))

  pub content_fails : (content : Text) → unescaped false 1 (take n inner) ≡ Ok content → is_utf8 content ≡ false → quoted text ≡ None
  content_fails content stands other = closed ∙ ap (λ (b : Bool). cond b (Some (drop 1 (drop n inner))) None) (ap is_content stands ∙ other)

  -- what stands there has a fault
  pub escape_fails : (fault : LexFault) → Tells fault (unescaped false 1 (take n inner)) → unread_by fault ≢ unread.NoMemory → quoted text ≡ None
  escape_fails (lexing.BadCharacter at) told other = closed ∙ ap (λ (found : Result Text Fault). cond (is_content found) (Some (drop 1 (drop n inner))) None) told
  escape_fails (lexing.OpenString at) told other = closed ∙ ap (λ (found : Result Text Fault). cond (is_content found) (Some (drop 1 (drop n inner))) None) told
  escape_fails (lexing.WideNumber at) told other = closed ∙ ap (λ (found : Result Text Fault). cond (is_content found) (Some (drop 1 (drop n inner))) None) told
  escape_fails lexing.NoMemory told other = absurd (other refl)

-- ---- where no backslash stands before the next quote

module _ (quote n : ℕ) (inner last text : Text) (first : quote ≡ next_of text) (others : inner ≡ after_next text) (long : n ≡ prefix_len (is_plain quote) inner)
    (ends : last ≡ drop n inner) (opens : is_quote quote ≡ true) (closes : slice_index last 0 ≡ quote) where
  pub plain_passes : (content rest : Text) → content ≡ take n inner → is_utf8 content ≡ true → rest ≡ drop 1 last → quoted text ≡ Some rest
  plain_passes content rest stands utf8 cut =
      let found = plain_closes quote n inner last long ends opens closes in
      content_passes quote n inner text first others opens found.0 content last rest (found.1 ∙ ap (λ (t : Text). Ok t) (sym stands)) utf8 ends cut

  pub plain_fails : (content : Text) → content ≡ take n inner → is_utf8 content ≡ false → quoted text ≡ None
  plain_fails content stands other =
      let found = plain_closes quote n inner last long ends opens closes in
      content_fails quote n inner text first others opens found.0 content (found.1 ∙ ap (λ (t : Text). Ok t) (sym stands)) other
