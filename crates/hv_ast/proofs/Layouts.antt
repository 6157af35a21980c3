-- The tokens of a text lie in it in order, with spaces and comments between.
use Rattle.std.proofs.Common.{◌≡◌, ◌≢◌, ℕ, zero, suc, ◌+◌, ◌-◌, ◌^◌, ◌<◌, ◌≤◌, ◌⊎◌, inl, inr, Bool, true, false, not, ◌==◌, nat_eq, nat_le, Option, Some, None, Result, Ok, Err, List, [], ◌∷◌, ◌++◌, take, drop, length, get_or, All, arith, rules, refl, sym, ◌∙◌, subst, ap, codes}
use Rattle.std.specs.Prelude.{find, position, slice_index}
use Rattle.std.specs.List.{prefix_len, take_while, starts_with}
use Rattle.std.specs.Char.{is_ascii_digit}
use Rattle.std.specs.Str.Parse.{digits_value}
use Rattle.std.proofs.lemmas.Bool.Decides.{nat_tests, Decides-eqb}
use Rattle.std.proofs.lemmas.Slice.Eq.{starts_is}
use Rattle.std.proofs.lemmas.List.{get_or-take}
use Rattle.std.proofs.lemmas.List.Folds.{length-prefix_len}
use Rattle.std.proofs.lemmas.List.Sums.{take_while-cons, prefix_len_passes}
use Rattle.hv_ast.specs.declared.token.Lexeme.{Lexeme}
use Rattle.hv_ast.specs.declared.token.Token.{Token}
use Rattle.hv_ast.specs.declared.token.Symbol.{Symbol}
use Rattle.hv_ast.specs.Tokens.{Text, Fault, Front, gap, token, fault, Tokens, is_space, is_quote, is_backquote, is_printable, begins_word, continues_word, comment, word, number, lone, first_is, is_big_mark, string, string_until, closing, quoted, quoted_until, quoted_by, name_of, symbol, symbol_of, symbols, front, from_front, after_token, tokens_from, tokens_of}
use Rattle.hv_ast.specs.Layout.{IsSpace, IsComment, Layout, finished, passed, spelled, RiseFrom, PlacesRise, NothingBetween}
use Rattle.hv_ast.proofs.Fronts.{cond_both, LiesWithin, front_within}

-- ---- what a gap is

-- what stands there separates tokens, if it is no token
abbrev Separates : Text → Front → Type 0
Separates text (gap n) = IsSpace (take n text) ⊎ IsComment (take n text)
Separates text (token what n) = Unit {0}
Separates text (fault e) = Unit {0}

record SeparatesIt (text : Text) (f : Front) : Type 0 where
  part : Separates text f

lone_separates : (at : ℕ) (whole text : Text) (what : Lexeme) (n : ℕ) → SeparatesIt whole (lone at text what n)
lone_separates at whole text what n =
    cond_both (SeparatesIt whole) (first_is continues_word (drop n text)) _ _ (λ _. record { part = tt }) (λ _. record { part = tt })

number_separates : (at : ℕ) (text : Text) → SeparatesIt text (number at text)
number_separates at text =
    let n : ℕ = prefix_len is_ascii_digit text in
    cond_both (SeparatesIt text) (nat_le (2 ^ 63) (digits_value 10 (take n text))) _ _ (λ _. record { part = tt }) (λ _.
    cond_both (SeparatesIt text) (first_is is_big_mark (drop n text)) _ _
    (λ _. lone_separates at text text _ (n + 1))
    (λ _. lone_separates at text text _ n))

quoted_by_separates : (whole : Text) (n : ℕ) (text : Result Text Fault) → SeparatesIt whole (quoted_by n text)
quoted_by_separates whole n (Ok text) = record { part = tt }
quoted_by_separates whole n (Err e) = record { part = tt }

string_separates : (whole : Text) (at : ℕ) (rest : Text) (found : Option ℕ) → SeparatesIt whole (string_until at rest found)
string_separates whole at rest None = record { part = tt }
string_separates whole at rest (Some n) = quoted_by_separates whole (n + 2) _

name_separates : (whole : Text) (at : ℕ) (name : Text) (bad : Option ℕ) → SeparatesIt whole (name_of at name bad)
name_separates whole at [] bad = record { part = tt }
name_separates whole at (b ∷ name) None = record { part = tt }
name_separates whole at (b ∷ name) (Some bad) = record { part = tt }

quoted_separates : (whole : Text) (at : ℕ) (rest : Text) (found : Option ℕ) → SeparatesIt whole (quoted_until at rest found)
quoted_separates whole at rest None = record { part = tt }
quoted_separates whole at rest (Some n) = name_separates whole at (take n rest) _

symbol_separates : (whole : Text) (at : ℕ) (found : Option (Text × Symbol)) → SeparatesIt whole (symbol_of at found)
symbol_separates whole at None = record { part = tt }
symbol_separates whole at (Some s) = record { part = tt }

-- a run of characters that pass a test
run_passes : (p : ℕ → Bool) (P : ℕ → Type 0) → ((b : ℕ) → p b ≡ true → P b) → (text : Text) → All P (take_while p text)
run_passes p P holds text = λ k d within.
    let n : ℕ = prefix_len p text in
    let long = length-prefix_len p text in
    let below : k < n = omega arith in
    subst P (sym (get_or-take n text k d below)) (holds (get_or text k d) (prefix_len_passes p text k d below))

no_line_end : (b : ℕ) → not (b == 10) ≡ true → b ≢ 10
no_line_end b test same = grind (arith, nat_tests)

comment_separates : (text : Text) → starts_with nat_eq text (codes "--") ≡ true → SeparatesIt text (comment text)
comment_separates text begins =
    let p : ℕ → Bool = λ b. not (b == 10) in
    let whole : text ≡ codes "--" ++ drop 2 text = (starts_is Decides-eqb text (codes "--") (starts_with nat_eq text (codes "--")) refl).0 begins in
    let words : Text = take_while p (drop 2 text) in
    let split : take_while p (45 ∷ 45 ∷ drop 2 text) ≡ 45 ∷ 45 ∷ words =
    take_while-cons p 45 (45 ∷ drop 2 text) ∙ ap (λ (t : Text). 45 ∷ t) (take_while-cons p 45 (drop 2 text)) in
    record { part = inr (words, ap (take_while p) whole ∙ split, run_passes p (λ b. b ≢ 10) no_line_end (drop 2 text)) }

space_separates : (text : Text) → 0 < length text → is_space (slice_index text 0) ≡ true → SeparatesIt text (gap 1)
space_separates [] some space = absurd (omega arith)
space_separates (b ∷ rest) some space = record { part = inl (b, refl, space) }

front_separates : (at : ℕ) (text : Text) → 0 < length text → SeparatesIt text (front at text)
front_separates at text some =
    let first : ℕ = slice_index text 0 in
    cond_both (SeparatesIt text) (is_space first) _ _ (space_separates text some) (λ _.
    cond_both (SeparatesIt text) (starts_with nat_eq text (codes "--")) _ _ (comment_separates text) (λ _.
    cond_both (SeparatesIt text) (begins_word first) _ _ (λ _. record { part = tt }) (λ _.
    cond_both (SeparatesIt text) (is_ascii_digit first) _ _ (λ _. number_separates at text) (λ _.
    cond_both (SeparatesIt text) (is_quote first) _ _ (λ _. string_separates text at (drop 1 text) _) (λ _.
    cond_both (SeparatesIt text) (is_backquote first) _ _ (λ _. quoted_separates text at (drop 1 text) _) (λ _.
    symbol_separates text at _))))))

-- ---- the tokens of a text lie in it

after_token_Ok : (first : Token) (rest : Tokens) (all : List Token) → after_token first rest ≡ Ok all
    → (later : List Token) × (rest ≡ Ok later) × (first ∷ later ≡ all)
after_token_Ok first (Ok later) all same = (later, refl, cc)
after_token_Ok first (Err e) all same = cc

bounds_of : (size : ℕ) (f : Front) (n : ℕ) (what : Lexeme) → LiesWithin size f → f ≡ token what n → (1 ≤ n) × (n ≤ size)
bounds_of size f n what lies same = (subst (LiesWithin size) same lies).bounds

gap_some : (size : ℕ) (f : Front) (n : ℕ) → LiesWithin size f → f ≡ gap n → 1 ≤ n
gap_some size f n lies same = (subst (LiesWithin size) same lies).bounds.0

behind_piece : (at n b : ℕ) (rest : Text) (tokens : List Token) → 1 ≤ n
    → Layout (at + 1 + (n - 1)) (drop (n - 1) rest) tokens → Layout (at + n) (drop n (b ∷ rest)) tokens
behind_piece at zero b rest tokens some lies = absurd (omega arith)
behind_piece at (suc n) b rest tokens some lies =
    let less : suc n - 1 ≡ n = omega arith in
    let place : at + 1 + n ≡ at + suc n = omega arith in
    subst (λ (k : ℕ). Layout k (drop n rest) tokens) place
    (subst (λ (k : ℕ). Layout (at + 1 + k) (drop k rest) tokens) less lies)

from_here : (at b : ℕ) (rest : Text) (tokens : List Token) (f : Front) → front at (b ∷ rest) ≡ f
    → ((m : ℕ) (later : List Token) → tokens_from m (at + 1) rest ≡ Ok later → Layout (at + 1 + m) (drop m rest) later)
    → from_front at f (λ n. tokens_from (n - 1) (at + 1) rest) ≡ Ok tokens → Layout at (b ∷ rest) tokens
from_here at b rest tokens (gap n) begins later same =
    let text : Text = b ∷ rest in
    let whole : 0 < length text = omega arith in
    let some = gap_some (length text) (front at text) n (front_within at text whole) begins in
    let parts = (subst (SeparatesIt text) begins (front_separates at text whole)).part in
    passed at n text tokens parts (behind_piece at n b rest tokens some (later (n - 1) tokens same))
from_here at b rest tokens (token what n) begins later same =
    let text : Text = b ∷ rest in
    let whole : 0 < length text = omega arith in
    let bounds = bounds_of (length text) (front at text) n what (front_within at text whole) begins in
    let (others, found, all) = after_token_Ok (record { what = what; at = at }) (tokens_from (n - 1) (at + 1) rest) tokens same in
    subst (Layout at text) all
    (spelled at n what text others bounds.0 bounds.1 begins (behind_piece at n b rest others bounds.0 (later (n - 1) others found)))
from_here at b rest tokens (fault e) begins later same = cc

layout_from : (left at : ℕ) (text : Text) (tokens : List Token) → tokens_from left at text ≡ Ok tokens
    → Layout (at + left) (drop left text) tokens
layout_from zero at [] tokens same =
    let none : [] ≡ tokens = cc in subst (Layout (at + 0) []) none (finished (at + 0))
layout_from (suc n) at [] tokens same =
    let none : [] ≡ tokens = cc in subst (Layout (at + suc n) []) none (finished (at + suc n))
layout_from (suc n) at (b ∷ rest) tokens same =
    let place : at + 1 + n ≡ at + suc n = omega arith in
    subst (λ (k : ℕ). Layout k (drop n rest) tokens) place (layout_from n (at + 1) rest tokens same)
layout_from zero at (b ∷ rest) tokens same =
    let place : at ≡ at + 0 = omega arith in
    subst (λ (k : ℕ). Layout k (b ∷ rest) tokens) place
    (from_here at b rest tokens (front at (b ∷ rest)) refl (λ m later. layout_from m (at + 1) rest later) same)

pub nothing_between_lem : NothingBetween
unfolding tokens_of
nothing_between_lem text tokens same = layout_from 0 0 text tokens same

-- ---- places rise

rise_weaker : (low least : ℕ) (tokens : List Token) → low ≤ least → RiseFrom least tokens → RiseFrom low tokens
rise_weaker low least [] less rises = tt
rise_weaker low least (first ∷ rest) less rises = (omega (arith, rises.0), rises.1)

rise_from : {at : ℕ} {text : Text} {tokens : List Token} → Layout at text tokens → RiseFrom at tokens
rise_from (finished at) = tt
rise_from (passed at n text tokens gap_is rest) = rise_weaker at (at + n) tokens (omega arith) (rise_from rest)
rise_from (spelled at n what text tokens some few begins rest) =
    (omega arith, rise_weaker (at + 1) (at + n) tokens (omega arith) (rise_from rest))

pub places_rise_lem : PlacesRise
places_rise_lem text tokens same = rise_from (nothing_between_lem text tokens same)
