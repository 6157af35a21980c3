-- What a text begins with: it is never empty, lies within the text, and the tokens go on behind it.
use Rattle.std.proofs.Common.{◌≡◌, ◌≢◌, ℕ, zero, suc, ◌+◌, ◌-◌, ◌^◌, ◌<◌, ◌≤◌, Bool, true, false, not, ◌||◌, ◌&&◌, ◌==◌, nat_eq, nat_le, cond, Option, Some, None, Result, Ok, Err, List, [], ◌∷◌, ◌++◌, take, drop, length, get_or, arith, refl, length-append, length-drop, length-take, ◌∙◌, subst, ap, codes}
use Rattle.std.specs.Prelude.{find, position, slice_index}
use Rattle.std.proofs.lemmas.Bool.Decides.{nat_tests, Decides-eqb}
use Rattle.std.specs.List.{prefix_len, starts_with, list_all}
use Rattle.std.specs.Str.Parse.{digits_value}
use Rattle.std.proofs.lemmas.Slice.Eq.{starts_is}
use Rattle.std.proofs.lemmas.List.Quantifiers.{position-Some}
use Rattle.std.specs.Char.{is_ascii_digit}
use Rattle.std.specs.Option.{option_map}
use Rattle.std.proofs.lemmas.List.Sums.{prefix_len-le-length}
use Rattle.std.proofs.lemmas.List.Folds.{length-prefix_len}
use Rattle.hv_ast.specs.declared.token.Lexeme.{Lexeme}
use Rattle.hv_ast.specs.declared.token.Symbol.{Symbol}
use Rattle.hv_ast.specs.Tokens.{Text, Fault, Front, gap, token, fault, Tokens, is_space, is_quote, is_backquote, begins_word, continues_word, word, number, lone, string, string_until, closing, quoted, quoted_until, quoted_by, name_of, first_is, is_big_mark, symbol_of, symbols, front, from_front, after_token, tokens_from}

-- ---- the tokens behind a front

tokens_skip : (n at : ℕ) (text : Text) → tokens_from n at text ≡ tokens_from 0 (at + n) (drop n text)
tokens_skip zero at text = ap (λ (place : ℕ). tokens_from 0 place text) (omega arith)
tokens_skip (suc n) at [] = refl
tokens_skip (suc n) at (b ∷ rest) =
    tokens_skip n (at + 1) rest
    ∙ ap (λ (place : ℕ). tokens_from 0 place (drop n rest)) (omega arith)

-- what is left behind the first n bytes
tokens_behind : (n at b : ℕ) (rest : Text) → 1 ≤ n
    → tokens_from (n - 1) (at + 1) rest ≡ tokens_from 0 (at + n) (drop n (b ∷ rest))
tokens_behind zero at b rest some = absurd (omega arith)
tokens_behind (suc n) at b rest some =
    ap (λ (left : ℕ). tokens_from left (at + 1) rest) (omega arith)
    ∙ tokens_skip n (at + 1) rest
    ∙ ap (λ (place : ℕ). tokens_from 0 place (drop n rest)) (omega arith)

pub tokens_gap : (at n : ℕ) (text : Text) → 0 < length text → 1 ≤ n → front at text ≡ gap n
    → tokens_from 0 at text ≡ tokens_from 0 (at + n) (drop n text)
tokens_gap at n [] some long begins = absurd (omega arith)
tokens_gap at n (b ∷ rest) some long begins =
    ap (λ (f : Front). from_front at f (λ k. tokens_from (k - 1) (at + 1) rest)) begins
    ∙ tokens_behind n at b rest long

pub tokens_token : (at n : ℕ) (what : Lexeme) (text : Text) → 0 < length text → 1 ≤ n → front at text ≡ token what n
    → tokens_from 0 at text ≡ after_token (record { what = what; at = at }) (tokens_from 0 (at + n) (drop n text))
tokens_token at n what [] some long begins = absurd (omega arith)
tokens_token at n what (b ∷ rest) some long begins =
    ap (λ (f : Front). from_front at f (λ k. tokens_from (k - 1) (at + 1) rest)) begins
    ∙ ap (λ (t : Tokens). after_token (record { what = what; at = at }) t) (tokens_behind n at b rest long)

-- ---- a front is not empty and lies within its text

abbrev pub IsWithin : ℕ → Front → Type 0
IsWithin size (gap n) = (1 ≤ n) × (n ≤ size)
IsWithin size (token what n) = (1 ≤ n) × (n ≤ size)
IsWithin size (fault e) = Unit {0}

pub cond_both : {A : Type 0} (P : A → Type 0) (b : Bool) (x y : A) → (b ≡ true → P x) → (b ≡ false → P y) → P (cond b x y)
cond_both P true x y yes_holds no_holds = yes_holds refl
cond_both P false x y yes_holds no_holds = no_holds refl

pub record LiesWithin (size : ℕ) (front : Front) : Type 0 where
  pub bounds : IsWithin size front

prefix_some : (p : ℕ → Bool) (text : Text) → 0 < length text → p (slice_index text 0) ≡ true → 1 ≤ prefix_len p text
prefix_some p [] some first = absurd (omega arith)
prefix_some p (b ∷ rest) some first = rw first (omega arith)

prefix_within : (p : ℕ → Bool) (text : Text) → 0 < length text → p (slice_index text 0) ≡ true
    → (1 ≤ prefix_len p text) × (prefix_len p text ≤ length text)
prefix_within p text some first = (prefix_some p text some first, prefix_len-le-length p text)

no_line_end : (b : ℕ) → is_space b ≡ false → not (b == 10) ≡ true
no_line_end b plain = grind (arith, nat_tests)

word_goes_on : (b : ℕ) → begins_word b ≡ true → continues_word b ≡ true
word_goes_on b begins = grind (arith, nat_tests)

word_within : (text : Text) → 0 < length text → begins_word (slice_index text 0) ≡ true → IsWithin (length text) (word text)
word_within text some begins =
    let inside = prefix_within continues_word text some (word_goes_on (slice_index text 0) begins) in
    let long = length-prefix_len continues_word text in
    (omega (arith, inside.0), omega (arith, inside.1))

lone_within : (size at : ℕ) (text : Text) (what : Lexeme) (n : ℕ) → 1 ≤ n → n ≤ size → LiesWithin size (lone at text what n)
lone_within size at text what n some few =
    cond_both (LiesWithin size) (first_is continues_word (drop n text)) _ _
    (λ _. record { bounds = tt }) (λ _. record { bounds = (some, few) })

first_some : (p : ℕ → Bool) (text : Text) → first_is p text ≡ true → 0 < length text
first_some p [] holds = cc
first_some p (b ∷ rest) holds = omega arith

number_within : (at : ℕ) (text : Text) → 0 < length text → is_ascii_digit (slice_index text 0) ≡ true
    → LiesWithin (length text) (number at text)
number_within at text some digit =
    let n : ℕ = prefix_len is_ascii_digit text in
    let inside = prefix_within is_ascii_digit text some digit in
    cond_both (LiesWithin (length text)) (nat_le (2 ^ 63) (digits_value 10 (take n text))) _ _ (λ _. record { bounds = tt }) (λ _.
    cond_both (LiesWithin (length text)) (first_is is_big_mark (drop n text)) _ _
    (λ marked.
    let behind : 0 < length (drop n text) = first_some is_big_mark (drop n text) marked in
    let room : n + 1 ≤ length text = omega (arith, length-drop n text) in
    lone_within (length text) at text _ (n + 1) (omega arith) room)
    (λ _. lone_within (length text) at text _ n inside.0 inside.1))

-- ---- strings

-- a place in the text that holds the quote
abbrev pub IsQuoteAt : ℕ → Text → ℕ → Type 0
IsQuoteAt quote text n = (n < length text) × (get_or text n 0 ≡ quote)

later_quote : (quote b : ℕ) (rest : Text) (later : Option ℕ) → ((m : ℕ) → later ≡ Some m → IsQuoteAt quote rest m)
    → (n : ℕ) → option_map suc later ≡ Some n → IsQuoteAt quote (b ∷ rest) n
later_quote quote b rest None holds n found = cc
later_quote quote b rest (Some m) holds n found =
    let inside : IsQuoteAt quote rest m = holds m refl in
    let one : suc m ≡ n = cc in
    subst (IsQuoteAt quote (b ∷ rest)) one (omega (arith, inside.0), inside.1)

first_quote : (shut : Bool) (quote b : ℕ) (taken : Bool) (rest : Text) (later : Option ℕ)
    → (not taken && b == quote) ≡ shut → ((m : ℕ) → later ≡ Some m → IsQuoteAt quote rest m)
    → (n : ℕ) → cond shut (Some 0) (option_map suc later) ≡ Some n → IsQuoteAt quote (b ∷ rest) n
first_quote true quote b taken rest later test holds n found =
    let zero_is : 0 ≡ n = cc in
    let same : b ≡ quote = grind (arith, nat_tests) in
    subst (IsQuoteAt quote (b ∷ rest)) zero_is (omega arith, same)
first_quote false quote b taken rest later test holds n found = later_quote quote b rest later holds n found

-- the closing quote is one of the bytes
pub closing_within : (quote : ℕ) (taken : Bool) (text : Text) (n : ℕ) → closing quote taken text ≡ Some n → IsQuoteAt quote text n
closing_within quote taken [] n found = cc
closing_within quote taken (b ∷ rest) n found =
    first_quote (not taken && b == quote) quote b taken rest (closing quote (not taken && b == 92) rest) refl
    (closing_within quote (not taken && b == 92) rest) n found

quoted_by_within : (size n : ℕ) (text : Result Text Fault) → 1 ≤ n → n ≤ size → IsWithin size (quoted_by n text)
quoted_by_within size n (Ok text) some few = (some, few)
quoted_by_within size n (Err e) some few = tt

string_until_within : (at quote : ℕ) (rest : Text) (found : Option ℕ) → closing quote false rest ≡ found
    → IsWithin (length rest + 1) (string_until at rest found)
string_until_within at quote rest None same = tt
string_until_within at quote rest (Some n) same =
    let inside : IsQuoteAt quote rest n = closing_within quote false rest n same in
    quoted_by_within (length rest + 1) (n + 2) _ (omega arith) (omega (arith, inside.0))

-- ---- identifiers in backquotes

name_within : (size at : ℕ) (name : Text) (bad : Option ℕ) → length name + 2 ≤ size → IsWithin size (name_of at name bad)
name_within size at [] bad few = tt
name_within size at (b ∷ name) None few = (omega arith, few)
name_within size at (b ∷ name) (Some bad) few = tt

quoted_until_within : (at : ℕ) (rest : Text) (found : Option ℕ) → position is_backquote rest ≡ found
    → IsWithin (length rest + 1) (quoted_until at rest found)
quoted_until_within at rest None same = tt
quoted_until_within at rest (Some n) same =
    let inside = position-Some is_backquote rest n 0 same in
    name_within (length rest + 1) at (take n rest) _ (omega (arith, length-take n rest, inside.0))

-- ---- symbols

abbrev Row : Type 0
Row = Text × Symbol

and_parts : (a b : Bool) → (a && b) ≡ true → (a ≡ true) × (b ≡ true)
and_parts true b both = (refl, both)
and_parts false b both = cc

passes_here : (p q : Row → Bool) (x s : Row) (later : Option Row) (hit : Bool) → p x ≡ hit → q x ≡ true
    → (later ≡ Some s → (p s ≡ true) × (q s ≡ true)) → cond hit (Some x) later ≡ Some s
    → (p s ≡ true) × (q s ≡ true)
passes_here p q x s later true test pass rest found =
    let same : x ≡ s = cc in
    subst (λ (t : Row). (p t ≡ true) × (q t ≡ true)) same (test, pass)
passes_here p q x s later false test pass rest found = rest found

found_passes : (p q : Row → Bool) (all : List Row) (s : Row) → list_all q all ≡ true → find p all ≡ Some s
    → (p s ≡ true) × (q s ≡ true)
found_passes p q [] s pass found = cc
found_passes p q (x ∷ all) s pass found =
    let parts = and_parts (q x) (list_all q all) pass in
    passes_here p q x s (find p all) (p x) refl parts.0 (found_passes p q all s parts.1) found

begun_within : (text s : Text) → starts_with nat_eq text s ≡ true → length s ≤ length text
begun_within text s begins =
    let whole = (starts_is Decides-eqb text s (starts_with nat_eq text s) refl).0 begins in
    let long = ap {B = ℕ} length whole in
    omega (arith, long, length-append s (drop (length s) text))

symbol_until_within : (at : ℕ) (text : Text) (found : Option Row) → find (λ (row : Row). starts_with nat_eq text row.0) symbols ≡ found
    → IsWithin (length text) (symbol_of at found)
unfolding symbols
symbol_until_within at text None same = tt
symbol_until_within at text (Some s) same =
    let passes = found_passes (λ row. starts_with nat_eq text row.0) (λ row. nat_le 1 (length row.0)) symbols s refl same in
    let some : 1 ≤ length s.0 = grind (arith, nat_tests) in
    (some, begun_within text s.0 passes.0)

-- ---- all

pub front_within : (at : ℕ) (text : Text) → 0 < length text → LiesWithin (length text) (front at text)
front_within at text some =
    let first : ℕ = slice_index text 0 in
    let longer : length (drop 1 text) + 1 ≡ length text = omega (arith, length-drop 1 text) in
    cond_both (LiesWithin (length text)) (is_space first) _ _ (λ _. record { bounds = (omega arith, omega arith) }) (λ plain.
    cond_both (LiesWithin (length text)) (starts_with nat_eq text (codes "--")) _ _
    (λ _. record { bounds = prefix_within (λ b. not (b == 10)) text some (no_line_end first plain) }) (λ _.
    cond_both (LiesWithin (length text)) (begins_word first) _ _ (λ begins. record { bounds = word_within text some begins }) (λ _.
    cond_both (LiesWithin (length text)) (is_ascii_digit first) _ _ (number_within at text some) (λ _.
    cond_both (LiesWithin (length text)) (is_quote first) _ _
    (λ _. record {
      bounds = subst (λ (size : ℕ). IsWithin size (string at first (drop 1 text))) longer
          (string_until_within at first (drop 1 text) _ refl);
    }) (λ _.
    cond_both (LiesWithin (length text)) (is_backquote first) _ _
    (λ _. record {
      bounds = subst (λ (size : ℕ). IsWithin size (quoted at (drop 1 text))) longer
          (quoted_until_within at (drop 1 text) _ refl);
    }) (λ _.
    record { bounds = symbol_until_within at text _ refl }))))))
