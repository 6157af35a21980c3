-- The token that a text begins with, after spaces.
use Rattle.std.proofs.Common.{◌≡◌, ℕ, suc, ◌+◌, ◌-◌, ◌<◌, ◌≤◌, ◌^◌, Bool, true, false, not, ◌&&◌, ◌==◌, cond, nat_eq, nat_le, Some, Result, Ok, Err, [], ◌∷◌, take, drop, length, map, arith, refl, sym, ap, ◌∙◌, subst, codes, drop-drop}
use Rattle.std.specs.Prelude.{slice_index}
use Rattle.std.specs.List.{prefix_len, take_while, starts_with}
use Rattle.std.specs.Option.{option_map}
use Rattle.std.specs.Char.{is_ascii_digit, to_ascii_lowercase}
use Rattle.std.specs.Str.{str_eq_ignore_ascii_case}
use Rattle.std.specs.Str.Parse.{digits_value}
use Rattle.std.proofs.lemmas.Bool.Decides.{nat_tests}
use Rattle.std.proofs.lemmas.List.Folds.{length-prefix_len}
use Rattle.std.proofs.lemmas.Slice.Eq.{bytes_eq-Decides}
use Rattle.hv_ast.specs.declared.token.Lexeme.{Lexeme}
use Rattle.hv_ast.specs.declared.token.Lexeme.TheVariants as lexeme
use Rattle.hv_ast.specs.declared.token.Symbol.{Symbol}
use Rattle.hv_ast.specs.declared.token.Symbol.TheVariants as symbol
use Rattle.hv_ast.specs.declared.expr.Literal.{Literal}
use Rattle.hv_ast.specs.Tokens.{Text, Fault, Front, gap, token, is_space, is_quote, is_big_mark, begins_word, continues_word, word, number, number_of, first_is, string, string_until, closing, unescaped, behind, escape, is_refused_escape, bad_character, quoted_by, symbols, front, after_token, tokens_from}
use Rattle.hv_ast.proofs.Fronts.{cond_both, LiesWithin, front_within, tokens_gap, tokens_token}
use Rattle.hv_values_text.specs.Fronts.{after_spaces, next_of, after_next, IsMark, letters_of, after_letters, sees_word, IsWord, digits_of, after_digits, IsNumber, is_plain, IsQuotedBy, IsQuoted}

-- the text's first token is this one, and then come those of the rest
pub record Begins (what : Lexeme) (text rest : Text) : Type 0 where
  pub place : ℕ → ℕ
  pub to : ℕ → ℕ
  pub next : (at : ℕ) → tokens_from 0 at text ≡ after_token (record { what = what; at = place at }) (tokens_from 0 (to at) rest)

-- a test has one outcome
pub never : (b : Bool) → b ≡ true → b ≡ false → ⊥
never b is other = absurd (cc)

same_from_test : (a b : ℕ) → (a == b) ≡ true → a ≡ b
same_from_test a b test = grind (arith, nat_tests)

test_from_same : (a b : ℕ) → a ≡ b → (a == b) ≡ true
test_from_same a b same = grind (arith, nat_tests)

-- ---- spaces

front_space : (at b : ℕ) (rest : Text) → is_space b ≡ true → front at (b ∷ rest) ≡ gap 1
front_space at b rest space = cond_both (λ (f : Front). f ≡ gap 1) (is_space b) _ _ (λ _. refl) (λ other. absurd (never (is_space b) space other))

pub spaces_passed : (text : Text) (at : ℕ) → (to : ℕ) × (tokens_from 0 at text ≡ tokens_from 0 to (after_spaces text))
spaces_passed [] at = (at, refl)
spaces_passed (b ∷ rest) at =
    cond_both (λ (left : Text). (to : ℕ) × (tokens_from 0 at (b ∷ rest) ≡ tokens_from 0 to left)) (is_space b) (after_spaces rest) (b ∷ rest)
    (λ space.
    let later = spaces_passed rest (at + 1) in
    (later.0, tokens_gap at 1 (b ∷ rest) (omega arith) (omega arith) (front_space at b rest space) ∙ later.1))
    (λ _. (at, refl))

-- ---- a token

token_some : (size n : ℕ) (what : Lexeme) → LiesWithin size (token what n) → (1 ≤ n) × (n ≤ size)
token_some size n what lies = lies.bounds

pub begins_at : (what : Lexeme) (n : ℕ) (text rest : Text) → 0 < length (after_spaces text)
    → ((at : ℕ) → front at (after_spaces text) ≡ token what n) → rest ≡ drop n (after_spaces text) → Begins what text rest
begins_at what n text rest some begins cut = record {
  place = λ at. (spaces_passed text at).0;
  to = λ at. (spaces_passed text at).0 + n;
  next = λ at.
      let here : ℕ = (spaces_passed text at).0 in
      let lies : LiesWithin (length (after_spaces text)) (token what n) =
      subst (LiesWithin (length (after_spaces text))) (begins here) (front_within here (after_spaces text) some) in
      let bounds = token_some (length (after_spaces text)) n what lies in
      (spaces_passed text at).1
      ∙ tokens_token here n what (after_spaces text) some bounds.0 (begins here)
      ∙ ap (λ (left : Text). after_token (record { what = what; at = here }) (tokens_from 0 (here + n) left)) (sym cut);
}

-- ---- marks

first_is_it : (byte : ℕ) (rest : Text) → 0 < byte → (slice_index rest 0 == byte) ≡ true → rest ≡ byte ∷ drop 1 rest
first_is_it byte [] some test = let e : 0 ≡ byte = same_from_test 0 byte test in absurd (omega arith)
first_is_it byte (b ∷ rest) some test = ap (λ (c : ℕ). c ∷ rest) (same_from_test b byte test)

some_length : (text rest : Text) (b : ℕ) → text ≡ b ∷ rest → 0 < length text
some_length text rest b same = subst (λ (left : Text). 0 < length left) (sym same) (omega arith)

pub mark_begins : (byte : ℕ) (mark : Symbol) (text rest : Text) → 0 < byte → IsMark byte text rest
    → ((at : ℕ) → front at (byte ∷ rest) ≡ token (lexeme.Symbol mark) 1) → Begins (lexeme.Symbol mark) text rest
mark_begins byte mark text rest some is begins =
    let whole : after_spaces text ≡ byte ∷ rest = first_is_it byte (after_spaces text) some is.0 ∙ ap (λ (left : Text). byte ∷ left) (sym is.1) in
    begins_at (lexeme.Symbol mark) 1 text rest (some_length (after_spaces text) rest byte whole) (λ at. ap (front at) whole ∙ begins at) is.1

pub open_front : (at : ℕ) (rest : Text) → front at (40 ∷ rest) ≡ token (lexeme.Symbol symbol.Open) 1
unfolding symbols
open_front at rest = refl

pub close_front : (at : ℕ) (rest : Text) → front at (41 ∷ rest) ≡ token (lexeme.Symbol symbol.Close) 1
unfolding symbols
close_front at rest = refl

pub comma_front : (at : ℕ) (rest : Text) → front at (44 ∷ rest) ≡ token (lexeme.Symbol symbol.Comma) 1
unfolding symbols
comma_front at rest = refl

turned_test : (a b : ℕ) → (b == a) ≡ false → (a == b) ≡ false
turned_test a b other = grind (arith, nat_tests)

pub equal_front : (at : ℕ) (rest : Text) → (slice_index rest 0 == 61) ≡ false → front at (61 ∷ rest) ≡ token (lexeme.Symbol symbol.Equal) 1
unfolding symbols
equal_front at [] other = refl
equal_front at (b ∷ rest) other = rw (turned_test 61 b other)

pub minus_front : (at : ℕ) (rest : Text) → (slice_index rest 0 == 45) ≡ false → front at (45 ∷ rest) ≡ token (lexeme.Symbol symbol.Minus) 1
unfolding symbols
minus_front at [] other = refl
minus_front at (b ∷ rest) other = rw (turned_test 45 b other)

-- ---- what begins otherwise than a comment

pub no_dashes : (b : ℕ) (rest : Text) → (45 == b) ≡ false → starts_with nat_eq (b ∷ rest) (codes "--") ≡ false
no_dashes b rest other = rw other

-- ---- words

word_no_space : (b : ℕ) → begins_word b ≡ true → is_space b ≡ false
word_no_space b begins = grind (arith, nat_tests)

pub word_no_dash : (b : ℕ) → begins_word b ≡ true → (45 == b) ≡ false
word_no_dash b begins = grind (arith, nat_tests)

word_front : (at b : ℕ) (rest : Text) → begins_word b ≡ true → front at (b ∷ rest) ≡ word (b ∷ rest)
word_front at b rest begins =
    cond_both (λ (f : Front). f ≡ word (b ∷ rest)) (is_space b) _ _ (λ space. absurd (never (is_space b) space (word_no_space b begins))) (λ _.
    cond_both (λ (f : Front). f ≡ word (b ∷ rest)) (starts_with nat_eq (b ∷ rest) (codes "--")) _ _
    (λ dashes. absurd (never (starts_with nat_eq (b ∷ rest) (codes "--")) dashes (no_dashes b rest (word_no_dash b begins)))) (λ _.
    cond_both (λ (f : Front). f ≡ word (b ∷ rest)) (begins_word b) _ _ (λ _. refl) (λ other. absurd (never (begins_word b) begins other))))

word_at : (left : Text) → begins_word (slice_index left 0) ≡ true
    → (0 < length left) × ((at : ℕ) → front at left ≡ token (lexeme.Word (map to_ascii_lowercase (take_while continues_word left))) (prefix_len continues_word left))
word_at [] begins = absurd (cc)
word_at (b ∷ rest) begins =
    (omega arith, λ at. word_front at b rest begins ∙ ap (token (lexeme.Word (map to_ascii_lowercase (take_while continues_word (b ∷ rest))))) (length-prefix_len continues_word (b ∷ rest)))

pub word_begins : (text rest : Text) → begins_word (next_of text) ≡ true → rest ≡ after_letters text
    → Begins (lexeme.Word (map to_ascii_lowercase (letters_of text))) text rest
word_begins text rest begins cut =
    let found = word_at (after_spaces text) begins in
    begins_at (lexeme.Word (map to_ascii_lowercase (letters_of text))) (prefix_len continues_word (after_spaces text)) text rest found.0 found.1 cut

both : (a b : Bool) → (a && b) ≡ true → (a ≡ true) × (b ≡ true)
both true b test = (refl, test)
both false b test = absurd (cc)

-- the letters of a word that is seen, in lower case
pub letters_are : (word text : Text) → sees_word word text ≡ true → map to_ascii_lowercase (letters_of text) ≡ map to_ascii_lowercase word
letters_are word text seen =
    (bytes_eq-Decides (map to_ascii_lowercase (letters_of text)) (map to_ascii_lowercase word)).0
    (both (begins_word (next_of text)) (str_eq_ignore_ascii_case (letters_of text) word) seen).1

pub begins_word_seen : (word text : Text) → sees_word word text ≡ true → begins_word (next_of text) ≡ true
begins_word_seen word text seen = (both (begins_word (next_of text)) (str_eq_ignore_ascii_case (letters_of text) word) seen).0

pub keyword_begins : (word text rest : Text) → IsWord word text rest → Begins (lexeme.Word (map to_ascii_lowercase word)) text rest
keyword_begins word text rest is =
    subst (λ (spelling : Text). Begins (lexeme.Word spelling) text rest) (letters_are word text is.0) (word_begins text rest (begins_word_seen word text is.0) is.1)

-- ---- numbers

digit_no_space : (b : ℕ) → is_ascii_digit b ≡ true → is_space b ≡ false
digit_no_space b digit = grind (arith, nat_tests)

digit_no_dash : (b : ℕ) → is_ascii_digit b ≡ true → (45 == b) ≡ false
digit_no_dash b digit = grind (arith, nat_tests)

digit_no_word : (b : ℕ) → is_ascii_digit b ≡ true → begins_word b ≡ false
digit_no_word b digit = grind (arith, nat_tests)

digit_front : (at b : ℕ) (rest : Text) → is_ascii_digit b ≡ true → front at (b ∷ rest) ≡ number at (b ∷ rest)
digit_front at b rest digit =
    cond_both (λ (f : Front). f ≡ number at (b ∷ rest)) (is_space b) _ _ (λ space. absurd (never (is_space b) space (digit_no_space b digit))) (λ _.
    cond_both (λ (f : Front). f ≡ number at (b ∷ rest)) (starts_with nat_eq (b ∷ rest) (codes "--")) _ _
    (λ dashes. absurd (never (starts_with nat_eq (b ∷ rest) (codes "--")) dashes (no_dashes b rest (digit_no_dash b digit)))) (λ _.
    cond_both (λ (f : Front). f ≡ number at (b ∷ rest)) (begins_word b) _ _ (λ begins. absurd (never (begins_word b) begins (digit_no_word b digit))) (λ _.
    cond_both (λ (f : Front). f ≡ number at (b ∷ rest)) (is_ascii_digit b) _ _ (λ _. refl) (λ other. absurd (never (is_ascii_digit b) digit other)))))

no_mark_byte : (b : ℕ) → continues_word b ≡ false → is_big_mark b ≡ false
no_mark_byte b ends = grind (arith, nat_tests)

no_mark : (rest : Text) → continues_word (slice_index rest 0) ≡ false → first_is is_big_mark rest ≡ false
no_mark [] ends = refl
no_mark (b ∷ rest) ends = no_mark_byte b ends

no_letter : (rest : Text) → continues_word (slice_index rest 0) ≡ false → first_is continues_word rest ≡ false
no_letter [] ends = refl
no_letter (b ∷ rest) ends = ends

not_wide : (bound value : ℕ) → value < bound → nat_le bound value ≡ false
not_wide bound value below = grind (arith, nat_tests)

number_token : (at : ℕ) (left : Text) → digits_value 10 (take (prefix_len is_ascii_digit left) left) < 2 ^ 63
    → continues_word (slice_index (drop (prefix_len is_ascii_digit left) left) 0) ≡ false
    → number at left ≡ token (number_of (digits_value 10 (take (prefix_len is_ascii_digit left) left))) (prefix_len is_ascii_digit left)
number_token at left small ends =
    let n : ℕ = prefix_len is_ascii_digit left in
    let value : ℕ = digits_value 10 (take n left) in
    let P : Front → Type 0 = λ (f : Front). f ≡ token (number_of value) n in
    cond_both P (nat_le (2 ^ 63) value) _ _ (λ wide. absurd (never (nat_le (2 ^ 63) value) wide (not_wide (2 ^ 63) value small))) (λ _.
    cond_both P (first_is is_big_mark (drop n left)) _ _ (λ marked. absurd (never (first_is is_big_mark (drop n left)) marked (no_mark (drop n left) ends))) (λ _.
    cond_both P (first_is continues_word (drop n left)) _ _ (λ goes_on. absurd (never (first_is continues_word (drop n left)) goes_on (no_letter (drop n left) ends))) (λ _. refl)))

number_at : (left : Text) → is_ascii_digit (slice_index left 0) ≡ true → digits_value 10 (take (prefix_len is_ascii_digit left) left) < 2 ^ 63
    → continues_word (slice_index (drop (prefix_len is_ascii_digit left) left) 0) ≡ false
    → (0 < length left) × ((at : ℕ) → front at left ≡ token (number_of (digits_value 10 (take (prefix_len is_ascii_digit left) left))) (prefix_len is_ascii_digit left))
number_at [] digit small ends = absurd (cc)
number_at (b ∷ rest) digit small ends = (omega arith, λ at. digit_front at b rest digit ∙ number_token at (b ∷ rest) small ends)

pub number_begins : (literal : Literal) (text rest : Text) → IsNumber literal text rest → Begins (number_of (digits_value 10 (digits_of text))) text rest
number_begins literal text rest is =
    let ends : continues_word (slice_index (after_digits text) 0) ≡ false = subst (λ (left : Text). continues_word (slice_index left 0) ≡ false) is.4 is.3 in
    let found = number_at (after_spaces text) is.0 is.1 ends in
    begins_at (number_of (digits_value 10 (digits_of text))) (prefix_len is_ascii_digit (after_spaces text)) text rest found.0 found.1 is.4

-- ---- texts in quotes

quote_no_space : (b : ℕ) → is_quote b ≡ true → is_space b ≡ false
quote_no_space b quote = grind (arith, nat_tests)

quote_no_dash : (b : ℕ) → is_quote b ≡ true → (45 == b) ≡ false
quote_no_dash b quote = grind (arith, nat_tests)

quote_no_word : (b : ℕ) → is_quote b ≡ true → begins_word b ≡ false
quote_no_word b quote = grind (arith, nat_tests)

quote_no_digit : (b : ℕ) → is_quote b ≡ true → is_ascii_digit b ≡ false
quote_no_digit b quote = grind (arith, nat_tests)

quote_some : (b : ℕ) → is_quote b ≡ true → 0 < b
quote_some b quote = grind (arith, nat_tests)

quote_front : (at b : ℕ) (rest : Text) → is_quote b ≡ true → front at (b ∷ rest) ≡ string at b rest
quote_front at b rest quote =
    cond_both (λ (f : Front). f ≡ string at b rest) (is_space b) _ _ (λ space. absurd (never (is_space b) space (quote_no_space b quote))) (λ _.
    cond_both (λ (f : Front). f ≡ string at b rest) (starts_with nat_eq (b ∷ rest) (codes "--")) _ _
    (λ dashes. absurd (never (starts_with nat_eq (b ∷ rest) (codes "--")) dashes (no_dashes b rest (quote_no_dash b quote)))) (λ _.
    cond_both (λ (f : Front). f ≡ string at b rest) (begins_word b) _ _ (λ begins. absurd (never (begins_word b) begins (quote_no_word b quote))) (λ _.
    cond_both (λ (f : Front). f ≡ string at b rest) (is_ascii_digit b) _ _ (λ digit. absurd (never (is_ascii_digit b) digit (quote_no_digit b quote))) (λ _.
    cond_both (λ (f : Front). f ≡ string at b rest) (is_quote b) _ _ (λ _. refl) (λ other. absurd (never (is_quote b) quote other))))))

-- a byte that is plain neither closes nor takes the next
plain_opens : (quote b : ℕ) → is_plain quote b ≡ true → ((b == quote) ≡ false) × ((b == 92) ≡ false)
plain_opens quote b plain = by_tests (b == quote) (b == 92) plain
  where
    by_tests : (closes takes : Bool) → (not closes && not takes) ≡ true → (closes ≡ false) × (takes ≡ false)
    by_tests false false plain = (refl, refl)
    by_tests false true plain = absurd (cc)
    by_tests true takes plain = absurd (cc)

one_more : (n : ℕ) → 1 + n ≡ suc n
one_more n = omega arith

closing_passed : (quote b : ℕ) (rest : Text) → is_plain quote b ≡ true → closing quote false (b ∷ rest) ≡ option_map suc (closing quote false rest)
closing_passed quote b rest plain =
    let tests = plain_opens quote b plain in
    ap (λ (closes : Bool). cond closes (Some 0) (option_map suc (closing quote (b == 92) rest))) tests.0
    ∙ ap (λ (takes : Bool). option_map suc (closing quote takes rest)) tests.1

closing_here : (quote b : ℕ) (rest : Text) → (b == quote) ≡ true → closing quote false (b ∷ rest) ≡ Some 0
closing_here quote b rest closes = ap (λ (it : Bool). cond it (Some 0) (option_map suc (closing quote (b == 92) rest))) closes

-- the quote after the plain bytes closes
closing_plain : (quote : ℕ) (inner : Text) → 0 < quote → slice_index (drop (prefix_len (is_plain quote) inner) inner) 0 ≡ quote
    → closing quote false inner ≡ Some (prefix_len (is_plain quote) inner)
closing_plain quote [] some closes = let e : 0 ≡ quote = closes in absurd (omega arith)
closing_plain quote (b ∷ rest) some closes = by_plain (is_plain quote b) refl closes (closing_plain quote rest some)
  where
    by_plain : (plain : Bool) → is_plain quote b ≡ plain
        → slice_index (drop (cond plain (1 + prefix_len (is_plain quote) rest) 0) (b ∷ rest)) 0 ≡ quote
        → (slice_index (drop (prefix_len (is_plain quote) rest) rest) 0 ≡ quote → closing quote false rest ≡ Some (prefix_len (is_plain quote) rest))
        → closing quote false (b ∷ rest) ≡ Some (cond plain (1 + prefix_len (is_plain quote) rest) 0)
    by_plain true is closes later =
        let more : 1 + prefix_len (is_plain quote) rest ≡ suc (prefix_len (is_plain quote) rest) = one_more (prefix_len (is_plain quote) rest) in
        let further : slice_index (drop (prefix_len (is_plain quote) rest) rest) 0 ≡ quote =
        subst (λ (n : ℕ). slice_index (drop n (b ∷ rest)) 0 ≡ quote) more closes in
        closing_passed quote b rest is ∙ ap (option_map suc) (later further) ∙ ap (λ (n : ℕ). Some n) (sym more)
    by_plain false is closes later = closing_here quote b rest (test_from_same b quote closes)

-- plain bytes stand for themselves
unescaped_plain : (quote at : ℕ) (inner : Text)
    → unescaped false at (take (prefix_len (is_plain quote) inner) inner) ≡ Ok (take (prefix_len (is_plain quote) inner) inner)
unescaped_plain quote at [] = refl
unescaped_plain quote at (b ∷ rest) = by_plain (is_plain quote b) refl (unescaped_plain quote (at + 1) rest)
  where
    by_plain : (plain : Bool) → is_plain quote b ≡ plain
        → unescaped false (at + 1) (take (prefix_len (is_plain quote) rest) rest) ≡ Ok (take (prefix_len (is_plain quote) rest) rest)
        → unescaped false at (take (cond plain (1 + prefix_len (is_plain quote) rest) 0) (b ∷ rest)) ≡ Ok (take (cond plain (1 + prefix_len (is_plain quote) rest) 0) (b ∷ rest))
    by_plain true is later =
        let front : Text = take (prefix_len (is_plain quote) rest) rest in
        let whole : unescaped false at (b ∷ front) ≡ Ok (b ∷ front) =
        ap (λ (takes : Bool). cond takes (unescaped true (at + 1) front) (behind (b ∷ []) (unescaped false (at + 1) front))) (plain_opens quote b is).1
        ∙ ap (behind (b ∷ [])) later in
        subst (λ (n : ℕ). unescaped false at (take n (b ∷ rest)) ≡ Ok (take n (b ∷ rest))) (sym (one_more (prefix_len (is_plain quote) rest))) whole
    by_plain false is later = refl

-- ---- what stands between quotes comes to the same wherever it stands

both_ways : (b : Bool) (x y u v : Result Text Fault) (out : Text) → (x ≡ Ok out → u ≡ Ok out) → (y ≡ Ok out → v ≡ Ok out)
    → cond b x y ≡ Ok out → cond b u v ≡ Ok out
both_ways true x y u v out one other h = one h
both_ways false x y u v out one other h = other h

behind_place : (first : Text) (one other : Result Text Fault) (out : Text) → ((later : Text) → one ≡ Ok later → other ≡ Ok later)
    → behind first one ≡ Ok out → behind first other ≡ Ok out
behind_place first (Ok later) other out same h = ap (behind first) (same later refl) ∙ h
behind_place first (Err e) other out same h = absurd (cc)

refused : (e : Fault) (one : Result Text Fault) (out : Text) → Err e ≡ Ok out → one ≡ Ok out
refused e one out h = absurd (cc)

unescaped_place : (taken : Bool) (at other : ℕ) (text out : Text) → unescaped taken at text ≡ Ok out → unescaped taken other text ≡ Ok out
unescaped_place true at other [] out h = h
unescaped_place false at other [] out h = h
unescaped_place true at other (c ∷ rest) out h =
    both_ways (is_refused_escape c) (Err (bad_character (at - 1))) (behind (escape c) (unescaped false (at + 1) rest))
    (Err (bad_character (other - 1))) (behind (escape c) (unescaped false (other + 1) rest)) out
    (refused (bad_character (at - 1)) (Err (bad_character (other - 1))) out)
    (behind_place (escape c) (unescaped false (at + 1) rest) (unescaped false (other + 1) rest) out (λ later. unescaped_place false (at + 1) (other + 1) rest later)) h
unescaped_place false at other (c ∷ rest) out h =
    both_ways (c == 92) (unescaped true (at + 1) rest) (behind (c ∷ []) (unescaped false (at + 1) rest))
    (unescaped true (other + 1) rest) (behind (c ∷ []) (unescaped false (other + 1) rest)) out
    (unescaped_place true (at + 1) (other + 1) rest out)
    (behind_place (c ∷ []) (unescaped false (at + 1) rest) (unescaped false (other + 1) rest) out (λ later. unescaped_place false (at + 1) (other + 1) rest later)) h

string_read : (at quote n : ℕ) (inner content : Text) → closing quote false inner ≡ Some n → unescaped false 1 (take n inner) ≡ Ok content
    → string at quote inner ≡ token (lexeme.Str content) (n + 2)
string_read at quote n inner content closes stands =
    ap (string_until at inner) closes ∙ ap (quoted_by (n + 2)) (unescaped_place false 1 (at + 1) (take n inner) content stands)

-- two bytes more than a front of the inner text
two_more : (n b : ℕ) (inner : Text) → drop 1 (drop n inner) ≡ drop (n + 2) (b ∷ inner)
two_more n b inner =
    let longer : n + 1 ≡ suc n = omega arith in
    let longest : n + 2 ≡ suc (suc n) = omega arith in
    drop-drop 1 n inner ∙ ap (λ (k : ℕ). drop k inner) longer ∙ ap (λ (k : ℕ). drop k (b ∷ inner)) (sym longest)

quoted_at : (left content rest : Text) → IsQuotedBy (slice_index left 0) (drop 1 left) content rest
    → (n : ℕ) × (0 < length left) × ((at : ℕ) → front at left ≡ token (lexeme.Str content) n) × (rest ≡ drop n left)
quoted_at [] content rest is = absurd (never false is.0 refl)
quoted_at (b ∷ inner) content rest is =
    let found = is.1 in
    (found.0 + 2, omega arith, λ at. quote_front at b inner is.0 ∙ string_read at b found.0 inner content found.1 found.2, found.3 ∙ two_more found.0 b inner)

pub quoted_begins : (content text rest : Text) → IsQuoted content text rest → Begins (lexeme.Str content) text rest
quoted_begins content text rest is =
    let found = quoted_at (after_spaces text) content rest is in
    begins_at (lexeme.Str content) found.0 text rest found.1 found.2 found.3

-- ---- what the code finds between quotes

pub quoted_is : (quote n : ℕ) (inner last content text rest : Text) → quote ≡ next_of text → inner ≡ after_next text → is_quote quote ≡ true
    → closing quote false inner ≡ Some n → unescaped false 1 (take n inner) ≡ Ok content → last ≡ drop n inner → rest ≡ drop 1 last → IsQuoted content text rest
quoted_is quote n inner last content text rest first others opens closes stands ends cut =
    subst (λ (q : ℕ). IsQuotedBy q (after_next text) content rest) first
    (subst (λ (left : Text). IsQuotedBy quote left content rest) others (opens, (n, closes, stands, cut ∙ ap (λ (t : Text). drop 1 t) ends)))

-- a front of the inner text that is plain
pub plain_closes : (quote n : ℕ) (inner last : Text) → n ≡ prefix_len (is_plain quote) inner → last ≡ drop n inner → is_quote quote ≡ true → slice_index last 0 ≡ quote
    → (closing quote false inner ≡ Some n) × (unescaped false 1 (take n inner) ≡ Ok (take n inner))
plain_closes quote n inner last long ends opens closes =
    let plain : ℕ = prefix_len (is_plain quote) inner in
    let there : slice_index (drop plain inner) 0 ≡ quote =
    subst (λ (k : ℕ). slice_index (drop k inner) 0 ≡ quote) long (subst (λ (t : Text). slice_index t 0 ≡ quote) ends closes) in
    let copied : unescaped false 1 (take n inner) ≡ Ok (take n inner) =
    subst (λ (k : ℕ). unescaped false 1 (take k inner) ≡ Ok (take k inner)) (sym long) (unescaped_plain quote 1 inner) in
    (closing_plain quote inner (quote_some quote opens) there ∙ ap (λ (k : ℕ). Some k) (sym long), copied)

pub plain_is : (quote n : ℕ) (inner last content text rest : Text) → quote ≡ next_of text → inner ≡ after_next text → n ≡ prefix_len (is_plain quote) inner
    → last ≡ drop n inner → is_quote quote ≡ true → slice_index last 0 ≡ quote → content ≡ take n inner → rest ≡ drop 1 last → IsQuoted content text rest
plain_is quote n inner last content text rest first others long ends opens closes stands cut =
    let found = plain_closes quote n inner last long ends opens closes in
    quoted_is quote n inner last content text rest first others opens found.0 (found.1 ∙ ap (λ (t : Text). Ok t) (sym stands)) ends cut
