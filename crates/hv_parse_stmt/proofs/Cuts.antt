-- Where a SET text is cut stands an ASCII byte, so that its parts are UTF-8.
use Rattle.std.proofs.Common.{◌≡◌, ℕ, zero, suc, ◌+◌, ◌-◌, ◌<◌, ◌≤◌, ◌==◌, Bool, true, false, not, Option, Some, List, [], ◌∷◌, take, drop, length, map, reverse, get_or, position, arith, refl, sym, ◌∙◌, subst, ap, take_all, length-drop, get_or-drop, drop-drop}
use Rattle.std.specs.Prelude.{codes, nat_eq, if◌then◌else◌}
use Rattle.std.proofs.lemmas.Bool.Decides.{nat_tests}
use Rattle.std.specs.Char.{to_ascii_lowercase}
use Rattle.std.specs.List.{prefix_len, suffix_len, take_while, starts_with}
use Rattle.std.specs.Str.{IsUtf8, str_eq_ignore_ascii_case}
use Rattle.std.proofs.lemmas.List.{length-map, get_or-reverse}
use Rattle.std.proofs.lemmas.List.Folds.{length-prefix_len}
use Rattle.std.proofs.lemmas.List.Quantifiers.{position-Some}
use Rattle.std.proofs.lemmas.List.Sums.{prefix_len_passes, prefix_len-le-length, suffix_len-le-length}
use Rattle.std.proofs.lemmas.Slice.Eq.{bytes_eq-Decides}
use Rattle.std.proofs.lemmas.Str.{IsUtf8-take, IsUtf8-drop, IsCharBoundary-before_ascii, IsCharBoundary-after_ascii}
use Rattle.hv_ast.specs.Tokens.{is_space, continues_word}
use Rattle.hv_grammar.specs.Settings.{behind_gaps, without_end, trimmed, is_equals}

before_ascii : (text : List ℕ) (i : ℕ) → IsUtf8 text → i < length text → get_or text i 0 < 128 → IsUtf8 (take i text)
before_ascii text i utf8 within small = IsUtf8-take text i utf8 (IsCharBoundary-before_ascii text i within small)

behind_ascii : (text : List ℕ) (i : ℕ) → IsUtf8 text → i < length text → get_or text i 0 < 128 → IsUtf8 (drop (i + 1) text)
behind_ascii text i utf8 within small = IsUtf8-drop text (i + 1) utf8 (IsCharBoundary-after_ascii text i utf8 within small)

space_small : (b : ℕ) → is_space b ≡ true → b < 128
space_small b holds = grind (arith, nat_tests)

word_small : (b : ℕ) → continues_word b ≡ true → b < 128
word_small b holds = grind (arith, nat_tests)

equals_small : (b : ℕ) → is_equals b ≡ true → b < 128
equals_small b holds = grind (arith, nat_tests)

-- ---- spaces

begun_utf8 : (text : List ℕ) → IsUtf8 text → IsUtf8 (drop (prefix_len is_space text) text)
begun_utf8 text utf8 = by_count (prefix_len is_space text) refl
  where
    by_count : (n : ℕ) → prefix_len is_space text ≡ n → IsUtf8 (drop n text)
    by_count zero is = utf8
    by_count (suc n) is =
        let fits = prefix_len-le-length is_space text in
        let one_more : n + 1 ≡ suc n = omega arith in
        subst (λ (m : ℕ). IsUtf8 (drop m text)) one_more
        (behind_ascii text n utf8 (omega (arith, fits, is))
        (space_small (get_or text n 0) (prefix_len_passes is_space text n 0 (omega (arith, is)))))

ended_utf8 : (text : List ℕ) → IsUtf8 text → IsUtf8 (without_end text)
ended_utf8 text utf8 = by_count (suffix_len is_space text) refl
  where
    by_count : (n : ℕ) → suffix_len is_space text ≡ n → IsUtf8 (take (length text - n) text)
    by_count zero is = subst IsUtf8 (sym (take_all (length text - 0) text (omega arith))) utf8
    by_count (suc n) is =
        let fits = suffix_len-le-length is_space text in
        let passes : is_space (get_or (reverse text) n 0) ≡ true = prefix_len_passes is_space (reverse text) n 0 (omega (arith, is)) in
        let read : get_or (reverse text) n 0 ≡ get_or text (length text - 1 - n) 0 = get_or-reverse text n 0 (omega (arith, fits, is)) in
        let place : length text - 1 - n ≡ length text - suc n = omega arith in
        let same : get_or (reverse text) n 0 ≡ get_or text (length text - suc n) 0 = read ∙ ap (λ i. get_or text i 0) place in
        before_ascii text (length text - suc n) utf8 (omega (arith, fits, is))
        (space_small (get_or text (length text - suc n) 0) (subst (λ b. is_space b ≡ true) same passes))

trimmed_utf8 : (text : List ℕ) → IsUtf8 text → IsUtf8 (trimmed text)
trimmed_utf8 text utf8 = ended_utf8 (drop (prefix_len is_space text) text) (begun_utf8 text utf8)

-- ---- key and value

pub key_utf8 : (text key : List ℕ) (place : Option ℕ) (n : ℕ) → IsUtf8 text → place ≡ position is_equals text → place ≡ Some n
    → key ≡ trimmed (take n text) → IsUtf8 key
key_utf8 text key place n utf8 same is cut =
    let (within, holds, first) = position-Some is_equals text n 0 (sym same ∙ is) in
    subst IsUtf8 (sym cut) (trimmed_utf8 (take n text) (before_ascii text n utf8 within (equals_small (get_or text n 0) holds)))

pub value_utf8 : (text value : List ℕ) (place : Option ℕ) (n : ℕ) → IsUtf8 text → place ≡ position is_equals text → place ≡ Some n
    → value ≡ trimmed (take (length text - (n + 1)) (drop (n + 1) text)) → IsUtf8 value
value_utf8 text value place n utf8 same is cut =
    let (within, holds, first) = position-Some is_equals text n 0 (sym same ∙ is) in
    let long = length-drop (n + 1) text in
    let whole : take (length text - (n + 1)) (drop (n + 1) text) ≡ drop (n + 1) text =
    take_all (length text - (n + 1)) (drop (n + 1) text) (omega arith) in
    subst IsUtf8 (sym (cut ∙ ap trimmed whole))
    (trimmed_utf8 (drop (n + 1) text) (behind_ascii text n utf8 within (equals_small (get_or text n 0) holds)))

-- ---- behind the word SET

-- what stands behind the gaps is an end of the text
abbrev IsEnd : List ℕ → List ℕ → Type 0
IsEnd rest text = (n : ℕ) × (drop n text ≡ rest)

later : (b : ℕ) (rest text : List ℕ) → IsEnd rest text → IsEnd rest (b ∷ text)
later b rest text (n, same) = (suc n, same)

by_tests : (b : ℕ) (text : List ℕ) (space dashes : Bool)
    → IsEnd (behind_gaps false text) text → IsEnd (behind_gaps true text) text
    → IsEnd (if space then behind_gaps false text else (if dashes then behind_gaps true text else b ∷ text)) (b ∷ text)
by_tests b text true dashes plain comment = later b (behind_gaps false text) text plain
by_tests b text false true plain comment = later b (behind_gaps true text) text comment
by_tests b text false false plain comment = (0, refl)

gaps_end : (comment : Bool) (text : List ℕ) → IsEnd (behind_gaps comment text) text
gaps_end comment [] = (0, refl)
gaps_end true (b ∷ rest) = later b (behind_gaps (not (b == 10)) rest) rest (gaps_end (not (b == 10)) rest)
gaps_end false (b ∷ rest) =
    by_tests b rest (is_space b) (starts_with nat_eq (b ∷ rest) (codes "--")) (gaps_end false rest) (gaps_end true rest)

-- three characters of a word stand at the front
three_stand : (rest : List ℕ) (is : Bool) → is ≡ str_eq_ignore_ascii_case (take_while continues_word rest) (codes "set") → is ≡ true
    → prefix_len continues_word rest ≡ 3
three_stand rest is same holds =
    let equal = (bytes_eq-Decides (map to_ascii_lowercase (take_while continues_word rest)) (map to_ascii_lowercase (codes "set"))).0 (sym same ∙ holds) in
    let long : length (map to_ascii_lowercase (take_while continues_word rest)) ≡ 3 = ap length equal in
    sym (length-prefix_len continues_word rest) ∙ sym (length-map (take_while continues_word rest) to_ascii_lowercase) ∙ long

set_fits : (rest : List ℕ) (is : Bool) → is ≡ str_eq_ignore_ascii_case (take_while continues_word rest) (codes "set") → is ≡ true
    → 3 ≤ length rest
set_fits rest is same holds =
    let three = three_stand rest is same holds in
    let fits = prefix_len-le-length continues_word rest in
    omega (arith, three, fits)

pub set_utf8 : (text rest : List ℕ) (is : Bool) → IsUtf8 text → rest ≡ behind_gaps false text
    → is ≡ str_eq_ignore_ascii_case (take_while continues_word rest) (codes "set") → is ≡ true → IsUtf8 (drop 3 rest)
set_utf8 text rest is utf8 behind same holds =
    let (n, end) = gaps_end false text in
    let from : drop n text ≡ rest = end ∙ sym behind in
    let three = three_stand rest is same holds in
    let fits = set_fits rest is same holds in
    let shorter : length rest ≡ length text - n = ap length (sym from) ∙ length-drop n text in
    let read : get_or rest 2 0 ≡ get_or text (n + 2) 0 = ap (λ (l : List ℕ). get_or l 2 0) (sym from) ∙ get_or-drop n text 2 0 in
    let small : get_or rest 2 0 < 128 = word_small (get_or rest 2 0) (prefix_len_passes continues_word rest 2 0 (omega (arith, three))) in
    let place : n + 3 ≡ n + 2 + 1 = omega arith in
    let cut : drop 3 rest ≡ drop (n + 2 + 1) text = ap (drop 3) (sym from) ∙ drop-drop 3 n text ∙ ap (λ (m : ℕ). drop m text) place in
    subst IsUtf8 (sym cut) (behind_ascii text (n + 2) utf8 (omega (arith, fits, shorter)) (subst (λ b. b < 128) read small))
