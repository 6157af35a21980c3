-- Strings: the closing quote, and what stands between.
use Rattle.std.proofs.Common.{◌≡◌, ℕ, suc, ◌+◌, ◌-◌, ◌<◌, Bool, true, false, not, ◌&&◌, ◌==◌, Option, Some, None, Result, Ok, Err, [], ◌∷◌, ◌++◌, take, drop, length, get_or, arith, refl, sym, subst, ap, append_assoc, length-append, ◌||◌}
use Rattle.std.proofs.lemmas.Bool.Decides.{nat_tests}
use Rattle.std.specs.Str.{IsUtf8, IsCharBoundary}
use Rattle.std.proofs.lemmas.Str.{IsCharBoundary-before_ascii, IsCharBoundary-after_ascii, IsUtf8-take, IsUtf8-drop, IsUtf8-append, IsUtf8-from_ascii, IsUtf8-nil}
use Rattle.std.proofs.lemmas.List.{drop_more, take_rest}
use Rattle.std.proofs.Math.Seq.{take-append_seam, drop-append-add, get_or-append_seam}
use Rattle.std.proofs.lemmas.Str.Ascii.{IsAscii-cons, IsAscii-nil}
use Rattle.std.specs.Option.{option_map}
use Rattle.hv_ast.proofs.Fronts.{cond_both, IsQuoteAt, closing_within}
use Rattle.hv_ast.specs.Tokens.{Text, Fault, closing, unescaped, behind, escape, is_refused_escape, is_quote}

-- a count of what is left, after one more byte
count_on : (at : ℕ) (found : Option ℕ) → option_map (λ n. at + n) (option_map suc found) ≡ option_map (λ n. at + 1 + n) found
count_on at None = refl
count_on at (Some n) = ap Some (omega arith)

-- one byte that doesn't close
pub closing_more : (quote : ℕ) (taken : Bool) (text : Text) (at : ℕ) → at < length text
    → (not taken && get_or text at 0 == quote) ≡ false
    → option_map (λ n. at + n) (closing quote taken (drop at text))
    ≡ option_map (λ n. at + 1 + n) (closing quote (not taken && get_or text at 0 == 92) (drop (at + 1) text))
closing_more quote taken text at within goes_on =
    rw (drop_more text at 0 within, goes_on) (count_on at _)

-- ---- what is left of a text without its escapes is UTF-8

-- a text is cut before and after a character of ASCII
cut : (front rest : Text) (c : ℕ) → c < 128 → IsUtf8 (front ++ c ∷ rest) → IsUtf8 front × IsUtf8 rest
cut front rest c small whole =
    let n : ℕ = length front in
    let long : n < length (front ++ c ∷ rest) = simp length-append (omega arith) in
    let here : get_or (front ++ c ∷ rest) n 0 ≡ c = get_or-append_seam front c rest 0 in
    let before : IsCharBoundary (front ++ c ∷ rest) n = IsCharBoundary-before_ascii (front ++ c ∷ rest) n long (omega arith) in
    let after : IsCharBoundary (front ++ c ∷ rest) (n + 1) = IsCharBoundary-after_ascii (front ++ c ∷ rest) n whole long (omega arith) in (
      subst IsUtf8 (take-append_seam front (c ∷ rest)) (IsUtf8-take (front ++ c ∷ rest) n whole before),
      subst IsUtf8 (drop-append-add front (c ∷ rest) 1) (IsUtf8-drop (front ++ c ∷ rest) (n + 1) whole after),
    )

-- one character of ASCII for another
swapped : (c d : ℕ) (rest : Text) → c < 128 → d < 128 → IsUtf8 (c ∷ rest) → IsUtf8 (d ∷ rest)
swapped c d rest small other whole =
    IsUtf8-append (d ∷ []) rest
    (IsUtf8-from_ascii (d ∷ []) (IsAscii-cons d [] other IsAscii-nil))
    ((cut [] rest c small whole).1)

same_from_test : (a b : ℕ) → (a == b) ≡ true → a ≡ b
same_from_test a b test = grind (arith, nat_tests)

escape_utf8 : (c : ℕ) (rest : Text) → IsUtf8 (c ∷ rest) → IsUtf8 (escape c ++ rest)
escape_utf8 c rest whole =
    let P : Text → Type 0 = λ (text : Text). IsUtf8 (text ++ rest) in
    cond_both P (c == 110) _ _ (λ test. let e = same_from_test c 110 test in swapped c 10 rest (omega arith) (omega arith) whole) (λ _.
    cond_both P (c == 116) _ _ (λ test. let e = same_from_test c 116 test in swapped c 9 rest (omega arith) (omega arith) whole) (λ _.
    cond_both P (c == 114) _ _ (λ test. let e = same_from_test c 114 test in swapped c 13 rest (omega arith) (omega arith) whole) (λ _.
    cond_both P (c == 37 || c == 95) _ _
    (λ _. IsUtf8-append (92 ∷ []) (c ∷ rest) (IsUtf8-from_ascii (92 ∷ []) (IsAscii-cons 92 [] (omega arith) IsAscii-nil)) whole)
    (λ _. whole))))

behind_Ok : (first : Text) (rest : Result Text Fault) (out : Text) → behind first rest ≡ Ok out
    → (later : Text) × (rest ≡ Ok later) × (first ++ later ≡ out)
behind_Ok first (Ok later) out same = (later, refl, cc)
behind_Ok first (Err e) out same = cc

-- what stands before a character, with the backslash that takes it
abbrev standing : Bool → Text → Text
standing true front = front ++ 92 ∷ []
standing false front = front

-- the character is c, and these are what it stands for and what the rest stands for
joined : (front part rest out : Text) (later : Result Text Fault) → behind part later ≡ Ok out
    → ((text : Text) → later ≡ Ok text → IsUtf8 ((front ++ part) ++ text)) → IsUtf8 (front ++ out)
joined front part rest out later same whole =
    let (text, found, all) = behind_Ok part later out same in
    subst (λ (end : Text). IsUtf8 (front ++ end)) all (subst IsUtf8 (append_assoc front part text) (whole text found))

pub unescaped_utf8 : (taken : Bool) (at : ℕ) (text front out : Text) → IsUtf8 (standing taken front ++ text)
    → unescaped taken at text ≡ Ok out → IsUtf8 (front ++ out)
unescaped_utf8 true at [] front out whole same =
    let none : [] ≡ out = cc in
    let alone : IsUtf8 (front ++ 92 ∷ []) = subst IsUtf8 (append_assoc front (92 ∷ []) []) whole in
    subst (λ (end : Text). IsUtf8 (front ++ end)) none
    (IsUtf8-append front [] ((cut front [] 92 (omega arith) alone).0) IsUtf8-nil)
unescaped_utf8 false at [] front out whole same =
    let none : [] ≡ out = cc in
    subst (λ (end : Text). IsUtf8 (front ++ end)) none whole
unescaped_utf8 true at (c ∷ rest) front out whole same =
    let parts = cut front (c ∷ rest) 92 (omega arith) (subst IsUtf8 (append_assoc front (92 ∷ []) (c ∷ rest)) whole) in
    let escaped : IsUtf8 (front ++ (escape c ++ rest)) = IsUtf8-append front (escape c ++ rest) parts.0 (escape_utf8 c rest parts.1) in
    cond_both (λ (r : Result Text Fault). r ≡ Ok out → IsUtf8 (front ++ out)) (is_refused_escape c) _ _
    (λ _ refused. cc)
    (λ _ gone. joined front (escape c) rest out (unescaped false (at + 1) rest) gone
    (λ text found. unescaped_utf8 false (at + 1) rest (front ++ escape c) text
    (subst IsUtf8 (sym (append_assoc front (escape c) rest)) escaped) found))
    same
unescaped_utf8 false at (c ∷ rest) front out whole same =
    cond_both (λ (r : Result Text Fault). r ≡ Ok out → IsUtf8 (front ++ out)) (c == 92) _ _
    (λ test gone.
    let slash : c ≡ 92 = same_from_test c 92 test in
    let moved : IsUtf8 (front ++ 92 ∷ rest) = subst (λ (b : ℕ). IsUtf8 (front ++ b ∷ rest)) slash whole in
    unescaped_utf8 true (at + 1) rest front out (subst IsUtf8 (sym (append_assoc front (92 ∷ []) rest)) moved) gone)
    (λ _ gone. joined front (c ∷ []) rest out (unescaped false (at + 1) rest) gone
    (λ text found. unescaped_utf8 false (at + 1) rest (front ++ c ∷ []) text
    (subst IsUtf8 (sym (append_assoc front (c ∷ []) rest)) whole) found))
    same

-- what stands before the closing quote is UTF-8
pub content_utf8 : (quote at n : ℕ) (rest content : Text) → quote < 128 → IsUtf8 rest
    → closing quote false rest ≡ Some n → unescaped false at (take n rest) ≡ Ok content → IsUtf8 content
content_utf8 quote at n rest content small whole found same =
    let inside : IsQuoteAt quote rest n = closing_within quote false rest n found in
    let last : get_or rest n 0 < 128 = omega (arith, inside.1) in
    unescaped_utf8 false at (take n rest) [] content
    (IsUtf8-take rest n whole (IsCharBoundary-before_ascii rest n inside.0 last)) same

quote_small : (b : ℕ) → is_quote b ≡ true → b < 128
quote_small b test = grind (arith, nat_tests)

-- what stands behind an opening quote is UTF-8
pub behind_quote_utf8 : (text : Text) → 0 < length text → is_quote (get_or text 0 0) ≡ true
    → (get_or text 0 0 < 128 → IsUtf8 text) → IsUtf8 (take (length text - 1) (drop 1 text))
behind_quote_utf8 text some test whole =
    let small = quote_small (get_or text 0 0) test in
    subst IsUtf8 (sym (take_rest text 1))
    (IsUtf8-drop text 1 (whole small) (IsCharBoundary-after_ascii text 0 (whole small) some small))
