-- Texts and their characters.
use Rattle.std.proofs.Common.{◌≡◌, ℕ, ◌+◌, ◌≤◌, ◌-◌, Some, None, if◌then◌else◌, true, List, [], ◌∷◌, ◌++◌, take, drop, length, sym, ap, ◌∙◌, arith, subst}
use Rattle.std.specs.Str.{chars, IsUtf8, IsCharBoundary, encode_utf8_all}
use Rattle.std.specs.Prelude.{encode_utf8}
use Rattle.std.proofs.lemmas.Str.{chars-nil, encodes-chars, encodes_same, encodes-append, length-le-encodes, IsCharBoundary-at_seam}
use Rattle.std.proofs.lemmas.List.{take-append-drop, length-append, append-nil, take_at}
use Rattle.hv_text.specs.Characters.{begins_with, skipped_before}

pub text_of_chars : (text cs : List ℕ) → IsUtf8 text → chars text ≡ cs → text ≡ encode_utf8_all cs
text_of_chars text cs u e = sym (encodes-chars text u) ∙ ap encode_utf8_all e

pub last_char : (text front : List ℕ) (c : ℕ) → IsUtf8 text → IsUtf8 front → text ≡ front ++ encode_utf8 c → chars text ≡ chars front ++ (c ∷ [])
last_char text front c u v e =
    encodes_same _ _ (encodes-chars text u ∙ e
    ∙ sym (encodes-append (chars front) (c ∷ []) ∙ ap (λ t. t ++ encode_utf8_all (c ∷ [])) (encodes-chars front v)
    ∙ ap (λ t. front ++ t) (append-nil (encode_utf8 c))))

-- what stands before what is left when so many characters are skipped
pub front_is : (text rest : List ℕ) (n : ℕ) → IsUtf8 text → IsUtf8 rest → chars rest ≡ drop n (chars text)
    → text ≡ encode_utf8_all (take n (chars text)) ++ rest
front_is text rest n u v e =
    sym (encodes-chars text u) ∙ ap encode_utf8_all (sym (take-append-drop n (chars text)))
    ∙ encodes-append (take n (chars text)) (drop n (chars text))
    ∙ ap (λ t. encode_utf8_all (take n (chars text)) ++ t) (ap encode_utf8_all (sym e) ∙ encodes-chars rest v)

pub chars_short : (text : List ℕ) → IsUtf8 text → length (chars text) ≤ length text
chars_short text u = omega (arith, length-le-encodes (chars text), ap length (encodes-chars text u))

pub front_length : (text rest : List ℕ) (n : ℕ) → IsUtf8 text → IsUtf8 rest → chars rest ≡ drop n (chars text)
    → length text ≡ length (encode_utf8_all (take n (chars text))) + length rest
front_length text rest n u v e = ap length (front_is text rest n u v e) ∙ length-append (encode_utf8_all (take n (chars text))) rest

pub front_boundary : (text rest : List ℕ) (n : ℕ) → IsUtf8 text → IsUtf8 rest → chars rest ≡ drop n (chars text)
    → IsCharBoundary text (length text - length rest)
front_boundary text rest n u v e =
    subst (IsCharBoundary text) (omega (arith, front_length text rest n u v e))
    (IsCharBoundary-at_seam text (encode_utf8_all (take n (chars text))) rest (front_is text rest n u v e) v)

pub front_taken : (text rest : List ℕ) (n : ℕ) → IsUtf8 text → IsUtf8 rest → chars rest ≡ drop n (chars text)
    → take (length text - length rest) text ≡ encode_utf8_all (take n (chars text))
front_taken text rest n u v e =
    let front = encode_utf8_all (take n (chars text)) in
    let long : length front ≡ length text - length rest = omega (arith, front_length text rest n u v e) in
    ap (λ t. take (length text - length rest) t) (front_is text rest n u v e)
    ∙ take_at front rest (length text - length rest) long

pub found_here : (skipped : ℕ) (part cs : List ℕ) → begins_with part cs ≡ true → skipped_before skipped part cs ≡ Some skipped
found_here skipped part [] e = ap (λ b. if b then Some skipped else None) e
found_here skipped part (c ∷ cs) e = ap (λ b. if b then Some skipped else skipped_before (skipped + 1) part cs) e

pub minus_zero : (n : ℕ) → n - 0 ≡ n
minus_zero n = omega arith

pub ruleset empty = (chars-nil)

pub ruleset whole_texts = (text_of_chars)
