-- Texts as bytes.
use Rattle.std.proofs.Common.{◌≡◌, ℕ, ◌<◌, ◌≤◌, Bool, true, false, List, ◌++◌, length, take, drop, Some, None, refl, sym, ap, ◌∙◌, arith, append_assoc}
use Rattle.std.specs.Str.{IsUtf8, is_utf8}
use Rattle.std.proofs.lemmas.Bool.{le-ltb}
use Rattle.std.proofs.lemmas.List.{take-append-drop, length-take}
use Rattle.std.proofs.lemmas.Str.{IsUtf8-from_is_utf8, is_utf8-from_IsUtf8}
use Rattle.hv_bytes.specs.Spelling.{four_bytes, text_spelling, IsText}
use Rattle.hv_bytes.specs.Reading.{four_at, text_at}

is_utf8-false : (bytes : List ℕ) → (IsUtf8 bytes → ⊥) → is_utf8 bytes ≡ false
is_utf8-false bytes h =
    let cases : (b : Bool) → is_utf8 bytes ≡ b → is_utf8 bytes ≡ false =
    λ b. elim b as (λ v. is_utf8 bytes ≡ v → is_utf8 bytes ≡ false) [
      | true ↦ λ e. absurd (h (IsUtf8-from_is_utf8 bytes e))
      | false ↦ λ e. e
    ]
    in
    cases (is_utf8 bytes) refl

pub text_none : (bytes : List ℕ) (n : ℕ) (rest : List ℕ) → four_at bytes ≡ Some (n, rest) → n ≤ length rest → (IsUtf8 (take n rest) → ⊥) → text_at bytes ≡ None
unfolding text_at
text_none bytes n rest e le h = rw (e, le-ltb _ _ le, is_utf8-false (take n rest) h) refl

pub text_some : (bytes : List ℕ) (n : ℕ) (rest : List ℕ) → four_at bytes ≡ Some (n, rest) → n ≤ length rest → IsUtf8 (take n rest) → text_at bytes ≡ Some (take n rest, drop n rest)
unfolding text_at
text_some bytes n rest e le h = rw (e, le-ltb _ _ le, is_utf8-from_IsUtf8 (take n rest) h) refl

-- a length and that many bytes spell the text of these bytes
pub text_front : (bytes : List ℕ) (n : ℕ) (rest : List ℕ) → n < 4294967296 → bytes ≡ four_bytes n ++ rest → n ≤ length rest → IsUtf8 (take n rest) → IsText (take n rest) × (bytes ≡ text_spelling (take n rest) ++ drop n rest)
unfolding text_spelling
text_front bytes n rest lt e le h =
    let len : length (take n rest) ≡ n = omega (arith, length-take n rest) in
    let whole : text_spelling (take n rest) ++ drop n rest ≡ four_bytes n ++ rest = ap (λ (k : ℕ). (four_bytes k ++ take n rest) ++ drop n rest) len ∙ append_assoc (four_bytes n) (take n rest) (drop n rest) ∙ ap (λ (x : List ℕ). four_bytes n ++ x) (take-append-drop n rest) in
    (record { short = omega arith; utf8 = h }, e ∙ sym whole)
