-- What the set escapes is what isn't plain.
use Rattle.std.proofs.Common.{◌≡◌, ℕ, zero, suc, ◌<◌, ◌≤◌, ltb, Bool, true, false, ◌&&◌, List, [], ◌∷◌, ◌++◌, refl, ap, sym, ◌∙◌, arith, ⊎_elim}
use Rattle.std.specs.Str.{bytes_eq}
use Rattle.std.specs.List.{flat_map}
use Rattle.std.proofs.lemmas.Bool.{cond-true, cond-false, cases_Bool}
use Rattle.std.proofs.lemmas.Bool.Decides.{Decides-below_and, nat_tests}
use Rattle.std.proofs.lemmas.Slice.Eq.{bytes_eq-Decides}
use Rattle.percent_encoding.specs.AsciiSet.{should_percent_encode}
use Rattle.percent_encoding.specs.Percent.{encode_byte, percent_encode_byte, percent_encode}
use Rattle.hv_route.specs.declared.partitions.TheConstants.{ESCAPED}
use Rattle.hv_route.specs.Partitions.{is_plain, escaped_byte, escaped}

abbrev same : ℕ → Bool
same b = bytes_eq (encode_byte ESCAPED b) (escaped_byte b)

abbrev same_below : ℕ → Bool
same_below zero = true
same_below (suc n) = same n && same_below n

checked : same_below 128 ≡ true
unfolding should_percent_encode percent_encode_byte
checked = refl

ascii_is : (b : ℕ) → b < 128 → encode_byte ESCAPED b ≡ escaped_byte b
ascii_is =
    (Decides-below_and same (λ b. encode_byte ESCAPED b ≡ escaped_byte b) same_below (λ b. bytes_eq-Decides _ _) refl (λ _. refl) 128).0 checked

high_escaped : (b : ℕ) → 128 ≤ b → should_percent_encode ESCAPED b ≡ true
unfolding should_percent_encode
high_escaped b high = grind (arith, nat_tests)

high_not_plain : (b : ℕ) → 128 ≤ b → is_plain b ≡ false
high_not_plain b high = grind (arith, nat_tests)

high_is : (b : ℕ) → 128 ≤ b → encode_byte ESCAPED b ≡ escaped_byte b
high_is b high =
    cond-true _ _ _ (high_escaped b high) ∙ sym (cond-false _ _ _ (high_not_plain b high))

byte_is : (b : ℕ) → encode_byte ESCAPED b ≡ escaped_byte b
byte_is b =
    ⊎_elim (λ e. ascii_is b (grind (arith, nat_tests))) (λ e. high_is b (grind (arith, nat_tests))) (cases_Bool (ltb b 128))

pub escapes : (text : List ℕ) → percent_encode ESCAPED text ≡ escaped text
unfolding percent_encode escaped
escapes [] = refl
escapes (b ∷ more) =
    ap (λ (x : List ℕ). x ++ flat_map (encode_byte ESCAPED) more) (byte_is b) ∙ ap (λ (x : List ℕ). escaped_byte b ++ x) (escapes more)
