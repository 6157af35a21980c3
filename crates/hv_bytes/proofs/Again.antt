-- What was spelled is read again, whatever stands behind it.
use Rattle.std.proofs.Common.{◌≡◌, ℕ, ◌^◌, ◌<◌, false, List, ◌++◌, length, Some, refl, ap, ◌∙◌, append_assoc, arith, ltb}
use Rattle.std.specs.Int.{w16, w32, w64, from_be_bytes}
use Rattle.std.proofs.lemmas.Bool.{le-ltb}
use Rattle.std.proofs.lemmas.List.{take_at, drop_at, length-append}
use Rattle.std.proofs.lemmas.Nat.{from_be_bytes-to_be_bytes_2, from_be_bytes-to_be_bytes_4, from_be_bytes-to_be_bytes_8}
use Rattle.hv_bytes.specs.Spelling.{two_bytes, four_bytes, eight_bytes, text_spelling, IsText}
use Rattle.hv_bytes.specs.Reading.{two_at, four_at, eight_at, text_at}
use Rattle.hv_bytes.proofs.Lengths.{length-two, length-four, length-eight}
use Rattle.hv_bytes.proofs.Texts.{text_some}

from_two : (n : ℕ) → n < 2 ^ 16 → from_be_bytes w16 (two_bytes n) ≡ n
unfolding two_bytes
from_two n lt = from_be_bytes-to_be_bytes_2 n lt

from_four : (n : ℕ) → n < 2 ^ 32 → from_be_bytes w32 (four_bytes n) ≡ n
unfolding four_bytes
from_four n lt = from_be_bytes-to_be_bytes_4 n lt

from_eight : (n : ℕ) → n < 2 ^ 64 → from_be_bytes w64 (eight_bytes n) ≡ n
unfolding eight_bytes
from_eight n lt = from_be_bytes-to_be_bytes_8 n lt

pub two_again : (n : ℕ) (rest : List ℕ) → n < 2 ^ 16 → two_at (two_bytes n ++ rest) ≡ Some (n, rest)
unfolding two_at
two_again n rest lt =
    let len = length-two n in
    let long : ltb (length (two_bytes n ++ rest)) 2 ≡ false = le-ltb _ _ (omega (arith, length-append (two_bytes n) rest)) in
    rw (long, take_at (two_bytes n) rest 2 len, drop_at (two_bytes n) rest 2 len, from_two n lt) refl

pub four_again : (n : ℕ) (rest : List ℕ) → n < 2 ^ 32 → four_at (four_bytes n ++ rest) ≡ Some (n, rest)
unfolding four_at
four_again n rest lt =
    let len = length-four n in
    let long : ltb (length (four_bytes n ++ rest)) 4 ≡ false = le-ltb _ _ (omega (arith, length-append (four_bytes n) rest)) in
    rw (long, take_at (four_bytes n) rest 4 len, drop_at (four_bytes n) rest 4 len, from_four n lt) refl

pub eight_again : (n : ℕ) (rest : List ℕ) → n < 2 ^ 64 → eight_at (eight_bytes n ++ rest) ≡ Some (n, rest)
unfolding eight_at
eight_again n rest lt =
    let len = length-eight n in
    let long : ltb (length (eight_bytes n ++ rest)) 8 ≡ false = le-ltb _ _ (omega (arith, length-append (eight_bytes n) rest)) in
    rw (long, take_at (eight_bytes n) rest 8 len, drop_at (eight_bytes n) rest 8 len, from_eight n lt) refl

pub text_again : (t rest : List ℕ) → IsText t → text_at (text_spelling t ++ rest) ≡ Some (t, rest)
unfolding text_spelling
text_again t rest h =
    let front = take_at t rest (length t) refl in
    let read = four_again (length t) (t ++ rest) h.short in
    let one = text_some ((four_bytes (length t) ++ t) ++ rest) (length t) (t ++ rest) (ap four_at (append_assoc (four_bytes (length t)) t rest) ∙ read) (omega (arith, length-append t rest)) (rw front h.utf8) in
    one ∙ rw (front, drop_at t rest (length t) refl) refl
