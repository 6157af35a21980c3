-- How long numbers and texts are in bytes.
use Rattle.std.proofs.Common.{◌≡◌, ℕ, ◌+◌, List, length, refl, ◌∙◌, arith}
use Rattle.std.proofs.lemmas.List.{length-append}
use Rattle.hv_bytes.specs.Spelling.{two_bytes, four_bytes, eight_bytes, text_spelling}

pub length-two : (n : ℕ) → length (two_bytes n) ≡ 2
unfolding two_bytes
length-two n = refl

pub length-four : (n : ℕ) → length (four_bytes n) ≡ 4
unfolding four_bytes
length-four n = refl

pub length-eight : (n : ℕ) → length (eight_bytes n) ≡ 8
unfolding eight_bytes
length-eight n = refl

pub length-text : (t : List ℕ) → length (text_spelling t) ≡ 4 + length t
unfolding text_spelling
length-text t = length-append (four_bytes (length t)) t ∙ omega (arith, length-four (length t))
