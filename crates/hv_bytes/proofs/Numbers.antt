-- Numbers as bytes.
use Rattle.std.proofs.Common.{◌≡◌, ℕ, ◌<◌, ◌≤◌, ◌^◌, List, ◌++◌, length, get_or, take, drop, sym, ap, ◌∙◌, arith, inl, inr}
use Rattle.std.specs.Int.{w16, w32, w64, from_be_bytes}
use Rattle.std.proofs.lemmas.Bool.{cases_lt}
use Rattle.std.proofs.lemmas.List.{take-append-drop, length-take, get_or-take, get_or_past}
use Rattle.std.proofs.lemmas.Nat.{be_bytes_2, be_bytes_4, be_bytes_8}
use Rattle.hv_bytes.specs.Spelling.{two_bytes, four_bytes, eight_bytes}

abbrev pub IsBytes : List ℕ → Type 0
IsBytes bytes = (i : ℕ) → get_or bytes i 0 < 256

IsBytes-take : (n : ℕ) (bytes : List ℕ) → IsBytes bytes → IsBytes (take n bytes)
IsBytes-take n bytes h i =
    elim (cases_lt i n) [
      | inl lt ↦ rw (get_or-take n bytes i 0 lt) (h i)
      | inr le ↦ rw (get_or_past (take n bytes) i 0 (omega (arith, length-take n bytes))) (omega arith)
    ]

-- the number of the first bytes is spelled by them
pub eight_front : (bytes : List ℕ) (n : ℕ) → 8 ≤ length bytes → IsBytes bytes → n ≡ from_be_bytes w64 (take 8 bytes) → (n < 2 ^ 64) × (bytes ≡ eight_bytes n ++ drop 8 bytes)
unfolding eight_bytes
eight_front bytes n long fits e =
    let front = IsBytes-take 8 bytes fits in
    let len : length (take 8 bytes) ≡ 8 = omega (arith, length-take 8 bytes) in
    let spelled : eight_bytes n ≡ take 8 bytes = be_bytes_8 (take 8 bytes) n len front e in
    (omega (arith, front 0, front 1, front 2, front 3, front 4, front 5, front 6, front 7), sym (ap (λ (x : List ℕ). x ++ drop 8 bytes) spelled ∙ take-append-drop 8 bytes))

pub four_front : (bytes : List ℕ) (n : ℕ) → 4 ≤ length bytes → IsBytes bytes → n ≡ from_be_bytes w32 (take 4 bytes) → (n < 2 ^ 32) × (bytes ≡ four_bytes n ++ drop 4 bytes)
unfolding four_bytes
four_front bytes n long fits e =
    let front = IsBytes-take 4 bytes fits in
    let len : length (take 4 bytes) ≡ 4 = omega (arith, length-take 4 bytes) in
    let spelled : four_bytes n ≡ take 4 bytes = be_bytes_4 (take 4 bytes) n len front e in
    (omega (arith, front 0, front 1, front 2, front 3), sym (ap (λ (x : List ℕ). x ++ drop 4 bytes) spelled ∙ take-append-drop 4 bytes))

pub two_front : (bytes : List ℕ) (n : ℕ) → 2 ≤ length bytes → IsBytes bytes → n ≡ from_be_bytes w16 (take 2 bytes) → (n < 2 ^ 16) × (bytes ≡ two_bytes n ++ drop 2 bytes)
unfolding two_bytes
two_front bytes n long fits e =
    let front = IsBytes-take 2 bytes fits in
    let len : length (take 2 bytes) ≡ 2 = omega (arith, length-take 2 bytes) in
    let spelled : two_bytes n ≡ take 2 bytes = be_bytes_2 (take 2 bytes) n len front e in
    (omega (arith, front 0, front 1), sym (ap (λ (x : List ℕ). x ++ drop 2 bytes) spelled ∙ take-append-drop 2 bytes))
