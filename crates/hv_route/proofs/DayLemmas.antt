-- The text of a date is read as its day.
use Rattle.std.proofs.Common.{◌≡◌, ℕ, zero, suc, ◌+◌, ◌/◌, ◌≤◌, ◌==◌, ◌&&◌, Bool, true, false, cond, List, [], ◌∷◌, drop, take, length, slice_index, refl, ap, sym, ◌∙◌, arith, ℤ, Option, Some, None}
use Rattle.std.specs.Prelude.{All, is_some}
use Rattle.std.specs.Option.{unwrap_or}
use Rattle.std.specs.Char.{is_ascii_digit}
use Rattle.std.specs.List.{prefix_len}
use Rattle.std.specs.Ordering.{int_eq}
use Rattle.std.specs.Cmp.{signed_Decides}
use Rattle.std.proofs.lemmas.Bool.{and_parts, cond-true, false≢true}
use Rattle.std.proofs.lemmas.Bool.Decides.{nat_tests}
use Rattle.percent_encoding.proofs.PercentLemmas.{IsByte}
use Rattle.hv_value.specs.declared.dates.CivilDate.{CivilDate}
use Rattle.hv_value.specs.Bytes.{minus_sign}
use Rattle.hv_value.specs.Digits.{digit_count, numeral_value}
use Rattle.hv_value.specs.Dates.{date_of, day_number, is_date, numbered, is_short, is_dashed, dashed_day, is_other_than_space, day_of_text, civil_text, last_digit}
use Rattle.hv_value.proofs.DateSteps.{IsDate, date_of-some, date_of-none}

-- ---- digits and dashes

digit : (n : ℕ) → is_ascii_digit (last_digit n) ≡ true
digit n = grind (arith, nat_tests)

other : (n : ℕ) → is_other_than_space (last_digit n) ≡ true
other n = grind (arith, nat_tests)

digits-more : (n : ℕ) (text : List ℕ) (k : ℕ) → digit_count text ≡ k → digit_count (last_digit n ∷ text) ≡ 1 + k
digits-more n text k e = ap (λ b. cond b (1 + digit_count text) 0) (digit n) ∙ ap (λ c. 1 + c) e

one-more-is : (k : ℕ) → 1 + k ≡ suc k
one-more-is k = omega arith

whole-more : (n : ℕ) (text : List ℕ) → take (prefix_len is_other_than_space text) text ≡ text
    → take (prefix_len is_other_than_space (last_digit n ∷ text)) (last_digit n ∷ text) ≡ last_digit n ∷ text
whole-more n text e =
    ap (λ b. take (cond b (1 + prefix_len is_other_than_space text) 0) (last_digit n ∷ text)) (other n)
    ∙ ap (λ k. take k (last_digit n ∷ text)) (one-more-is (prefix_len is_other_than_space text))
    ∙ ap (λ (rest : List ℕ). last_digit n ∷ rest) e

dash-more : (text : List ℕ) → take (prefix_len is_other_than_space text) text ≡ text
    → take (prefix_len is_other_than_space (minus_sign ∷ text)) (minus_sign ∷ text) ≡ minus_sign ∷ text
dash-more text e =
    ap (λ k. take k (minus_sign ∷ text)) (one-more-is (prefix_len is_other_than_space text))
    ∙ ap (λ (rest : List ℕ). minus_sign ∷ rest) e

-- ---- numerals

two-value : (n : ℕ) → n ≤ 99 → numeral_value (last_digit (n / 10) ∷ last_digit n ∷ []) ≡ n
unfolding numeral_value
two-value n low = omega arith

four-value : (n : ℕ) → n ≤ 9999 → numeral_value (last_digit (n / 1000) ∷ last_digit (n / 100) ∷ last_digit (n / 10) ∷ last_digit n ∷ []) ≡ n
unfolding numeral_value
four-value n low = omega arith

day-low : (date : CivilDate) → IsDate date → date.day ≤ 99
day-low date is = let h = is.day_high in grind (arith, h)

-- ---- the text

-- the bytes of a date are bytes
small-digit : (n : ℕ) → IsByte (last_digit n)
small-digit n = omega arith

record Small (bytes : List ℕ) : Type 0 where
  all : All IsByte bytes

no-bytes : Small []
no-bytes = record { all = λ k d within. absurd (omega (arith, within)) }

one-more : (b : ℕ) {bytes : List ℕ} → IsByte b → Small bytes → Small (b ∷ bytes)
one-more b {bytes} small rest = record { all = by }
  where
    by : All IsByte (b ∷ bytes)
    by zero d within = small
    by (suc k) d within = rest.all k d (omega (arith, within))

a-digit : (n : ℕ) {bytes : List ℕ} → Small bytes → Small (last_digit n ∷ bytes)
a-digit n rest = one-more (last_digit n) (small-digit n) rest

a-dash : {bytes : List ℕ} → Small bytes → Small (minus_sign ∷ bytes)
a-dash rest = one-more minus_sign (omega arith) rest

all-small : (date : CivilDate) → Small (civil_text date)
unfolding civil_text
all-small date =
    let day = a-dash (a-digit (date.day / 10) (a-digit date.day no-bytes)) in
    let month = a-dash (a-digit (date.month / 10) (a-digit date.month day)) in
    a-digit (date.year / 1000) (a-digit (date.year / 100) (a-digit (date.year / 10) (a-digit date.year month)))

pub civil-small : (date : CivilDate) → All IsByte (civil_text date)
civil-small date = (all-small date).all

module _ (date : CivilDate) where
  day_part : List ℕ
  day_part = last_digit (date.day / 10) ∷ last_digit date.day ∷ []

  month_part : List ℕ
  month_part = last_digit (date.month / 10) ∷ last_digit date.month ∷ minus_sign ∷ day_part

  text : List ℕ
  text = last_digit (date.year / 1000) ∷ last_digit (date.year / 100) ∷ last_digit (date.year / 10) ∷ last_digit date.year ∷ minus_sign ∷ month_part

  same-text : civil_text date ≡ text
  unfolding civil_text text month_part day_part
  same-text = refl

  whole : take (prefix_len is_other_than_space text) text ≡ text
  unfolding text month_part day_part
  whole =
      whole-more (date.year / 1000) _ (whole-more (date.year / 100) _ (whole-more (date.year / 10) _ (whole-more date.year _
      (dash-more _ (whole-more (date.month / 10) _ (whole-more date.month _
      (dash-more _ (whole-more (date.day / 10) _ (whole-more date.day [] refl)))))))))

  four : digit_count text ≡ 4
  unfolding text
  four =
      let behind = minus_sign ∷ month_part in
      digits-more (date.year / 1000) (last_digit (date.year / 100) ∷ last_digit (date.year / 10) ∷ last_digit date.year ∷ behind) 3
      (digits-more (date.year / 100) (last_digit (date.year / 10) ∷ last_digit date.year ∷ behind) 2
      (digits-more (date.year / 10) (last_digit date.year ∷ behind) 1 (digits-more date.year behind 0 refl)))

  two : digit_count month_part ≡ 2
  unfolding month_part
  two = digits-more (date.month / 10) (last_digit date.month ∷ minus_sign ∷ day_part) 1 (digits-more date.month (minus_sign ∷ day_part) 0 refl)

  two-last : digit_count day_part ≡ 2
  unfolding day_part
  two-last = digits-more (date.day / 10) (last_digit date.day ∷ []) 1 (digits-more date.day [] 0 refl)

  -- what `is_dashed` asks, by its three counts
  shape : ℕ → ℕ → ℕ → Bool
  shape a b c =
      (a == 4) && (slice_index text 4 == minus_sign) && is_short b && (slice_index month_part b == minus_sign) && is_short c
      && (length (drop (b + 1) month_part) == c)

  dashed : is_dashed text ≡ true
  unfolding shape text month_part day_part
  dashed = (λ i. shape (four i) (two i) (digit_count (drop (two i + 1) month_part))) ∙ ap (shape 4 2) two-last

  read : IsDate date → dashed_day text ≡ numbered date.year date.month date.day
  unfolding text month_part day_part
  read is =
      ap (λ b. cond b (numbered (numeral_value (take 4 text)) (numeral_value (take (digit_count month_part) month_part)) (numeral_value (drop (digit_count month_part + 1) month_part))) None) dashed
      ∙ (λ i. numbered (numeral_value (take 4 text)) (numeral_value (take (two i) month_part)) (numeral_value (drop (two i + 1) month_part)))
      ∙ (λ i. numbered (four-value date.year is.year_high i) (two-value date.month (omega (arith, is.month_high)) i) (numeral_value day_part))
      ∙ ap (numbered date.year date.month) (two-value date.day (day-low date is))

-- ---- the day

known : CivilDate → Bool
known date = is_date date.year date.month date.day

from-known : (date : CivilDate) → known date ≡ true → IsDate date
unfolding known
from-known date e =
    record {
      year_low = grind (arith, nat_tests);
      year_high = grind (arith, nat_tests);
      month_low = grind (arith, nat_tests);
      month_high = grind (arith, nat_tests);
      day_low = grind (arith, nat_tests);
      day_high = grind (arith, nat_tests);
    }

to-known : (date : CivilDate) → IsDate date → known date ≡ true
unfolding known
to-known date is = grind (arith, nat_tests, is.year_low, is.year_high, is.month_low, is.month_high, is.day_low, is.day_high)

numbered-known : (date : CivilDate) → known date ≡ true → numbered date.year date.month date.day ≡ Some (day_number date)
unfolding known
numbered-known date e = cond-true _ _ _ e

module _ (day : ℤ) (date : CivilDate) (found : date_of day ≡ Some date) where
  abbrev fits : CivilDate → Bool
  fits d = known d && int_eq (day_number d) day

  no-other : fits date ≡ false → (d : CivilDate) → IsDate d → day_number d ≡ day → ⊥
  no-other e d is same =
      let one : Some d ≡ Some date = sym (date_of-some d day is same) ∙ found in
      let yes : fits d ≡ true = (λ i. to-known d is i && (signed_Decides (day_number d) day).1 same i) in
      let d-date : d ≡ date = ap (λ (x : Option CivilDate). unwrap_or x date) one in
      false≢true (sym e ∙ ap fits (sym d-date) ∙ yes)

  it-fits : fits date ≡ true
  it-fits = by (fits date) refl
    where
      by : (b : Bool) → fits date ≡ b → b ≡ true
      by true e = refl
      by false e =
          sym (ap is_some (sym found ∙ date_of-none day (no-other e)))

  pub read-day : day_of_text (civil_text date) ≡ Some day
  read-day =
      let both = and_parts (known date) (int_eq (day_number date) day) it-fits in
      let is = from-known date both.0 in
      ap day_of_text (same-text date) ∙ ap dashed_day (whole date) ∙ read date is ∙ numbered-known date both.0
      ∙ ap Some ((signed_Decides (day_number date) day).0 both.1)
