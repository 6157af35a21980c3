-- A number that was cut to 64 bits names a date where the whole number does.
use Rattle.std.proofs.Common.{◌≡◌, ℕ, ◌-◌, ◌^◌, ◌<◌, ◌≤◌, ◌⊎◌, inl, inr, min, true, false, cond, sym, ap, ◌∙◌, arith, pos, Some, None, ◌+◌, List, take, drop}
use Rattle.std.proofs.lemmas.Bool.{cases_order}
use Rattle.std.proofs.lemmas.Bool.Decides.{nat_tests}
use Rattle.jiff_core.specs.Calendar.{days_from_civil}
use Rattle.jiff_core.proofs.CalendarLemmas.{days_in_month_bounds}
use Rattle.hv_value.specs.Digits.{digit_count, numeral_value}
use Rattle.hv_value.specs.Dates.{is_date, numbered, is_dashed, dashed_day}

abbrev cap : ℕ
cap = 2 ^ 64 - 1

year_over : (y m d : ℕ) → 9999 < y → is_date y m d ≡ false
year_over y m d h = grind (arith, nat_tests)

month_over : (y m d : ℕ) → 12 < m → is_date y m d ≡ false
month_over y m d h = grind (arith, nat_tests)

day_over : (y m d : ℕ) → 31 < d → is_date y m d ≡ false
day_over y m d h = let most = days_in_month_bounds (pos y) m in grind (arith, nat_tests)

no_date : (y m d : ℕ) → is_date y m d ≡ false → numbered y m d ≡ None
no_date y m d e = ap (λ b. cond b (Some (days_from_civil (pos y) m d)) None) e

within : (n : ℕ) → (n ≤ cap) ⊎ (cap < n)
within n = elim (cases_order n cap) [ inl e ↦ inl (omega arith) | inr (inl lt) ↦ inl (omega arith) | inr (inr gt) ↦ inr (omega arith) ]

cut_year : (y m d : ℕ) → numbered (min y cap) m d ≡ numbered y m d
cut_year y m d =
    elim (within y) [
      | inl low ↦ let e : min y cap ≡ y = omega arith in ap (λ n. numbered n m d) e
      | inr high ↦ no_date (min y cap) m d (year_over (min y cap) m d (omega arith)) ∙ sym (no_date y m d (year_over y m d (omega arith)))
    ]

cut_month : (y m d : ℕ) → numbered y (min m cap) d ≡ numbered y m d
cut_month y m d =
    elim (within m) [
      | inl low ↦ let e : min m cap ≡ m = omega arith in ap (λ n. numbered y n d) e
      | inr high ↦ no_date y (min m cap) d (month_over y (min m cap) d (omega arith)) ∙ sym (no_date y m d (month_over y m d (omega arith)))
    ]

cut_day : (y m d : ℕ) → numbered y m (min d cap) ≡ numbered y m d
cut_day y m d =
    elim (within d) [
      | inl low ↦ let e : min d cap ≡ d = omega arith in ap (λ n. numbered y m n) e
      | inr high ↦ no_date y m (min d cap) (day_over y m (min d cap) (omega arith)) ∙ sym (no_date y m d (day_over y m d (omega arith)))
    ]

pub numbered-cut : (y m d : ℕ) → numbered (min y (2 ^ 64 - 1)) (min m (2 ^ 64 - 1)) (min d (2 ^ 64 - 1)) ≡ numbered y m d
numbered-cut y m d = cut_year y (min m cap) (min d cap) ∙ cut_month y m (min d cap) ∙ cut_day y m d

-- what a dashed text names
pub dashed_day-is : (bytes : List ℕ) (y m d : ℕ) → is_dashed bytes ≡ true → y ≡ min (numeral_value (take 4 bytes)) (2 ^ 64 - 1)
    → m ≡ min (numeral_value (take (digit_count (drop 5 bytes)) (drop 5 bytes))) (2 ^ 64 - 1)
    → d ≡ min (numeral_value (drop (digit_count (drop 5 bytes) + 1) (drop 5 bytes))) (2 ^ 64 - 1)
    → numbered y m d ≡ dashed_day bytes
dashed_day-is bytes y m d e ey em ed =
    (λ i. numbered (ey i) (em i) (ed i))
    ∙ numbered-cut (numeral_value (take 4 bytes)) (numeral_value (take (digit_count (drop 5 bytes)) (drop 5 bytes)))
    (numeral_value (drop (digit_count (drop 5 bytes) + 1) (drop 5 bytes)))
    ∙ ap (λ b. cond b (numbered (numeral_value (take 4 bytes)) (numeral_value (take (digit_count (drop 5 bytes)) (drop 5 bytes)))
    (numeral_value (drop (digit_count (drop 5 bytes) + 1) (drop 5 bytes)))) None) (sym e)
