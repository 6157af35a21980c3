-- The date of a day number is the one that the calendar's arithmetic finds.
use Rattle.std.proofs.Common.{◌≡◌, ℕ, zero, suc, ◌+◌, ◌<◌, ◌≤◌, ◌⊎◌, inl, inr, Bool, true, false, List, [], ◌∷◌, ◌++◌, map, cond, ◌==◌, refl, sym, ap, ◌∙◌, subst, arith, ℤ, pos, negsuc, ◌≤ℤ◌, ◌<ℤ◌, unsigned_abs, rules, Some, None, find}
use Rattle.std.specs.List.{flat_map, range_with_len}
use Rattle.std.specs.Ordering.{int_eq}
use Rattle.std.specs.Cmp.{signed_Decides}
use Rattle.std.proofs.lemmas.Bool.{false≢true, eqb-true, eqb-false}
use Rattle.std.proofs.lemmas.Bool.Decides.{nat_tests}
use Rattle.std.proofs.lemmas.Int.{ints, by_lt_z}
use Rattle.std.proofs.lemmas.Option.{cond_some}
use Rattle.std.proofs.lemmas.List.Concat.{flat_map-cons}
use Rattle.jiff_core.specs.Calendar.{days_from_civil, days_in_month}
use Rattle.jiff_core.specs.Date.{epoch_day}
use Rattle.jiff_core.specs.declared.civil.date.Date.{Date}
use Rattle.jiff_core.proofs.CalendarLemmas.{days_from_civil-day_count}
use Rattle.jiff_core.proofs.DateLemmas.{epoch_day_injective, epoch_day_range, epoch_day-lt, epoch_day_same, cases_date}
use Rattle.jiff_core.proofs.MarchLemmas.{day_count-early}
use Rattle.jiff_core.proofs.SignedLemmas.{signed_arith}
use Rattle.hv_value.specs.declared.dates.CivilDate.{CivilDate}
use Rattle.hv_value.specs.Dates.{dates, dates_of_year, dates_of_month, day_number, date_of, is_day, is_date, numbered}

module _ {X : Type 0} where
  abbrev pub In : X → List X → Type 0
  In x [] = ⊥
  In x (y ∷ ys) = (x ≡ y) ⊎ In x ys

  in_front : (x : X) (xs ys : List X) → In x xs → In x (xs ++ ys)
  in_front x [] ys h = absurd h
  in_front x (z ∷ xs) ys (inl e) = inl e
  in_front x (z ∷ xs) ys (inr h) = inr (in_front x xs ys h)

  in_back : (x : X) (xs ys : List X) → In x ys → In x (xs ++ ys)
  in_back x [] ys h = h
  in_back x (z ∷ xs) ys h = inr (in_back x xs ys h)

  in_either : (x : X) (xs ys : List X) → In x (xs ++ ys) → In x xs ⊎ In x ys
  in_either x [] ys h = inr h
  in_either x (z ∷ xs) ys (inl e) = inl (inl e)
  in_either x (z ∷ xs) ys (inr h) = elim (in_either x xs ys h) [ inl g ↦ inl (inr g) | inr g ↦ inr g ]

  -- a search finds the one member that passes
  find_one : (p : X → Bool) (x : X) (xs : List X) → In x xs → p x ≡ true → ((y : X) → In y xs → p y ≡ true → y ≡ x) → find p xs ≡ Some x
  find_one p x [] h px one = absurd h
  find_one p x (z ∷ xs) h px one = by (λ g. find_one p x xs g px (λ y q. one y (inr q))) (p z) refl
    where
      next : (In x xs → find p xs ≡ Some x) → p z ≡ false → In x (z ∷ xs) → find p xs ≡ Some x
      next later e (inl g) = absurd (false≢true (sym e ∙ ap p (sym g) ∙ px))
      next later e (inr g) = later g

      by : (In x xs → find p xs ≡ Some x) → (b : Bool) → p z ≡ b → cond (p z) (Some z) (find p xs) ≡ Some x
      by later true e = ap (λ b. cond b (Some z) (find p xs)) e ∙ ap (λ y. Some y) (one z (inl refl) e)
      by later false e = ap (λ b. cond b (Some z) (find p xs)) e ∙ next later e h

  find_none : (p : X → Bool) (xs : List X) → ((y : X) → In y xs → p y ≡ true → ⊥) → find p xs ≡ None
  find_none p [] none = refl
  find_none p (z ∷ xs) none = by (find_none p xs (λ y q. none y (inr q))) (p z) refl
    where
      by : find p xs ≡ None → (b : Bool) → p z ≡ b → cond (p z) (Some z) (find p xs) ≡ None
      by later true e = absurd (none z (inl refl) e)
      by later false e = ap (λ b. cond b (Some z) (find p xs)) e ∙ later

module _ {X Y : Type 0} where
  in_map : (f : X → Y) (x : X) (xs : List X) → In x xs → In (f x) (map f xs)
  in_map f x [] h = absurd h
  in_map f x (z ∷ xs) (inl e) = inl (ap f e)
  in_map f x (z ∷ xs) (inr h) = inr (in_map f x xs h)

  of_map : (f : X → Y) (y : Y) (xs : List X) → In y (map f xs) → (x : X) × In x xs × (y ≡ f x)
  of_map f y [] h = absurd h
  of_map f y (z ∷ xs) (inl e) = (z, inl refl, e)
  of_map f y (z ∷ xs) (inr h) = let r = of_map f y xs h in (r.0, inr r.1, r.2)

  in_flat_map : (f : X → List Y) (x : X) (y : Y) (xs : List X) → In x xs → In y (f x) → In y (flat_map f xs)
  in_flat_map f x y [] h g = absurd h
  in_flat_map f x y (z ∷ xs) (inl e) g =
      subst (In y) (sym (flat_map-cons f z xs)) (in_front y (f z) (flat_map f xs) (subst (λ w. In y (f w)) e g))
  in_flat_map f x y (z ∷ xs) (inr h) g =
      subst (In y) (sym (flat_map-cons f z xs)) (in_back y (f z) (flat_map f xs) (in_flat_map f x y xs h g))

  of_flat_map : (f : X → List Y) (y : Y) (xs : List X) → In y (flat_map f xs) → (x : X) × In x xs × In y (f x)
  of_flat_map f y [] h = absurd h
  of_flat_map f y (z ∷ xs) h =
      elim (in_either y (f z) (flat_map f xs) (subst (In y) (flat_map-cons f z xs) h)) [
        | inl g ↦ (z, inl refl, g)
        | inr g ↦ let r = of_flat_map f y xs g in (r.0, inr r.1, r.2)
      ]

in_range : (a n k : ℕ) → a ≤ k → k < a + n → In k (range_with_len a n)
in_range a zero k p q = absurd (omega arith)
in_range a (suc n) k p q = by (λ r s. in_range (a + 1) n k r s) (k == a) refl
  where
    by : (a + 1 ≤ k → k < a + 1 + n → In k (range_with_len (a + 1) n)) → (b : Bool) → (k == a) ≡ b → (k ≡ a) ⊎ In k (range_with_len (a + 1) n)
    by later true e = inl (eqb-true k a e)
    by later false e = let differ : k ≡ a → ⊥ = eqb-false k a e in inr (later (omega arith) (omega arith))

of_range : (a n k : ℕ) → In k (range_with_len a n) → (a ≤ k) × (k < a + n)
of_range a zero k h = absurd h
of_range a (suc n) k (inl e) = (omega arith, omega arith)
of_range a (suc n) k (inr h) = let r = of_range (a + 1) n k h in (omega arith, omega arith)

-- a date of the calendar in the years 1 to 9999
pub record IsDate (date : CivilDate) : Type 0 where
  pub year_low : 1 ≤ date.year
  pub year_high : date.year ≤ 9999
  pub month_low : 1 ≤ date.month
  pub month_high : date.month ≤ 12
  pub day_low : 1 ≤ date.day
  pub day_high : date.day ≤ days_in_month (pos date.year) date.month

in_dates : (date : CivilDate) → IsDate date → In date dates
unfolding dates
in_dates date h =
    in_flat_map dates_of_year date.year date (range_with_len 1 9999) (in_range 1 9999 date.year h.year_low (omega (arith, h.year_high)))
    (in_flat_map (dates_of_month date.year) date.month date (range_with_len 1 12) (in_range 1 12 date.month h.month_low (omega (arith, h.month_high)))
    (in_map (λ d. record { year = date.year; month = date.month; day = d }) date.day (range_with_len 1 (days_in_month (pos date.year) date.month))
    (in_range 1 (days_in_month (pos date.year) date.month) date.day h.day_low (omega (arith, h.day_high)))))

of_dates : (date : CivilDate) → In date dates → IsDate date
unfolding dates
of_dates date h =
    let year = of_flat_map dates_of_year date (range_with_len 1 9999) h in
    let month = of_flat_map (dates_of_month year.0) date (range_with_len 1 12) year.2 in
    let day = of_map (λ d. record { year = year.0; month = month.0; day = d }) date (range_with_len 1 (days_in_month (pos year.0) month.0)) month.2 in
    let years = of_range 1 9999 year.0 year.1 in
    let months = of_range 1 12 month.0 month.1 in
    let days = of_range 1 (days_in_month (pos year.0) month.0) day.0 day.1 in
    subst IsDate (sym day.2)
    (record {
      year_low = years.0;
      year_high = omega (arith, years.1);
      month_low = months.0;
      month_high = omega (arith, months.1);
      day_low = days.0;
      day_high = omega (arith, days.1);
    })

-- the same date to the calendar's library
to_library : (date : CivilDate) → IsDate date → Date
to_library date h =
    record {
      year = pos date.year;
      month = date.month;
      day = date.day;
      year_in = (omega (arith, ints, h.year_low), omega (arith, ints, h.year_high));
      month_in = (h.month_low, h.month_high);
      day_in = (h.day_low, h.day_high);
    }

passes : (date : CivilDate) (day : ℤ) → day_number date ≡ day → int_eq (day_number date) day ≡ true
passes date day e = (signed_Decides (day_number date) day).1 e

-- two dates of one day number are one date
one_date : (x y : CivilDate) → IsDate x → IsDate y → day_number x ≡ day_number y → x ≡ y
unfolding to_library
one_date x y hx hy e =
    let same = epoch_day_injective (to_library x hx) (to_library y hy) e in
    λ i. record { year = unsigned_abs (same.0 i); month = same.1 i; day = same.2 i }

pub date_of-some : (date : CivilDate) (day : ℤ) → IsDate date → day_number date ≡ day → date_of day ≡ Some date
unfolding date_of
date_of-some date day h e =
    find_one (λ (d : CivilDate). int_eq (day_number d) day) date dates (in_dates date h) (passes date day e)
    (λ y member pass. one_date y date (of_dates y member) h ((signed_Decides (day_number y) day).0 pass ∙ sym e))

pub date_of-none : (day : ℤ) → ((date : CivilDate) → IsDate date → day_number date ≡ day → ⊥) → date_of day ≡ None
unfolding date_of
date_of-none day none =
    find_none (λ (d : CivilDate). int_eq (day_number d) day) dates
    (λ y member pass. none y (of_dates y member) ((signed_Decides (day_number y) day).0 pass))

-- ---- days

-- 0001-01-01
first_date : Date
first_date = record { year = pos 1; month = 1; day = 1; year_in = search rules; month_in = search rules; day_in = search rules }

first_date-number : days_from_civil (pos 1) 1 1 ≡ negsuc 719161
first_date-number =
    omega (arith, signed_arith, days_from_civil-day_count, day_count-early (pos 1) 10000 1 1 refl (omega arith) (omega arith) (omega arith))

from_first : (d : Date) → pos 1 ≤ℤ d.year → negsuc 719161 ≤ℤ epoch_day d
unfolding first_date
from_first d low =
    elim (cases_date first_date d) [
      | inl later ↦ omega (arith, signed_arith, epoch_day-lt first_date d later, first_date-number)
      | inr (inl (inl early)) ↦ absurd (omega (arith, signed_arith))
      | inr (inl (inr (year, inl month))) ↦ absurd (omega (arith, d.month_in))
      | inr (inl (inr (year, inr day))) ↦ absurd (omega (arith, d.day_in, day.1))
      | inr (inr same) ↦ omega (arith, signed_arith, epoch_day_same first_date d same.0 same.1 same.2, first_date-number)
    ]

before_first : (d : Date) → d.year <ℤ pos 1 → epoch_day d <ℤ negsuc 719161
unfolding first_date
before_first d early = omega (arith, signed_arith, epoch_day-lt d first_date (inl early), first_date-number)

is_day-within : (n : ℤ) → negsuc 719161 ≤ℤ n → n ≤ℤ pos 2932896 → is_day n ≡ true
is_day-within n low high = grind (arith, ints)

is_day-low : (n : ℤ) → is_day n ≡ true → negsuc 719161 ≤ℤ n
is_day-low n e = grind (arith, ints)

-- a date of the library's whose number is a day's is one from the year 1 on
pub year-of_day : (d : Date) → is_day (epoch_day d) ≡ true → pos 1 ≤ℤ d.year
year-of_day d e = by_lt_z d.year (pos 1) (λ early. absurd (omega (arith, ints, before_first d early, is_day-low (epoch_day d) e))) (λ low. low)

-- a number that is no day's is no date's
pub date_of-no_day : (day : ℤ) → is_day day ≡ false → date_of day ≡ None
unfolding to_library
date_of-no_day day e =
    date_of-none day (λ date h is.
    let d = to_library date h in
    let low = from_first d (omega (arith, ints, h.year_low)) in
    false≢true (sym e ∙ ap is_day (sym is) ∙ is_day-within (epoch_day d) low (epoch_day_range d).1))

-- and a date's number is a day's
day_of_date : (date : CivilDate) → IsDate date → is_day (day_number date) ≡ true
unfolding to_library
day_of_date date h =
    let d = to_library date h in
    is_day-within (epoch_day d) (from_first d (omega (arith, ints, h.year_low))) (epoch_day_range d).1

pub numbered-day : (y m d : ℕ) (z : ℤ) → numbered y m d ≡ Some z → is_day z ≡ true
numbered-day y m d z e =
    let found = cond_some (is_date y m d) (days_from_civil (pos y) m d) z e in
    let is = found.0 in
    let date : CivilDate = record { year = y; month = m; day = d } in
    ap is_day (sym found.1)
    ∙ day_of_date date
    (record {
      year_low = grind (arith, nat_tests);
      year_high = grind (arith, nat_tests);
      month_low = grind (arith, nat_tests);
      month_high = grind (arith, nat_tests);
      day_low = grind (arith, nat_tests);
      day_high = grind (arith, nat_tests);
    })

-- a date of the library's from the year 1 on is the one of its day number
pub date_of-known : (d : Date) (y : ℕ) → pos y ≡ d.year → 1 ≤ y → date_of (epoch_day d) ≡ Some (record { year = y; month = d.month; day = d.day })
date_of-known d y e low =
    let date : CivilDate = record { year = y; month = d.month; day = d.day } in
    date_of-some date (epoch_day d)
    (record {
      year_low = low;
      year_high = omega (arith, ints, d.year_in, e);
      month_low = d.month_in.0;
      month_high = d.month_in.1;
      day_low = d.day_in.0;
      day_high = subst (λ z. d.day ≤ days_in_month z d.month) (sym e) d.day_in.1;
    })
    (ap (λ z. days_from_civil z d.month d.day) e)
