-- Each day number of the years 1 to 9999 is a date's.
use Rattle.std.proofs.Common.{◌≡◌, ℕ, zero, suc, ◌+◌, ◌<◌, ◌≤◌, true, refl, sym, ap, ◌∙◌, subst, arith, ℤ, pos, negsuc, ◌+ℤ◌, ◌≤ℤ◌, ◌<ℤ◌, unsigned_abs, rules, inl, inr}
use Rattle.std.specs.Prelude.{IsSome}
use Rattle.std.proofs.lemmas.Bool.{cases_lt}
use Rattle.std.proofs.lemmas.Int.{ints, by_lt_z}
use Rattle.jiff_core.specs.Calendar.{days_from_civil, days_in_month}
use Rattle.jiff_core.specs.Date.{epoch_day}
use Rattle.jiff_core.specs.declared.civil.date.Date.{Date}
use Rattle.jiff_core.proofs.CalendarLemmas.{days_in_month_bounds, days_from_civil-day_count}
use Rattle.jiff_core.proofs.DateLemmas.{days_from_civil-day, days_from_civil-next_month, days_from_civil-next_year, days_from_civil-max}
use Rattle.jiff_core.proofs.MarchLemmas.{day_count-early}
use Rattle.jiff_core.proofs.SignedLemmas.{signed_arith}
use Rattle.hv_value.specs.Dates.{date_of, is_day}
use Rattle.hv_value.proofs.DateSteps.{date_of-known}

record Reached (n : ℤ) : Type 0 where
  date : Date
  low : pos 1 ≤ℤ date.year
  is : epoch_day date ≡ n

module _ (d : Date) (low : pos 1 ≤ℤ d.year) where
  in-month : d.day < days_in_month d.year d.month → Reached (epoch_day d +ℤ pos 1)
  in-month less =
      let next = days_from_civil-day d.year d.month d.day (d.day + 1) d.day_in.0 (omega arith) in
      record {
        date = record {
          year = d.year;
          month = d.month;
          day = d.day + 1;
          year_in = d.year_in;
          month_in = d.month_in;
          day_in = (omega arith, omega (arith, less));
        };
        low = low;
        is = omega (arith, signed_arith, next);
      }

  next-month : d.day ≡ days_in_month d.year d.month → d.month < 12 → Reached (epoch_day d +ℤ pos 1)
  next-month last less =
      let some = (days_in_month_bounds d.year (d.month + 1)).1 in
      record {
        date = record {
          year = d.year;
          month = d.month + 1;
          day = 1;
          year_in = d.year_in;
          month_in = (omega arith, omega (arith, less));
          day_in = (omega arith, omega (arith, some));
        };
        low = low;
        is = days_from_civil-next_month d.year d.month d.day d.month_in.0 last;
      }

  next-year : d.day ≡ 31 → d.month ≡ 12 → d.year <ℤ pos 9999 → Reached (epoch_day d +ℤ pos 1)
  next-year last month less =
      let some = (days_in_month_bounds (d.year +ℤ pos 1) 1).1 in
      record {
        date = record {
          year = d.year +ℤ pos 1;
          month = 1;
          day = 1;
          year_in = (omega (arith, ints, low), omega (arith, ints, less));
          month_in = (omega arith, omega arith);
          day_in = (omega arith, omega (arith, some));
        };
        low = omega (arith, ints, low);
        is = days_from_civil-next_year d.year (d.year +ℤ pos 1) (omega (arith, ints, low)) refl
            ∙ (λ i. days_from_civil d.year (sym month i) (sym last i) +ℤ pos 1);
      }

  last-month : d.day ≡ 31 → d.month ≡ 12 → epoch_day d <ℤ pos 2932896 → Reached (epoch_day d +ℤ pos 1)
  last-month last month less =
      by_lt_z d.year (pos 9999) (λ early. next-year last month early) (λ late.
      let year : d.year ≡ pos 9999 = omega (arith, ints, late, d.year_in.1) in
      let same : epoch_day d ≡ pos 2932896 = (λ i. days_from_civil (year i) (month i) (last i)) ∙ days_from_civil-max in
      absurd (omega (arith, ints, same, less)))

  next : epoch_day d <ℤ pos 2932896 → Reached (epoch_day d +ℤ pos 1)
  next less =
      elim (cases_lt d.day (days_in_month d.year d.month)) [
        | inl within ↦ in-month within
        | inr whole ↦
            let last : d.day ≡ days_in_month d.year d.month = omega (arith, whole, d.day_in.1) in
            elim (cases_lt d.month 12) [
              | inl early ↦ next-month last early
              | inr late ↦
                  let month : d.month ≡ 12 = omega (arith, late, d.month_in.1) in
                  last-month (last ∙ ap (days_in_month d.year) month) month less
            ]
      ]

first-number : days_from_civil (pos 1) 1 1 ≡ negsuc 719161
first-number =
    omega (arith, signed_arith, days_from_civil-day_count, day_count-early (pos 1) 10000 1 1 refl (omega arith) (omega arith) (omega arith))

reach : (n : ℕ) → n ≤ 3652058 → Reached (negsuc 719161 +ℤ pos n)
reach zero below =
    record {
      date = record { year = pos 1; month = 1; day = 1; year_in = search rules; month_in = search rules; day_in = search rules };
      low = search rules;
      is = first-number;
    }
reach (suc n) below =
    let before = reach n (omega (arith, below)) in
    let less : epoch_day before.date <ℤ pos 2932896 = omega (arith, ints, before.is, below) in
    let one : epoch_day before.date +ℤ pos 1 ≡ negsuc 719161 +ℤ pos (suc n) = omega (arith, ints, before.is) in
    subst Reached one (next before.date before.low less)

found-at : (n : ℤ) → Reached n → IsSome (date_of n)
found-at n r =
    let y = unsigned_abs r.date.year in
    let year : pos y ≡ r.date.year = omega (arith, ints, r.low) in
    let low : 1 ≤ y = omega (arith, ints, r.low, year) in
    subst IsSome (sym (date_of-known r.date y year low) ∙ ap date_of r.is) refl

pub day-found : (day : ℤ) → is_day day ≡ true → IsSome (date_of day)
day-found day e =
    let low : negsuc 719161 ≤ℤ day = grind (arith, ints) in
    let high : day ≤ℤ pos 2932896 = grind (arith, ints) in
    let n = unsigned_abs (day +ℤ pos 719162) in
    let same : negsuc 719161 +ℤ pos n ≡ day = omega (arith, ints, low) in
    let below : n ≤ 3652058 = omega (arith, ints, same, high) in
    subst (λ z. IsSome (date_of z)) same (found-at (negsuc 719161 +ℤ pos n) (reach n below))
