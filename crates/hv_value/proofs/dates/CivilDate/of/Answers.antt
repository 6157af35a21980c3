use Rattle.std.proofs.Common.{◌≡◌, ◌≤◌, ◌≤ℤ◌, ℤ, true, false, pos, ap, sym, ◌∙◌, arith}
use Rattle.std.proofs.lemmas.Int.{ints, to_z-of_z}
use lib.IntN.{nat_abs}
use mir.Val.{to_z, of_z}
use mir.Syntax.{w16}
use Rattle.jiff_core.specs.Date.{epoch_day}
use Rattle.hv_value.specs.Dates.{date_of, is_day}
use Rattle.hv_value.proofs.DateSteps.{year-of_day, date_of-no_day, date_of-known}
use Rattle.hv_value.proofs.dates.CivilDate.of.Goals as goal

pub returns-in-None-clause-date : goal.returns-in-None-clause-date
returns-in-None-clause-date c =
    let none : is_day c.args.day ≡ false = grind arith in
    sym (date_of-no_day c.args.day none)

pub overflow_cast-result : goal.overflow_cast-result
overflow_cast-result c =
    let date = c.in-Some.date in
    let day : is_day (epoch_day date) ≡ true = grind arith in
    let low = year-of_day date day in
    grind (arith, ints, low, date.year_in)

same_year : (z : ℤ) → pos 1 ≤ℤ z → z ≤ℤ pos 9999 → pos (nat_abs (to_z w16 (of_z w16 z))) ≡ z
same_year z low high = grind (arith, ints, to_z-of_z)

pub returns-in-Some-clause-date : goal.returns-in-Some-clause-date
returns-in-Some-clause-date c =
    let date = c.in-Some.date in
    let day : is_day (epoch_day date) ≡ true = grind arith in
    let low = year-of_day date day in
    let y = nat_abs (to_z w16 (of_z w16 date.year)) in
    let is : pos y ≡ date.year = same_year date.year low date.year_in.1 in
    let positive : 1 ≤ y = omega (arith, ints, low, is) in
    let same : epoch_day date ≡ c.args.day = grind arith in
    sym (date_of-known date y is positive) ∙ ap date_of same
