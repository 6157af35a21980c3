-- What an act answers that asks how many rows the commits of a table say.
use Rattle.std.specs.Prelude.{◌≡◌, ℕ, false, Option, List, Result, Ok, Err}
use Rattle.hv_base.specs.declared.ids.TableId.{TableId}
use Rattle.hv_shelf.specs.Disk.{Store}
use Rattle.hv_book.specs.Past.{total}
use Rattle.std.specs.Global.{Vec}
use Rattle.hv_counts.specs.declared.due.Due.{Due}
use Rattle.hv_counts.specs.Counts.{dues_in}
use Rattle.hv_trail.specs.declared.trail.TrailItem.{TrailItem}
use Rattle.hv_trail.specs.Steps.{HouseSeen, Ask, Step}
use Rattle.hv_telling.specs.hv_house.specs.declared.house.House.{House}
use Rattle.hv_telling.specs.hv_house.specs.Steps.{seen_of}
use Rattle.hv_acts.specs.declared.fault.ActFault.{ActFault}
use Rattle.hv_acts.specs.Answers.{answer_outcome}
use Rattle.hv_acts.specs.Reading.{state_then, HasFittingBook, IsFindWhy}

-- the same dues, in any order: as many rows by every weight
abbrev pub AreAsMany : List Due → List Due → Type 0
AreAsMany dues others = (weight : Due → ℕ) → total weight dues ≡ total weight others

-- what an open house has of them: what the commits of the table before the place say
pub record HasCounted {D : Type 0} (house : HouseSeen D) (place : ℕ) (table : TableId) (dues : List Due) : Type 0 where
  pub running : house.closed ≡ false
  pub book : HasFittingBook house.trail
  pub dues_are : AreAsMany dues (dues_in (state_then house.trail place) table.0)

-- a closed house counts nothing, and an open one fails for want of memory alone
abbrev pub CountAnswers : {D : Type 0} → HouseSeen D → ℕ → TableId → Result (Vec Due) ActFault → Type 0
CountAnswers house place table (Ok dues) = HasCounted house place table dues.items
CountAnswers house place table (Err why) = IsFindWhy house.closed why

-- all that is promised of dues that were to be counted: the house was only asked
pub record CountStep {D : Type 0} (told : D → Option Store) (faults : D → ℕ) (place : ℕ) (table : TableId)
    (house : House D)
    (result : Result (Vec Due) ActFault) : Type 0 where
  pub step : Step told faults Ask (answer_outcome result) (seen_of house) (seen_of house)
  pub answers : CountAnswers (seen_of house) place table result
