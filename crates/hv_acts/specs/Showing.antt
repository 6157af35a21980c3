-- What an act answers that asks what a SHOW lists of the book as it was at a place.
use Rattle.std.specs.Prelude.{◌≡◌, ℕ, false, Option, Result, Ok, Err}
use Rattle.hv_ast.specs.declared.statement.Show.{Show}
use Rattle.hv_shelf.specs.Disk.{Store}
use Rattle.hv_history.specs.declared.shown.Shown.{Shown}
use Rattle.hv_history.specs.Shown.{show_listed}
use Rattle.hv_trail.specs.Steps.{HouseSeen, Ask, Step}
use Rattle.hv_telling.specs.hv_house.specs.declared.house.House.{House}
use Rattle.hv_telling.specs.hv_house.specs.Steps.{seen_of}
use Rattle.hv_acts.specs.declared.fault.ActFault.{ActFault}
use Rattle.hv_acts.specs.Answers.{answer_outcome}
use Rattle.hv_acts.specs.Reading.{state_then, HasFittingBook, IsFindWhy}

-- what an open house shows: just what is defined over the state at the place
pub record HasShown {D : Type 0} (house : HouseSeen D) (place : ℕ) (what : Show) (shown : Option Shown) : Type 0 where
  pub running : house.closed ≡ false
  pub book : HasFittingBook house.trail
  pub shown_is : shown ≡ show_listed (state_then house.trail place) what

-- a closed house shows nothing, and an open one fails for want of memory alone
abbrev pub ShowAnswers : {D : Type 0} → HouseSeen D → ℕ → Show → Result (Option Shown) ActFault → Type 0
ShowAnswers house place what (Ok shown) = HasShown house place what shown
ShowAnswers house place what (Err why) = IsFindWhy house.closed why

-- all that is promised of what was to be shown: the house was only asked
pub record ShowStep {D : Type 0} (told : D → Option Store) (faults : D → ℕ) (place : ℕ) (what : Show) (house : House D)
    (result : Result (Option Shown) ActFault) : Type 0 where
  pub step : Step told faults Ask (answer_outcome result) (seen_of house) (seen_of house)
  pub answers : ShowAnswers (seen_of house) place what result
