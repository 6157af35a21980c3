-- What holds between two lines of a case.
use Rattle.std.specs.Prelude.{ℕ, ◌≤◌, Option, Some, IfSome, length}
use Rattle.hv_shelf.specs.Disk.{Store}
use Rattle.hv_session.specs.hv_beginning.specs.hv_steps.specs.hv_table_reader.specs.hv_acts.specs.declared.told.ToldHouse.{ToldHouse}
use Rattle.hv_session.specs.hv_beginning.specs.hv_steps.specs.hv_table_reader.specs.hv_acts.specs.hv_telling.specs.hv_house.specs.Housed.{ShutsHard}
use Rattle.hv_session.specs.hv_beginning.specs.hv_steps.specs.hv_table_reader.specs.hv_acts.specs.Told.{IsWholeOrClosed, seen_in}
use Rattle.hv_session.specs.hv_beginning.specs.hv_steps.specs.Going.{IsOpenHouse}
use Rattle.hv_session.specs.declared.asking.Asking.{Asking}
use Rattle.hv_session.specs.declared.paused.Paused.{Paused}
use Rattle.hv_session.specs.declared.paused.Taken.{Taken}
use Rattle.hv_session.specs.declared.paused.Taken.TheVariants as taken
use Rattle.hv_session.specs.Doing.{CanFinish, IsHold}
use Rattle.tests_jobs.specs.declared.desk.Desk.{Desk}

-- a statement that can be taken up
pub record CanTakeUp (asking : Asking) : Type 0 where
  pub short : length asking.text ≤ 32768
  pub named : length asking.session ≤ 32
  pub hold : IsHold asking.hold

-- the statement that is held behind one that was taken up
abbrev pub held_behind : Taken → Option Paused → Option Paused
held_behind (taken.Replied reply) held = held
held_behind (taken.Kept paused) held = Some paused

-- the house is as acts keep it
abbrev pub IsAsKept : {D : Type 0} → (D → Option Store) → (D → ℕ) → ToldHouse D → Type 0
IsAsKept told hard house = IsWholeOrClosed told house.house × ShutsHard hard (seen_in house)

-- acts can go on
pub record CanGoOn {D : Type 0} (told : D → Option Store) (house : ToldHouse D) (desk : Desk) : Type 0 where
  pub running : IsOpenHouse house
  pub hold : IsHold desk.hold
  pub held : IfSome desk.held (CanFinish told house)

-- and the house is as acts keep it
pub record IsAtHand {D : Type 0} (told : D → Option Store) (hard : D → ℕ) (desk : Desk) (house : ToldHouse D) : Type 0
  where
    pub keeps : IsAsKept told hard house
    pub goes_on : CanGoOn told house desk
