-- The statements that a run holds between two actions.
use Rattle.std.specs.Prelude.{◌≡◌, ◌⊎◌, ℕ, ◌<◌, Bool, false, if◌then◌else◌, nat_eq, Option, Some, None, List, [], ◌∷◌, map}
use Rattle.std.specs.Cmp.Lexicographic.{pointwise}
use Rattle.std.specs.List.{AllByRecursion}
use Rattle.hv_shelf.specs.Disk.{Store}
use Rattle.hv_history.specs.declared.entry.Entry.{Entry}
use Rattle.hv_history.specs.State.{state_of}
use Rattle.hv_session.specs.hv_beginning.specs.hv_steps.specs.hv_table_reader.specs.hv_acts.specs.hv_telling.specs.hv_house.specs.declared.house.House.{House}
use Rattle.hv_session.specs.hv_beginning.specs.hv_steps.specs.hv_table_reader.specs.hv_acts.specs.hv_telling.specs.hv_house.specs.House.{entries_of}
use Rattle.hv_session.specs.hv_beginning.specs.hv_steps.specs.hv_table_reader.specs.hv_acts.specs.hv_telling.specs.Telling.{IsToldHouse}
use Rattle.hv_session.specs.hv_beginning.specs.hv_steps.specs.hv_table_reader.specs.hv_acts.specs.declared.told.ToldHouse.{ToldHouse}
use Rattle.hv_session.specs.declared.paused.Paused.{Paused}
use Rattle.hv_session.specs.Doing.{CanFinish}
use Rattle.hv_session.specs.Taking.{IsHeldBySome, IsTrulyHeld, WasStopped}
use Rattle.hv_program.specs.declared.held.Held.{Held}
use Rattle.hv_program.specs.Doing.{Waiting, Standing}

-- ---- the list

abbrev pub waiting_of : Held → Waiting
waiting_of held = record { session = held.session; txn = held.paused.way.txn.0 }

abbrev pub is_of_session : List ℕ → Held → Bool
is_of_session name held = pointwise nat_eq held.session name

-- the first that is held in that session
abbrev pub paused_in : List ℕ → List Held → Option Paused
paused_in name [] = None
paused_in name (first ∷ more) = if is_of_session name first then Some first.paused else paused_in name more

-- those that are held without it
abbrev pub held_without : List ℕ → List Held → List Held
held_without name [] = []
held_without name (first ∷ more) = if is_of_session name first then more else first ∷ held_without name more

-- where the run stands between two actions
abbrev pub standing_of : {D : Type 0} → House D → List Held → Standing
standing_of house helds = record { book = entries_of house; waiting = map waiting_of helds }

-- ---- what is known of them

-- its transaction was opened before that one
abbrev pub ComesBefore : Held → Held → Type 0
ComesBefore first other = first.paused.way.txn.0 < other.paused.way.txn.0

abbrev pub AreInOrder : List Held → Type 0
AreInOrder [] = Unit {0}
AreInOrder (first ∷ more) = AllByRecursion (ComesBefore first) more × AreInOrder more

-- it is held, or another statement has asked for its abort
abbrev pub IsHeldIn : List Entry → Held → Type 0
IsHeldIn book held = IsHeldBySome book held.paused ⊎ WasStopped book held.paused.way.txn.0

-- whatever is told: each is held in this book or was stopped, in the order in which they were opened; and where one is, no Lost fits any more
pub record AreHeld (book : List Entry) (helds : List Held) : Type 0 where
  pub each : AllByRecursion (IsHeldIn book) helds
  pub apart : AreInOrder helds
  pub begun : (helds ≡ []) ⊎ ((state_of book).openings.only_lost ≡ false)

abbrev pub StandsTruly : List Entry → Paused → Type 0
StandsTruly book paused = IsTrulyHeld book paused ⊎ WasStopped book paused.way.txn.0

abbrev pub IsTrulyHeldIn : List Entry → Held → Type 0
IsTrulyHeldIn book held = StandsTruly book held.paused

-- in a told house each that is held will end as it means, unless it was stopped
abbrev pub AreTrulyHeld : {D : Type 0} → (D → Option Store) → House D → List Held → Type 0
AreTrulyHeld told house helds = IsToldHouse told house → AllByRecursion (IsTrulyHeldIn (entries_of house)) helds

-- each that is held can be finished
abbrev pub CanFinishHeld : {D : Type 0} → (D → Option Store) → ToldHouse D → Held → Type 0
CanFinishHeld told house held = CanFinish told house held.paused

abbrev pub CanAllFinish : {D : Type 0} → (D → Option Store) → ToldHouse D → List Held → Type 0
CanAllFinish told house helds = AllByRecursion (CanFinishHeld told house) helds
