-- What is known of a house that acts go on with, whatever others do between: what one's own acts added to its trail, and how a run stops.
-- Source: Hive Transactions; that each act is one hold of the house is this project's profile.
use Rattle.std.specs.Prelude.{◌≡◌, ◌⊎◌, ℕ, true, false, Option, List}
use Rattle.std.specs.List.{AllByRecursion}
use Rattle.hv_shelf.specs.Disk.{Store}
use Rattle.hv_history.specs.declared.entry.Entry.{Entry}
use Rattle.hv_trail.specs.declared.trail.TrailItem.{TrailItem}
use Rattle.hv_trail.specs.Trail.{book_of}
use Rattle.hv_trail.specs.Own.{IsOf}
use Rattle.hv_actor.specs.Acting.{IsLater, Went, Moment}
use Rattle.hv_telling.specs.hv_house.specs.declared.fault.HouseFault.{HouseFault}
use Rattle.hv_telling.specs.hv_house.specs.declared.fault.HouseFault.TheVariants as fault
use Rattle.hv_acts.specs.declared.told.ToldHouse.{ToldHouse}
use Rattle.hv_acts.specs.Told.{IsWholeOrClosed, seen_in, trail_in}
use Rattle.hv_acts.specs.Answers.{IsCutShort}

-- ---- the house

-- its store's count of faults
abbrev pub faults_in : {D : Type 0} → (D → ℕ) → ToldHouse D → ℕ
faults_in faults told = faults told.house.shelf

abbrev pub IsOpenHouse : {D : Type 0} → ToldHouse D → Type 0
IsOpenHouse told = told.house.trail.closed ≡ false

-- it is closed, and not for want of memory
abbrev pub IsShutHouse : {D : Type 0} → ToldHouse D → Type 0
IsShutHouse told = (told.house.trail.closed ≡ true) × (told.house.trail.starved ≡ false)

-- ---- what one's own acts added

-- they added these entries, in this order, and marks beside them, all as this transaction's; and the house goes on
pub record AddsOwn {D : Type 0} (faults : D → ℕ) (between : List TrailItem → Type 0) (by : ℕ)
    (before now : Moment (ToldHouse D))
    (added : List Entry) : Type 0 where
  pub items : List TrailItem
  pub went : Went between items before.own now.own (trail_in before.house) (trail_in now.house)
  pub entries : book_of items ≡ added
  pub mine : AllByRecursion (IsOf by) items
  pub later : IsLater faults (seen_in before.house) (seen_in now.house)

-- ---- the run stops

-- between two acts others closed the house
pub record IsShutBetween {D : Type 0} (meanwhile : ToldHouse D → ToldHouse D → Type 0) : Type 0 where
  pub left : ToldHouse D
  pub found : ToldHouse D
  pub reached : meanwhile left found
  pub was : IsOpenHouse left
  pub is : found.house.trail.closed ≡ true

-- its last call found the house open and failed: nothing was added then, and the journal reads to the book, or to it and what was to be noted
pub record IsShutNow {D : Type 0} (told : D → Option Store) (txn : ℕ) (now : ToldHouse D) : Type 0 where
  pub house : ToldHouse D
  pub kept : IsWholeOrClosed told house.house
  pub was : IsOpenHouse house
  pub is : IsShutHouse now
  pub same : trail_in now ≡ trail_in house
  pub cut : IsCutShort told txn (seen_in house) (seen_in now)

abbrev pub HaltsFor : {D : Type 0} → (D → Option Store) → (ToldHouse D → ToldHouse D → Type 0) → ℕ → ToldHouse D
    → HouseFault → Type 0
HaltsFor told meanwhile txn now fault.Store = IsShutBetween meanwhile ⊎ IsShutNow told txn now
HaltsFor told meanwhile txn now fault.NoMemory = IsOpenHouse now
HaltsFor told meanwhile txn now (fault.Failed count) = ⊥
