-- What is proved of a house that is told: reading keeps it, and a house just opened is so.
use Rattle.std.specs.Prelude.{◌≡◌, ℕ, Option, Some, IsSomeAnd, List}
use Rattle.hv_shelf.specs.Disk.{Store}
use Rattle.hv_history.specs.declared.entry.Entry.{Entry}
use Rattle.hv_history.specs.Legal.{profile}
use Rattle.hv_trail.specs.declared.trail.Reader.{Reader}
use Rattle.hv_trail.specs.Steps.{Read, Outcome, Step}
use Rattle.hv_house.specs.declared.house.House.{House}
use Rattle.hv_house.specs.House.{entries_of, IsReady, IsFaithful}
use Rattle.hv_house.specs.Booting.{IsLeftWithin, OpensTo, OpensWhole, Opens}
use Rattle.hv_house.specs.Steps.{seen_of, IsOpenedOver}
use Rattle.hv_telling.specs.Telling.{IsToldHouse, HoldsTrue, IsWhole, OpensLater, StillOpens}

-- ---- what a house is that is true

abbrev pub TrueShown : Type 0 → Type 0
TrueShown D = (told : D → Option Store) (house : House D) → HoldsTrue told house
    → IsSomeAnd (told house.shelf) (IsFaithful (entries_of house))

-- one that is whole and told, between two calls, opens again as it is
abbrev pub WholeOpens : Type 0 → Type 0
WholeOpens D = (told : D → Option Store) (house : House D) → IsWhole told house → IsToldHouse told house
    → StillOpens told house

abbrev pub OpensTold : Type 0 → Type 0
OpensTold D = (told : D → Option Store) (now : House D) → StillOpens told now
    → IsSomeAnd (told now.shelf) (OpensLater (entries_of now))

-- whoever opened over the same store is told where the other is
abbrev pub ToldStays : Type 0 → Type 0
ToldStays D = (told : D → Option Store) (before now : House D) → now.start ≡ before.start → IsToldHouse told before
    → IsToldHouse told now

-- ---- reading

-- a call that only read leaves the house whole, where it leaves it ready
abbrev pub ReadsKeepWhole : Type 0 → Type 0
ReadsKeepWhole D =
    (told : D → Option Store) (faults : D → ℕ) (by : Option Reader) (outcome : Outcome) (before now : House D)
    → IsWhole told before → Step told faults (Read by) outcome (seen_of before) (seen_of now) → IsReady told now
    → IsWhole told now

-- and whatever it leaves opens again
abbrev pub ReadsStillOpen : Type 0 → Type 0
ReadsStillOpen D =
    (told : D → Option Store) (faults : D → ℕ) (by : Option Reader) (outcome : Outcome) (before now : House D)
    → IsWhole told before → Step told faults (Read by) outcome (seen_of before) (seen_of now) → IsToldHouse told before
    → StillOpens told now

-- ---- opening

-- what stands can be opened
abbrev pub FaithfulIsLeft : Type 0
FaithfulIsLeft = (book : List Entry) (store : Store) → IsFaithful book store → IsLeftWithin profile book store

-- a house that was just opened is whole
abbrev pub OpenedIsWhole : Type 0 → Type 0
OpenedIsWhole D =
    (told : D → Option Store) (shelf : D) (house : House D)
    → IsReady told house → Opens profile (told shelf) (entries_of house) → IsOpenedOver shelf house
    → OpensWhole profile (entries_of house) (told shelf) (told house.shelf) → IsWhole told house

-- and is told, where it was opened over a store that tells of a book, whose files are what a run leaves
abbrev pub OpenedIsTold : Type 0 → Type 0
OpenedIsTold D =
    (told : D → Option Store) (shelf : D) (house : House D) (store : Store) (book : List Entry)
    → IsOpenedOver shelf house → told shelf ≡ Some store → OpensTo book store → IsToldHouse told house
