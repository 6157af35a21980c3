-- A told house, as those keep it who act on it.
use Rattle.std.specs.Prelude.{◌≡◌, ℕ, false, Option, List}
use Rattle.hv_shelf.specs.Disk.{Store}
use Rattle.hv_history.specs.declared.entry.Entry.{Entry}
use Rattle.hv_trail.specs.declared.trail.TrailItem.{TrailItem}
use Rattle.hv_trail.specs.Trail.{book_of}
use Rattle.hv_trail.specs.Kept.{trail_of}
use Rattle.hv_trail.specs.Steps.{HouseSeen}
use Rattle.hv_actor.specs.Acting.{Sight, sees}
use Rattle.hv_telling.specs.hv_house.specs.declared.house.House.{House}
use Rattle.hv_telling.specs.hv_house.specs.Steps.{seen_of}
use Rattle.hv_acts.specs.declared.told.ToldHouse.{ToldHouse}
use Rattle.hv_telling.specs.Telling.{IsToldHouse, IsWhole, StillOpens}

-- Between two acts a house is whole, or it is closed since its journal failed. Where it is told, what it leaves opens again.
pub record IsWholeOrClosed {D : Type 0} (told : D → Option Store) (house : House D) : Type 0 where
  pub whole : house.trail.closed ≡ false → IsWhole told house
  pub opens : IsToldHouse told house → StillOpens told house

-- a house as those see it who act on it, and its trail
abbrev pub seen_in : {D : Type 0} → ToldHouse D → HouseSeen D
seen_in told = seen_of told.house

abbrev pub trail_in : {D : Type 0} → ToldHouse D → List TrailItem
trail_in told = trail_of told.house.trail

abbrev pub book_in : {D : Type 0} → ToldHouse D → List Entry
book_in told = book_of (trail_in told)

-- how those see it who act on it, and what holds of it between two acts
abbrev pub told_sight : {D : Type 0} → (D → Option Store) → (D → ℕ) → Sight D (ToldHouse D)
told_sight {D = D} told faults = sees told faults seen_in (λ (h : ToldHouse D). IsWholeOrClosed told h.house)
