-- A house as those keep it who act on it.
use Rattle.std.specs.Prelude.{◌≡◌, ℕ, ◌≤◌, true, false, Option}
use Rattle.hv_base.specs.Faults.{Rose}
use Rattle.hv_shelf.specs.Disk.{Store}
use Rattle.hv_trail.specs.Steps.{HouseSeen}
use Rattle.hv_house.specs.declared.house.House.{House}
use Rattle.hv_house.specs.House.{IsReady}

-- Between two calls a house is ready, or it is closed since its journal failed.
abbrev pub IsReadyOrClosed : {D : Type 0} → (D → Option Store) → House D → Type 0
IsReadyOrClosed told house = house.trail.closed ≡ false → IsReady told house

-- The store's hard count doesn't fall while the house is open, and where the house is closed, and not for want of memory, it rose since the
-- opening: a call on the journal or a renaming failed, or a call on files at the last count of faults.
pub record ShutsHard {D : Type 0} (hard : D → ℕ) (house : HouseSeen D) : Type 0 where
  pub later : hard house.start ≤ hard house.shelf
  pub rose : house.closed ≡ true → house.starved ≡ false → Rose (hard house.start) (hard house.shelf)
