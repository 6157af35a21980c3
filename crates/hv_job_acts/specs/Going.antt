-- What is known of a house that acts for a compaction or of a cleaner go on with, whatever others do between.
-- Source: this project's profile.
use Rattle.std.specs.Prelude.{◌≡◌, ◌⊎◌, ℕ, Option, List, []}
use Rattle.hv_shelf.specs.Disk.{Store}
use Rattle.hv_history.specs.Lasting.{IsFront}
use Rattle.hv_trail.specs.declared.trail.TrailItem.{TrailItem}
use Rattle.hv_trail.specs.Steps.{Call, Outcome, gains, Step}
use Rattle.hv_actor.specs.Acting.{IsLater, Went, Moment, Setting}
use Rattle.hv_acts.specs.declared.told.ToldHouse.{ToldHouse}
use Rattle.hv_acts.specs.Told.{IsWholeOrClosed, seen_in, trail_in}
use Rattle.hv_acts.specs.Going.{IsOpenHouse, IsShutHouse, IsShutBetween}

-- one's own acts added just these items, in this order, with others' between; and the house goes on
pub record AddsItems {D : Type 0} (faults : D → ℕ) (between : List TrailItem → Type 0)
    (before now : Moment (ToldHouse D))
    (items : List TrailItem) : Type 0 where
  pub went : Went between items before.own now.own (trail_in before.house) (trail_in now.house)
  pub later : IsLater faults (seen_in before.house) (seen_in now.house)

-- The last call found the house open and closed it, and not for want of memory: nothing was added, and its store is as
-- the law of steps says, for a call of such a kind.
pub record IsCutNow {D : Type 0} (told : D → Option Store) (faults : D → ℕ) (Of : Call → Type 0)
    (now : ToldHouse D) : Type 0 where
  pub house : ToldHouse D
  pub kept : IsWholeOrClosed told house.house
  pub was : IsOpenHouse house
  pub is : IsShutHouse now
  pub call : Call
  pub of_it : Of call
  pub outcome : Outcome
  pub step : Step told faults call outcome (seen_in house) (seen_in now)
  pub nothing : gains call outcome ≡ []

-- others closed it between two acts, or the last call did
abbrev pub IsShutFor : {D : Type 0} → Setting D (ToldHouse D) → (Call → Type 0) → ToldHouse D → Type 0
IsShutFor setting Of now = IsShutBetween setting.meanwhile ⊎ IsCutNow setting.told setting.faults Of now

-- this was so at some trail between
pub record WasAt {D : Type 0} (before now : ToldHouse D) (Is : List TrailItem → Type 0) : Type 0 where
  pub then_ : List TrailItem
  pub later : IsFront (trail_in before) then_
  pub front : IsFront then_ (trail_in now)
  pub was : Is then_
