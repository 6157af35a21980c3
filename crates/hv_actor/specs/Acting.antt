-- What an actor knows of a house that it finds again, and what its own steps left.
-- Source: this project's profile.
use Rattle.std.specs.Prelude.{◌≡◌, ◌≤◌, true, false, ℕ, zero, suc, ◌+◌, ◌-◌, Option, List, [], ◌∷◌, ◌++◌, length, map}
use Rattle.hv_base.specs.Faults.{Rose}
use Rattle.hv_shelf.specs.Disk.{Store}
use Rattle.hv_trail.specs.declared.trail.TrailItem.{TrailItem}
use Rattle.hv_trail.specs.Lasting.{GoesOn}
use Rattle.hv_trail.specs.Steps.{HouseSeen, Call, Outcome, KeepsRest, Step}

-- A house goes on: items stand behind those that stood, what no call changes is as it was, the store's count of faults doesn't fall, one that
-- was closed stays so, and one that was open is closed only where that count rose, or memory lacked in a publication.
pub record IsLater {D : Type 0} (faults : D → ℕ) (before now : HouseSeen D) : Type 0 where
  pub added : List TrailItem
  pub trail : now.trail ≡ before.trail ++ added
  pub rest : KeepsRest before now
  pub count : faults before.shelf ≤ faults now.shelf
  pub closed : before.closed ≡ true → now.closed ≡ true
  pub starved : before.starved ≡ true → now.starved ≡ true
  pub rises : before.closed ≡ false → now.closed ≡ true → now.starved ≡ false
      → Rose (faults before.shelf) (faults now.shelf)

-- these items, at places from this one on
abbrev pub placed_from : ℕ → List TrailItem → List (ℕ × TrailItem)
placed_from at [] = []
placed_from at (item ∷ items) = (at, item) ∷ placed_from (at + 1) items

abbrev pub places_of : List (ℕ × TrailItem) → List ℕ
places_of own = map (λ (mine : ℕ × TrailItem). mine.0) own

abbrev pub items_of : List (ℕ × TrailItem) → List TrailItem
items_of own = map (λ (mine : ℕ × TrailItem). mine.1) own

-- so many numbers, from this one on
abbrev pub numbers_from : ℕ → ℕ → List ℕ
numbers_from at zero = []
numbers_from at (suc count) = at ∷ numbers_from (at + 1) count

-- One's own items in their order, each at its place, with others' before, between and behind. What was added stands from `at` on.
abbrev pub Woven : (List TrailItem → Type 0) → ℕ → List (ℕ × TrailItem) → List TrailItem → Type 0
Woven between at [] added = between added
Woven between at (mine ∷ own) added =
    (others : List TrailItem) × (rest : List TrailItem)
    × (added ≡ others ++ mine.1 ∷ rest) × (mine.0 ≡ at + length others) × between others
    × Woven between (mine.0 + 1) own rest

-- One's own steps added these items, in their order, and gained their places; all that was seen before goes on. This one word
-- stands for the rest.
pub record Went (between : List TrailItem → Type 0) (gained : List TrailItem) (own own' : List ℕ)
    (before now : List TrailItem) : Type 0 where
  pub placed : List (ℕ × TrailItem)
  pub items : items_of placed ≡ gained
  pub places : own' ≡ own ++ places_of placed
  pub added : List TrailItem
  pub seen : now ≡ before ++ added
  pub woven : Woven between (length before) placed added
  pub goes_on : GoesOn before now

-- How a house is seen by those who act on it: what its store tells, that store's count of faults, its record, and what holds of it between two
-- calls.
pub record Sight (D H : Type 0) : Type 1 where
  pub told : D → Option Store
  pub faults : D → ℕ
  pub seen : H → HouseSeen D
  pub keeps : H → Type 0

abbrev pub sees : {D H : Type 0} → (D → Option Store) → (D → ℕ) → (H → HouseSeen D) → (H → Type 0) → Sight D H
sees told faults seen keeps = record { told = told; faults = faults; seen = seen; keeps = keeps }

-- One step, on a house that was left as `before` and to which others had done what they may meanwhile.
pub record Held {D H : Type 0} (sight : Sight D H) (meanwhile : H → H → Type 0) (before now : H)
    (call : HouseSeen D → Call) (outcome : Outcome)
    (does : HouseSeen D → HouseSeen D → Type 0) : Type 0 where
  pub house : H
  pub reached : meanwhile before house
  pub kept : sight.keeps house
  pub step : Step sight.told sight.faults (call (sight.seen house)) outcome (sight.seen house) (sight.seen now)
  pub does_it : does (sight.seen house) (sight.seen now)

-- ---- what stands while one acts, and what one knows

-- What stands whatever is done: what the store tells, its count of faults, and what others may add to the trail and do to the house between
-- two of one's steps.
pub record Setting (D H : Type 0) : Type 1 where
  pub told : D → Option Store
  pub faults : D → ℕ
  pub between : List TrailItem → Type 0
  pub meanwhile : H → H → Type 0

abbrev pub among : {D H : Type 0} → (D → Option Store) → (D → ℕ) → (List TrailItem → Type 0) → (H → H → Type 0)
    → Setting D H
among told faults between meanwhile = record { told = told; faults = faults; between = between; meanwhile = meanwhile }

-- What one knows between two steps: the places of the trail that are one's own, and the house as it was last seen.
pub record Moment (H : Type 0) : Type 0 where
  pub own : List ℕ
  pub house : H

abbrev pub known : {H : Type 0} → List ℕ → H → Moment H
known own house = record { own = own; house = house }

-- ---- what others may do

-- nothing is a row of others' items, and two rows are one
pub record AreRows (between : List TrailItem → Type 0) : Type 0 where
  pub none : between []
  pub more : (xs ys : List TrailItem) → between xs → between ys → between (xs ++ ys)

-- others add nothing
abbrev pub Nothing : List TrailItem → Type 0
Nothing others = others ≡ []

-- others add anything
abbrev pub Anything : List TrailItem → Type 0
Anything others = Unit {0}

-- the places of one who acts alone: all behind those that the opening left
abbrev pub own_alone : {D : Type 0} → HouseSeen D → List ℕ
own_alone house = numbers_from house.opened (length house.trail - house.opened)

-- Others do nothing to the house, or anything by which it goes on.
abbrev pub Untouched : {H : Type 0} → H → H → Type 0
Untouched before now = now ≡ before

abbrev pub Touched : {D H : Type 0} → (D → ℕ) → (H → HouseSeen D) → H → H → Type 0
Touched faults seen before now = IsLater faults (seen before) (seen now)

-- where others do nothing, the house is found as it was left
abbrev pub IsAlone : {H : Type 0} → (H → H → Type 0) → Type 0
IsAlone {H = H} meanwhile = (before now : H) → meanwhile before now → now ≡ before

-- the places of one among others: those that it keeps, and from `since` on all of them
abbrev pub own_among : List ℕ → ℕ → List TrailItem → List ℕ
own_among early since trail = early ++ numbers_from since (length trail - since)
