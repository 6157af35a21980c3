-- Whose the items are that seats added: a share is one seat's own places.
use Rattle.std.specs.Prelude.{◌≡◌, ◌≢◌, ◌<◌, ◌≤◌, ℕ, Bool, true, Some, List, ◌∷◌, ◌++◌, length, slice_get}
use Rattle.std.specs.List.{AllByRecursion}
use Rattle.hv_trail.specs.declared.trail.TrailItem.{TrailItem}
use Rattle.hv_trail.specs.Own.{items_at}
use Rattle.hv_turn.specs.Counts.{total, times, within}

-- Each place of the trail from this one on stands once in one of the shares, and no other place stands in any.
pub record IsShared (from : ℕ) (trail : List TrailItem) (shares : List (List ℕ)) : Type 0 where
  pub once : (place : ℕ) → total (times place) shares ≡ within from (length trail) place

-- a place that stands in a share
abbrev pub IsPlaceOf : List ℕ → ℕ → Type 0
IsPlaceOf share place = 1 ≤ times place share

-- the places of two seats that were joined are those of each
abbrev pub SharesDivide : Type 0
SharesDivide =
    (from : ℕ) (trail : List TrailItem) (one other : List ℕ) (shares : List (List ℕ))
    → IsShared from trail ((one ++ other) ∷ shares) → IsShared from trail (one ∷ other ∷ shares)

-- no place is of two shares
abbrev pub SharesAreApart : Type 0
SharesAreApart =
    (from : ℕ) (trail : List TrailItem) (shares : List (List ℕ)) → IsShared from trail shares
    → (i j : ℕ) (one other : List ℕ) → i ≢ j → slice_get shares i ≡ Some one → slice_get shares j ≡ Some other
    → (place : ℕ) → IsPlaceOf one place → IsPlaceOf other place → ⊥

-- and each lies in the trail, from where the shares begin
abbrev pub SharesLieWithin : Type 0
SharesLieWithin =
    (from : ℕ) (trail : List TrailItem) (shares : List (List ℕ)) → IsShared from trail shares
    → (i : ℕ) (share : List ℕ) → slice_get shares i ≡ Some share
    → (place : ℕ) → IsPlaceOf share place → (from ≤ place) × (place < length trail)

-- each of these items passes the test
abbrev pub AllTested : (TrailItem → Bool) → List TrailItem → Type 0
AllTested test items = AllByRecursion (λ (item : TrailItem). test item ≡ true) items

-- what is true of the items of each share is true of every item from there on
abbrev pub ItemsAreOfShares : Type 0
ItemsAreOfShares =
    (from : ℕ) (trail : List TrailItem) (shares : List (List ℕ)) (test : TrailItem → Bool) → IsShared from trail shares
    → AllByRecursion (λ (share : List ℕ). AllTested test (items_at share trail)) shares
    → (place : ℕ) (item : TrailItem) → from ≤ place → slice_get trail place ≡ Some item → test item ≡ true
