-- How many items of a share pass a test, and where such items stand.
use Rattle.std.specs.Prelude.{◌≡◌, ◌≤◌, ℕ, Bool, true, if◌then◌else◌, Some, List, [], ◌∷◌, ◌++◌, slice_get}
use Rattle.hv_trail.specs.declared.trail.TrailItem.{TrailItem}
use Rattle.hv_trail.specs.Own.{items_at}
use Rattle.hv_turn.specs.Counts.{total}
use Rattle.hv_seated.specs.Shares.{IsShared}

abbrev pub one_if : Bool → ℕ
one_if b = if b then 1 else 0

-- so many of these items pass the test
abbrev pub passing : (TrailItem → Bool) → List TrailItem → ℕ
passing test items = total (λ (item : TrailItem). one_if (test item)) items

-- places of seats that were joined
abbrev pub ItemsGoTogether : Type 0
ItemsGoTogether =
    (trail : List TrailItem) (one other : List ℕ) → items_at (one ++ other) trail ≡ items_at one trail ++ items_at other trail

-- at most one item of the only share passes the test: so it stands at one place
abbrev pub ItemsStandOnce : Type 0
ItemsStandOnce =
    (from : ℕ) (trail : List TrailItem) (share : List ℕ) (test : TrailItem → Bool) → IsShared from trail (share ∷ [])
    → passing test (items_at share trail) ≤ 1
    → (place there : ℕ) (item other : TrailItem) → from ≤ place → from ≤ there
    → slice_get trail place ≡ Some item → slice_get trail there ≡ Some other
    → test item ≡ true → test other ≡ true → place ≡ there
