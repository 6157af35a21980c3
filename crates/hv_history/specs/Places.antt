-- How the one of a number is found: where it stands, a change of it is a change at that place.
use Rattle.std.specs.Prelude.{◌≡◌, ℕ, ◌<◌, Option, Some, None, List, length, slice_set, slice_index_or}
use Rattle.hv_history.specs.declared.state.Transaction.{Transaction}
use Rattle.hv_history.specs.State.{changed, while_open}

-- where the one of that number stands: a change of it is a change there, and without a place there is nothing to change
abbrev pub IsPlaceOf : {A : Type 0} → List A → ℕ → Option ℕ → Type 0
IsPlaceOf {A = A} xs number None = (f : A → A) → changed f xs number ≡ xs
IsPlaceOf {A = A} xs number (Some at) =
    (at < length xs) × ((f : A → A) (other : A) → changed f xs number ≡ slice_set xs at (f (slice_index_or xs at other)))

-- the same of a transaction that has not ended
abbrev pub IsOpenPlaceOf : List Transaction → ℕ → Option ℕ → Type 0
IsOpenPlaceOf xs number None = (f : Transaction → Transaction) → changed (while_open f) xs number ≡ xs
IsOpenPlaceOf xs number (Some at) =
    (at < length xs)
    × ((f : Transaction → Transaction) (other : Transaction) → changed (while_open f) xs number ≡ slice_set xs at (f (slice_index_or xs at other)))
