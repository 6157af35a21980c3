-- Tables of names: when rows differ, and where a word stands among them.
use Rattle.std.specs.Prelude.{◌≡◌, ℕ, ◌↔◌, Bool, true, List, [], ◌∷◌, ◌&&◌, not, Option, Some, slice_get}
use Rattle.std.specs.List.{list_any}
use Rattle.std.specs.Str.{bytes_eq}

-- each row differs from every row behind it
abbrev pub rows_differ : List (List ℕ) → Bool
rows_differ [] = true
rows_differ (row ∷ rows) = not (list_any (bytes_eq row) rows) && rows_differ rows

-- the answer is a place exactly where the row at that place is the word
abbrev pub IsPlaceOf : List ℕ → List (List ℕ) → Option ℕ → Type 0
IsPlaceOf word rows answer =
    (place : ℕ) → (answer ≡ Some place) ↔ (slice_get rows place ≡ Some word)
