-- Where the commits of a book stand, and what each of them wrote.
use Rattle.std.specs.Prelude.{ℕ, ◌<◌, Bool, false, Option, Some, None, List, [], ◌∷◌, option_and_then}
use Rattle.std.specs.List.{slice_get, AllByRecursion}
use Rattle.hv_base.specs.declared.ids.Touch.{Touch}
use Rattle.hv_history.specs.declared.entry.Entry.{Entry}
use Rattle.hv_book.specs.declared.notes.End.{End}
use Rattle.hv_history.specs.declared.entry.Entry.TheVariants as entry
use Rattle.hv_history.specs.declared.state.Transaction.{Transaction}
use Rattle.hv_history.specs.declared.state.Ending.{Ending}
use Rattle.hv_history.specs.declared.state.Ending.TheVariants.{Committed}

abbrev pub touches_of_entry : Entry → Option (List Touch)
touches_of_entry (entry.Commit txn wrote) = Some wrote
touches_of_entry _ = None

-- what the Commit at that place says that it wrote
abbrev pub touches_at : List Entry → ℕ → Option (List Touch)
touches_at entries place = option_and_then touches_of_entry (slice_get entries place)

-- what the Commit at the place of this end wrote
abbrev pub touches_by : List Entry → Option End → Option (List Touch)
touches_by entries None = None
touches_by entries (Some end) = touches_at entries end.at

-- what a transaction that ended so wrote, where it committed
abbrev pub wrote_by : Option Ending → Option (List Touch)
wrote_by (Some (Committed place wrote)) = Some wrote
wrote_by _ = None

abbrev pub wrote_in : Option Transaction → Option (List Touch)
wrote_in None = None
wrote_in (Some transaction) = wrote_by transaction.ending

-- it ended by a commit whose place and touches pass this test
abbrev pub is_committed : (ℕ → List Touch → Bool) → Option Ending → Bool
is_committed passes (Some (Committed place wrote)) = passes place wrote
is_committed passes _ = false

abbrev pub commits_so : (ℕ → List Touch → Bool) → Transaction → Bool
commits_so passes transaction = is_committed passes transaction.ending

abbrev pub pass : (List Touch → Bool) → Option (List Touch) → Bool
pass passes None = false
pass passes (Some wrote) = passes wrote

-- the Commit at that place passes this test
abbrev pub passes_at : (ℕ → List Touch → Bool) → List Entry → ℕ → Bool
passes_at passes entries place = pass (passes place) (touches_at entries place)

-- each is below all behind it
abbrev pub IsRising : List ℕ → Type 0
IsRising [] = Unit {0}
IsRising (place ∷ places) = AllByRecursion (λ (other : ℕ). place < other) places × IsRising places
