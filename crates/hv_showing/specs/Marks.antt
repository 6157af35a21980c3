-- Which transactions of a book have a write id that counts, a mark for each: made by one walk over the entries.
use Rattle.std.specs.Prelude.{ℕ, ◌==◌, ◌&&◌, ◌||◌, Bool, false, not, Option, Some, None, List, [], ◌∷◌, ◌++◌}
use Rattle.hv_history.specs.declared.entry.Entry.{Entry}
use Rattle.hv_history.specs.declared.entry.Entry.TheVariants as entry
use Rattle.hv_history.specs.State.{changed}
use Rattle.hv_book.specs.declared.past.ForgotNote.{ForgotNote}
use Rattle.hv_book.specs.Past.{forgot_then}

-- a mark stays where it was set, and is set where the id counts
unfoldable pub or_mark : Bool → Bool → Bool
or_mark kept mark = mark || kept

-- an Opened has a mark that isn't set, and a Given sets that of its transaction where its write id counts
abbrev pub marked_by : (ℕ × ℕ → Bool) → Entry → List Bool → List Bool
marked_by counts (entry.Opened txn session number text) marks = marks ++ false ∷ []
marked_by counts (entry.Given txn table write) marks = changed (or_mark (counts (table.0, write.0))) marks txn.0
marked_by counts _ marks = marks

abbrev pub marked_over : (ℕ × ℕ → Bool) → List Entry → List Bool → List Bool
marked_over counts [] marks = marks
marked_over counts (event ∷ entries) marks = marked_over counts entries (marked_by counts event marks)

abbrev pub is_marked : Option Bool → Bool
is_marked None = false
is_marked (Some mark) = mark

-- ---- a write id of a table that was live, where the id isn't forgotten

abbrev pub keeps : Option Bool → Bool → Bool
keeps None forgotten = false
keeps (Some live) forgotten = live && not forgotten

abbrev pub is_forgot : ℕ → ℕ → ℕ → ForgotNote → Bool
is_forgot position table write note = forgot_then position table note && (note.write == write)
