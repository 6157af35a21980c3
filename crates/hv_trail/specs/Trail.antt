-- The trail of a house: the entries of its book in order, and between them marks, which no journal keeps.
-- Source: this project's profile.
use Rattle.std.specs.Prelude.{ℕ, ◌+◌, ◌-◌, ◌==◌, Bool, false, if◌then◌else◌, Option, Some, None, List, [], ◌∷◌, ◌++◌, map, take, drop, Contains}
use Rattle.hv_shelf.specs.declared.place.Place.{Place}
use Rattle.hv_shelf.specs.declared.place.DirAt.{DirAt}
use Rattle.hv_book.specs.hv_history.specs.declared.entry.Entry.{Entry}
use Rattle.hv_book.specs.hv_history.specs.State.{State, state_of}
use Rattle.hv_trail.specs.declared.trail.Reader.{Reader}
use Rattle.hv_trail.specs.declared.trail.Reader.TheVariants.{Txn, Job}
use Rattle.hv_trail.specs.declared.trail.Mark.{Mark}
use Rattle.hv_trail.specs.declared.trail.Mark.TheVariants.{Wrote, Went, Broke}
use Rattle.hv_trail.specs.declared.trail.TrailItem.{TrailItem}
use Rattle.hv_trail.specs.declared.trail.TrailItem.TheVariants.{Noted, Marked}

-- ---- the book, and what it means

abbrev pub book_of : List TrailItem → List Entry
book_of [] = []
book_of (Noted entry ∷ items) = entry ∷ book_of items
book_of (Marked mark ∷ items) = book_of items

abbrev pub state_at : List TrailItem → State
state_at trail = state_of (book_of trail)

-- ---- the marks, each behind the number of entries before it

abbrev pub marks_from : ℕ → List TrailItem → List (ℕ × Mark)
marks_from before [] = []
marks_from before (Noted entry ∷ items) = marks_from (before + 1) items
marks_from before (Marked mark ∷ items) = (before, mark) ∷ marks_from before items

abbrev pub marks_of : List TrailItem → List (ℕ × Mark)
marks_of trail = marks_from 0 trail

-- a book from its entry number `before` on, and marks, as one trail again
abbrev pub woven_from : ℕ → List Entry → List (ℕ × Mark) → List TrailItem
woven_from before book [] = map Noted book
woven_from before book (mark ∷ marks) =
    map Noted (take (mark.0 - before) book) ++ Marked mark.1 ∷ woven_from mark.0 (drop (mark.0 - before) book) marks

-- ---- what is asked of marks

-- a file was put at this place
abbrev pub HasWritten : List TrailItem → Reader → Place → Type 0
HasWritten trail by place = Contains trail (Marked (Wrote by place))

-- the files of this directory were taken away
abbrev pub HasGone : List TrailItem → DirAt → Type 0
HasGone trail dir = Contains trail (Marked (Went dir))

abbrev pub is_reader : Reader → Option Reader → Bool
is_reader reader None = false
is_reader (Txn txn) (Some (Txn other)) = txn.0 == other.0
is_reader (Job job) (Some (Job other)) = job.0 == other.0
is_reader reader (Some other) = false

-- The first call that failed for this reader: whether it was to put a file, and the count behind it. None where none failed.
abbrev pub broken : Reader → List TrailItem → Option (Bool × ℕ)
broken reader [] = None
broken reader (Marked (Broke by put count) ∷ items) = if is_reader reader by then Some (put, count) else broken reader items
broken reader (_ ∷ items) = broken reader items
