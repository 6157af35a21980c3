-- A trail as a house keeps it: the book and the marks apart.
use Rattle.std.specs.Prelude.{if◌then◌else◌, ◌≡◌, ℕ, Bool, true, false, ◌&&◌, ◌+◌, ◌≤◌, ◌==◌, nat_eq, Option, Some, None, List, [], ◌∷◌, length}
use Rattle.std.specs.Cmp.Lexicographic.{pointwise}
use Rattle.hv_shelf.specs.declared.place.Place.{Place}
use Rattle.hv_shelf.specs.declared.place.DirAt.{DirAt}
use Rattle.hv_shelf.specs.Places.{place_eq}
use Rattle.hv_book.specs.hv_history.specs.declared.entry.Entry.{Entry}
use Rattle.hv_book.specs.hv_history.specs.State.{first_known}
use Rattle.hv_trail.specs.declared.trail.Reader.{Reader}
use Rattle.hv_trail.specs.declared.trail.Mark.{Mark}
use Rattle.hv_trail.specs.declared.trail.Mark.TheVariants.{Wrote, Went, Broke}
use Rattle.hv_trail.specs.declared.trail.TrailItem.{TrailItem}
use Rattle.hv_trail.specs.Trail.{is_reader, woven_from}

-- The entries, and how many more fit without asking for memory; the marks, each with the number of entries before it, and how
-- many more of them fit; how many items the opening left; whether nothing more is done, since the journal failed or memory lacked in a
-- publication; and whether it was memory.
pub record TrailKept : Type 0 where
  pub entries : List Entry
  pub spare : ℕ
  pub marks : List (ℕ × Mark)
  pub room : ℕ
  pub opened : ℕ
  pub closed : Bool
  pub starved : Bool

abbrev pub trail_of : TrailKept → List TrailItem
trail_of kept = woven_from 0 kept.entries kept.marks

-- these marks stand in their order, from that many entries on, in a book of so many
abbrev pub StandIn : ℕ → ℕ → List (ℕ × Mark) → Type 0
StandIn before count [] = before ≤ count
StandIn before count (mark ∷ marks) = (before ≤ mark.0) × StandIn mark.0 count marks

-- the marks stand between the entries of the book, and what the opening left is there
pub record IsWhole (book : List Entry) (marks : List (ℕ × Mark)) (opened : ℕ) : Type 0 where
  pub stand : StandIn 0 (length book) marks
  pub within : opened ≤ length book + length marks

-- ---- what is asked of the marks

-- whether a mark is of a call that failed, and what it says of one that failed for this reader
abbrev pub is_fault : Mark → Bool
is_fault (Broke by put count) = true
is_fault mark = false

abbrev pub fault_of : Reader → Mark → Option (Bool × ℕ)
fault_of reader (Broke by put count) = if is_reader reader by then Some (put, count) else None
fault_of reader mark = None

-- the first call that failed for this reader
abbrev pub broken_in : Reader → List (ℕ × Mark) → Option (Bool × ℕ)
broken_in reader [] = None
broken_in reader (mark ∷ marks) = first_known (fault_of reader mark.1) (broken_in reader marks)

-- where no call failed, none failed for any reader
abbrev pub IsQuiet : Bool → List (ℕ × Mark) → Type 0
IsQuiet quiet marks = quiet ≡ true → (reader : Reader) → broken_in reader marks ≡ None

-- whether a mark says that this reader put a file at this place
abbrev pub wrote_at : Reader → Place → Mark → Bool
wrote_at reader place (Wrote by at) = is_reader reader (Some by) && place_eq at place
wrote_at reader place mark = false

abbrev pub is_written : Reader → Place → Option (ℕ × Mark) → Bool
is_written reader place None = false
is_written reader place (Some mark) = wrote_at reader place mark.1

-- whether a mark says that the files of this directory were taken away
abbrev pub dir_eq : DirAt → DirAt → Bool
dir_eq x y = (x.table.0 == y.table.0) && (pointwise nat_eq x.partition y.partition && pointwise nat_eq x.dir y.dir)

abbrev pub went_at : DirAt → Mark → Bool
went_at dir (Went at) = dir_eq at dir
went_at dir mark = false

abbrev pub is_gone_by : DirAt → ℕ × Mark → Bool
is_gone_by dir mark = went_at dir mark.1
