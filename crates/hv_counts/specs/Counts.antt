-- How many rows the commits of a table say that they inserted and deleted, by write id and partition, and whether the files that were
-- read of it have so many records.
use Rattle.std.specs.Prelude.{◌≡◌, ℕ, ◌+◌, ◌==◌, ◌&&◌, nat_eq, Bool, true, false, Option, Some, None, List, [], ◌∷◌, ◌++◌, length, filter}
use Rattle.std.specs.List.{flat_map, AllByRecursion}
use Rattle.std.specs.Cmp.Lexicographic.{pointwise}
use Rattle.hv_base.specs.declared.ids.Touch.{Touch}
use Rattle.hv_history.specs.declared.state.Transaction.{Transaction}
use Rattle.hv_history.specs.State.{State, numbered}
use Rattle.hv_book.specs.Commits.{wrote_in}
use Rattle.hv_book.specs.Past.{owners_in, total, only_if}
use Rattle.hv_choosing.specs.declared.dir.Dir.{Dir}
use Rattle.hv_choosing.specs.declared.dir.Dir.TheVariants.{Base, Own, Wide}
use Rattle.hv_choosing.specs.declared.listing.DirFile.{DirFile}
use Rattle.hv_choosing.specs.Laws.{IsOwnFile}
use Rattle.hv_table_rows.specs.Reading.{Sheet}
use Rattle.hv_counts.specs.declared.due.Due.{Due}

-- ---- what commits say

abbrev pub due_by : ℕ → Touch → Due
due_by write touch = record { write = write; partition = touch.partition; inserted = touch.inserted; deleted = touch.deleted }

abbrev pub due_if : Bool → Due → List Due
due_if true due = due ∷ []
due_if false due = []

-- what a touch says of a table under a write id
abbrev pub due_of : ℕ → ℕ → Touch → List Due
due_of table write touch = due_if (touch.table.0 == table) (due_by write touch)

-- what a transaction wrote in a table under a write id, where it has committed with these touches
abbrev pub dues_of : ℕ → ℕ → Option (List Touch) → List Due
dues_of table write None = []
dues_of table write (Some wrote) = flat_map (due_of table write) wrote

-- of the write ids of a table from this one on, each given to the transaction of that number
abbrev pub dues_from : List Transaction → ℕ → ℕ → List ℕ → List Due
dues_from transactions table write [] = []
dues_from transactions table write (txn ∷ owners) =
    dues_of table write (wrote_in (numbered transactions txn)) ++ dues_from transactions table (write + 1) owners

-- What the commits of a table say: of each of its write ids whose transaction has committed, one for each touch of that table.
abbrev pub dues_in : State → ℕ → List Due
dues_in state table = dues_from state.transactions table 1 (owners_in (numbered state.tables table))

-- the inserted rows, or the deleted ones
abbrev pub due_rows : Bool → Due → ℕ
due_rows false due = due.inserted
due_rows true due = due.deleted

abbrev pub is_due : ℕ → List ℕ → Due → Bool
is_due write partition due = (due.write == write) && pointwise nat_eq due.partition partition

abbrev pub due_at : Bool → ℕ → List ℕ → Due → ℕ
due_at deletes write partition due = only_if (is_due write partition due) (due_rows deletes due)

-- how many rows they say of a write id in a partition
abbrev pub due_sum : Bool → ℕ → List ℕ → List Due → ℕ
due_sum deletes write partition dues = total (due_at deletes write partition) dues

-- those of partitions that are wanted
abbrev pub is_due_wanted : (List ℕ → Bool) → Due → Bool
is_due_wanted wants due = wants due.partition

abbrev pub dues_wanted : (List ℕ → Bool) → List Due → List Due
dues_wanted wants dues = filter (is_due_wanted wants) dues

-- ---- what files have

-- an own directory of this write id, of either kind
abbrev pub is_own_of : ℕ → Dir → Bool
is_own_of write (Base high) = false
is_own_of write (Own deletes id statement) = id.0 == write
is_own_of write (Wide deletes low high) = false

abbrev pub is_stored : ℕ → List ℕ → DirFile → Bool
is_stored write partition file = is_own_of write file.dir && pointwise nat_eq file.place.partition partition

abbrev pub stored_at : ℕ → List ℕ → Sheet → ℕ
stored_at write partition sheet = only_if (is_stored write partition sheet.file) (length sheet.recs)

-- how many records stand in a partition, in own directories of a write id
abbrev pub stored_sum : ℕ → List ℕ → List Sheet → ℕ
stored_sum write partition sheets = total (stored_at write partition) sheets

abbrev pub sheets_wanted : (List ℕ → Bool) → List Sheet → List Sheet
sheets_wanted wants sheets = filter (λ (sheet : Sheet). wants sheet.file.place.partition) sheets

-- ---- whether both are the same

-- The files of a kind that were read have as many records of each write id in each partition as the commits say.
abbrev pub IsCounted : Bool → List Due → List Sheet → Type 0
IsCounted deletes dues sheets = (write : ℕ) (partition : List ℕ) → stored_sum write partition sheets ≡ due_sum deletes write partition dues

-- It is asked only where each file stands in an own directory: a base or a wide delta doesn't keep the rows that were deleted since.
abbrev pub AreOwn : List DirFile → Type 0
AreOwn files = AllByRecursion IsOwnFile files

-- Files that have as many records as the commits say have so in the partitions that are wanted.
abbrev pub WantedAreCounted : Type 0
WantedAreCounted =
    (wants : List ℕ → Bool) (deletes : Bool) (dues : List Due) (sheets : List Sheet) → IsCounted deletes dues sheets
    → IsCounted deletes (dues_wanted wants dues) (sheets_wanted wants sheets)
