-- What an open transaction reads of a table under the list of write ids that the table had at its snapshot: what it takes it needs, each file
-- of it stands, and its rows are those that stood in the table then.
-- Source: Hive Transactions, snapshots over base and delta directories.
use Rattle.std.specs.Prelude.{◌≡◌, ℕ, ◌<◌, Bool, true, IsTrue, Some, List, length, take}
use Rattle.hv_shelf.specs.Disk.{Tree, places_of}
use Rattle.hv_logic.specs.declared.effect.Found.{Found}
use Rattle.hv_rowfile.specs.declared.record.Rec.{Rec}
use Rattle.hv_dirs.specs.Names.{write_end}
use Rattle.hv_history.specs.hv_meaning.specs.Needs.{rows_wanted}
use Rattle.hv_history.specs.declared.entry.Entry.{Entry}
use Rattle.hv_history.specs.declared.state.Snapshot.{Snapshot}
use Rattle.hv_history.specs.declared.state.Table.{Table}
use Rattle.hv_history.specs.declared.state.Transaction.{Transaction}
use Rattle.hv_history.specs.State.{numbered, state_of, content_of}
use Rattle.hv_history.specs.Legal.{is_open}
use Rattle.hv_history.specs.Jobs.{is_live_one}
use Rattle.hv_earlier.specs.Lists.{list_at}
use Rattle.hv_stands.specs.Statements.{AllFitting}
use Rattle.hv_choosing.specs.declared.listing.DirFile.{DirFile}
use Rattle.hv_choosing.specs.Listing.{AreListed}
use Rattle.hv_choosing.specs.Taken.{files_taken}
use Rattle.hv_law_whole.specs.hv_law_directories.specs.hv_table_rows.specs.Reading.{AreRows, IsSpoiled}
use Rattle.hv_law_visible.specs.Members.{IsIn}
use Rattle.hv_law_whole.specs.hv_law_made.specs.Standing.{Standing}
use Rattle.hv_law_read.specs.Needs.{IsNeededBy}

-- The files that stand are those of a book. This transaction of it is open, and its snapshot was taken at this place; and a table that is live
-- stood there so.
pub record ReadsAt (book : List Entry) (txn place : ℕ) (table : Table) (files : Tree) : Type 0 where
  pub fit : AllFitting book
  pub few : length book < write_end
  pub stands : Standing (state_of book) files
  pub transaction : Transaction
  pub here : numbered (state_of book).transactions txn ≡ Some transaction
  pub unended : IsTrue (is_open transaction)
  pub snapshot : Snapshot
  pub taken : transaction.snapshot ≡ Some snapshot
  pub place_is : snapshot.place ≡ place
  pub stood : numbered (state_of (take place book)).tables table.info.table.0 ≡ Some table
  pub live : is_live_one (numbered (state_of book).tables table.info.table.0) ≡ true

-- What it takes of those that stand is made by the book, and it needs it.
pub record IsTakenFor (book : List Entry) (txn : ℕ) (kind : Bool) (file : DirFile) : Type 0 where
  pub recs : List Rec
  pub needed : IsNeededBy (state_of book) txn file.place kind recs

abbrev pub TakenIsNeeded : Type 0
TakenIsNeeded =
    (book : List Entry) (txn place : ℕ) (table : Table) (files : Tree) (kind : Bool) (named : List DirFile) (file : DirFile)
    → ReadsAt book txn place table files → AreListed (places_of table.info.table files) named
    → IsIn file (files_taken kind (list_at book place table.info.table.0) named) → IsTakenFor book txn kind file

-- What it reads of the partitions that are wanted is what stood in them.
abbrev pub RowsStood : Type 0
RowsStood =
    (book : List Entry) (txn place : ℕ) (table : Table) (files : Tree) (wants : List ℕ → Bool) (rows : List Found)
    → ReadsAt book txn place table files → AreRows wants table.info (list_at book place table.info.table.0) files rows
    → rows ≡ rows_wanted wants (content_of table.writes)

-- And no file of it is amiss.
abbrev pub NoneWasSpoiled : Type 0
NoneWasSpoiled =
    (book : List Entry) (txn place : ℕ) (table : Table) (files : Tree) → ReadsAt book txn place table files
    → IsSpoiled table.info (list_at book place table.info.table.0) files → ⊥
