-- What the notes beside a book say of the state that its entries leave.
use Rattle.std.specs.Prelude.{ℕ, ◌+◌, ◌==◌, Bool, true, false, is_some, option_and_then, Option, Some, None, List, [], ◌∷◌, length}
use Rattle.std.specs.Option.{option_map}
use Rattle.std.specs.List.{slice_get}
use Rattle.hv_book.specs.declared.notes.End.{End}
use Rattle.hv_book.specs.declared.notes.TransactionNote.{TransactionNote}
use Rattle.hv_book.specs.declared.notes.TableNote.{TableNote}
use Rattle.hv_book.specs.declared.jobs.JobNote.{JobNote}
use Rattle.hv_book.specs.declared.jobs.JobRange.{JobRange}
use Rattle.hv_book.specs.declared.notes.Held.{Held}
use Rattle.hv_history.specs.declared.state.Transaction.{Transaction}
use Rattle.hv_history.specs.declared.state.Table.{Table}
use Rattle.hv_history.specs.declared.state.Snapshot.{Snapshot}
use Rattle.hv_history.specs.declared.state.Ending.{Ending}
use Rattle.hv_history.specs.declared.state.Ending.TheVariants.{Committed, Aborted, Made, Dropped}
use Rattle.hv_history.specs.State.{Job, opening_tree, created_shape}
use Rattle.hv_history.specs.Book.{tree_at}
use Rattle.hv_history.specs.declared.entry.Entry.{Entry}
use Rattle.hv_history.specs.declared.entry.Entry.TheVariants as entry
use Rattle.hv_ast.specs.declared.statement.Stmt.{Stmt}
use Rattle.hv_history.specs.hv_meaning.specs.hv_typing.specs.hv_logic.specs.declared.catalog.Shape.{Shape}
use Rattle.hv_book.specs.Notes.{note_open}
use Rattle.hv_book.specs.Said.{said}

abbrev pub end_of : Ending → End
end_of (Committed place wrote) = record { at = place; committed = true }
end_of (Aborted place cause) = record { at = place; committed = false }
end_of (Made place table) = record { at = place; committed = true }
end_of (Dropped place table) = record { at = place; committed = true }

abbrev pub snapshot_place : Snapshot → ℕ
snapshot_place snapshot = snapshot.place

-- a transaction's Start and end
abbrev pub brief : Transaction → TransactionNote
brief transaction = record { started = option_map snapshot_place transaction.snapshot; ending = option_map end_of transaction.ending }

-- a table's id, whether it is live, and how many write ids were given in it
abbrev pub brief_table : Table → TableNote
brief_table table = record { id = table.info.table.0; is_live = table.is_live; high = length table.owners }

abbrev pub brief_range : ℕ × ℕ × ℕ → JobRange
brief_range range = record { low = range.0; high = range.1; mark = range.2 }

-- all of a job but its partition, which its Asked has, and the cause of its failure
abbrev pub brief_job : Job → JobNote
brief_job job =
    record {
      table = job.table;
      kind = job.kind;
      asked = job.asked;
      watermark = job.watermark;
      published = option_map brief_range job.published;
      is_empty = job.is_empty;
      is_cleaned = job.is_cleaned;
      is_failed = is_some job.failure;
      ended = job.ended;
    }

abbrev pub open_next : Bool → ℕ → List ℕ → List ℕ
open_next true number numbers = number ∷ numbers
open_next false number numbers = numbers

-- the numbers of the open ones among these, where the first one's is given
abbrev pub open_from : ℕ → List TransactionNote → List ℕ
open_from number [] = []
open_from number (note ∷ notes) = open_next (note_open note) number (open_from (number + 1) notes)

-- the write ids that a transaction holds, each behind the number of its table
abbrev pub held_next : Bool → Held → List (ℕ × ℕ) → List (ℕ × ℕ)
held_next true held given = (held.table, held.write) ∷ given
held_next false held given = given

abbrev pub held_by : ℕ → List Held → List (ℕ × ℕ)
held_by txn [] = []
held_by txn (held ∷ more) = held_next (held.txn == txn) held (held_by txn more)

-- the write ids of the transaction of that number, while it is open
abbrev pub given_while : Option Ending → List (ℕ × ℕ) → List (ℕ × ℕ)
given_while None given = given
given_while (Some ending) given = []

abbrev pub given_at : Option Transaction → List (ℕ × ℕ)
given_at None = []
given_at (Some transaction) = given_while transaction.ending transaction.given

-- what is kept of the tree of the text that opened the transaction of that number
abbrev pub tree_in : Option Transaction → Option Stmt
tree_in None = None
tree_in (Some transaction) = option_map said (opening_tree transaction)

-- the session of the transaction that an entry opened
abbrev pub session_of_entry : Entry → Option (List ℕ)
session_of_entry (entry.Opened txn session number text) = Some session
session_of_entry _ = None

abbrev pub session_at : List Entry → ℕ → Option (List ℕ)
session_at entries place = option_and_then session_of_entry (slice_get entries place)

abbrev pub session_of : Transaction → Option (List ℕ)
session_of transaction = Some transaction.session

abbrev pub session_in : Option Transaction → Option (List ℕ)
session_in None = None
session_in (Some transaction) = session_of transaction

-- the tree of the text behind which a table was made, among these entries
abbrev pub text_tree : List Entry → Option ℕ → Option Stmt
text_tree entries None = None
text_tree entries (Some place) = tree_at entries place

abbrev pub shape_at : List Entry → Option ℕ → Shape
shape_at entries text = created_shape (text_tree entries text)

abbrev pub table_shape : Table → Shape
table_shape table = table.info.shape
