-- What a write deleted: rows that stood at the snapshot of its transaction, and so rows of earlier writes.
use Rattle.std.specs.Prelude.{◌≡◌, ℕ, ◌<◌, ◌≤◌, Some, List, [], length}
use Rattle.hv_base.specs.declared.ids.Limits.{Limits}
use Rattle.hv_base.specs.declared.ids.RowId.{RowId}
use Rattle.hv_logic.specs.declared.effect.Found.{Found}
use Rattle.hv_history.specs.declared.entry.Entry.{Entry}
use Rattle.hv_history.specs.declared.state.Snapshot.{Snapshot}
use Rattle.hv_history.specs.declared.state.Table.{Table}
use Rattle.hv_history.specs.declared.state.Transaction.{Transaction}
use Rattle.hv_history.specs.declared.state.Written.{Written}
use Rattle.hv_history.specs.State as book
use Rattle.hv_history.specs.State.{State, numbered}
use Rattle.hv_history.specs.Lasting.{IsFront}
use Rattle.hv_history.specs.Legal.{AllFit}
use Rattle.hv_law_visible.specs.Members.{IsIn}
use Rattle.hv_law_visible.specs.History.{Write, write_of, content_of}
use Rattle.hv_law_visible.specs.Stands.{IsSound}
use Rattle.hv_law_partitions.specs.Partitions.{id_of, writes_of, writes_in, written_in}

-- The transaction of this write id has a snapshot. What was written before that is a front of what is written now, its
-- write id was given later than all that the table had there, and the rows that it deleted stood there.
pub record StoodAtSnapshot (state : State) (number : ℕ) (table : Table) (written : Written) : Type 0 where
  pub txn : ℕ
  pub owner : numbered table.owners written.write ≡ Some txn
  pub transaction : Transaction
  pub here : numbered state.transactions txn ≡ Some transaction
  pub snapshot : Snapshot
  pub taken : transaction.snapshot ≡ Some snapshot
  pub before : Table
  pub stood : numbered snapshot.tables number ≡ Some before
  pub went_on : IsFront before.writes table.writes
  pub later : length before.owners < written.write
  pub each : (row : Found) → IsIn row written.deletes → IsIn row (book.content_of before.writes) × (write_of row.id ≤ length before.owners)

abbrev pub DeletedRowsStood : Type 0
DeletedRowsStood =
    (limits : Limits) (entries : List Entry) (number : ℕ) (table : Table) (written : Written) → AllFit limits book.nothing_yet entries
    → numbered (book.state_of entries).tables number ≡ Some table → IsIn written table.writes
    → StoodAtSnapshot (book.state_of entries) number table written

-- ---- in a partition

-- a row that was left of these writes has that identifier
pub record IsLeft (writes : List (Write Found)) (id : RowId) : Type 0 where
  pub row : Found
  pub id_is : row.id ≡ id
  pub left : IsIn row (content_of id_of writes)

-- The writes that were committed before the deleter's snapshot are a front of those of now, the row was left of them, and
-- it was inserted by an earlier write.
pub record IsDeletedLater (state : State) (table : ℕ) (partition : List ℕ) (w : Write Found) (id : RowId) : Type 0 where
  pub txn : ℕ
  pub transaction : Transaction
  pub here : numbered state.transactions txn ≡ Some transaction
  pub snapshot : Snapshot
  pub taken : transaction.snapshot ≡ Some snapshot
  pub front : IsFront (writes_of partition (written_in (numbered snapshot.tables table))) (writes_in state table partition)
  pub row : IsLeft (writes_of partition (written_in (numbered snapshot.tables table))) id
  pub earlier : write_of id < w.write

abbrev pub DeletesAreLater : Type 0
DeletesAreLater =
    (limits : Limits) (entries : List Entry) (table : ℕ) (partition : List ℕ) (w : Write Found) (id : RowId) → AllFit limits book.nothing_yet entries
    → IsIn w (writes_in (book.state_of entries) table partition) → IsIn id w.deletes
    → IsDeletedLater (book.state_of entries) table partition w id

-- What the laws on directories ask of a partition's history, of which no compaction is published.
abbrev pub HistoryIsSound : Type 0
HistoryIsSound =
    (limits : Limits) (entries : List Entry) (table : ℕ) (partition : List ℕ) (most : ℕ) → AllFit limits book.nothing_yet entries
    → IsSound id_of most (writes_in (book.state_of entries) table partition) []
