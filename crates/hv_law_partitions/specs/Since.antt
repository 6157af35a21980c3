-- A place of a book and its end: what a partition's history was there, and what came since.
use Rattle.std.specs.Prelude.{◌≡◌, ◌↔◌, ℕ, ◌<◌, Some, List, ◌++◌, length, take}
use Rattle.hv_base.specs.declared.ids.Limits.{Limits}
use Rattle.hv_dirs.specs.Choice.{sight_of}
use Rattle.hv_logic.specs.declared.effect.Found.{Found}
use Rattle.hv_history.specs.declared.entry.Entry.{Entry}
use Rattle.hv_history.specs.declared.state.Snapshot.{Snapshot}
use Rattle.hv_history.specs.declared.state.Transaction.{Transaction}
use Rattle.hv_history.specs.State as book
use Rattle.hv_history.specs.Legal.{AllFit}
use Rattle.hv_earlier.specs.Lists as earlier
use Rattle.hv_law_visible.specs.Members.{IsIn}
use Rattle.hv_law_visible.specs.History.{Write, content_of}
use Rattle.hv_law_visible.specs.Visible.{writes_shown}
use Rattle.hv_law_visible.specs.Snapshots.{IsSince}
use Rattle.hv_law_partitions.specs.Partitions.{id_of, writes_in, fates_in}

-- the writes at a place are a front of those at the end; the others were committed since, of ids that hadn't been there
abbrev pub PlacesAreSince : Type 0
PlacesAreSince =
    (limits : Limits) (entries : List Entry) (place table : ℕ) (partition : List ℕ) → AllFit limits book.nothing_yet entries
    → (since : List (Write Found))
    × (writes_in (book.state_of entries) table partition ≡ writes_in (book.state_of (take place entries)) table partition ++ since)
    × IsSince (fates_in (book.state_of (take place entries)) table) (fates_in (book.state_of entries) table)
    (writes_in (book.state_of (take place entries)) table partition) since

-- under the list at a place, all writes of now show what stood there in the table, in the partition
abbrev pub ListShowsThen : Type 0
ListShowsThen =
    (limits : Limits) (entries : List Entry) (place table : ℕ) (partition : List ℕ) (found : Found) → AllFit limits book.nothing_yet entries
    → IsIn found (content_of id_of (writes_shown (sight_of (earlier.list_at entries place table)) (writes_in (book.state_of entries) table partition)))
    ↔ (IsIn found (book.content (book.state_of (take place entries)) table) × (found.partition ≡ partition))

-- a snapshot has the tables as they were at its place
pub record IsTakenAt (entries : List Entry) (snapshot : Snapshot) : Type 0 where
  pub early : snapshot.place < length entries
  pub tables_are : snapshot.tables ≡ (book.state_of (take snapshot.place entries)).tables

abbrev pub SnapshotsAreOfPlaces : Type 0
SnapshotsAreOfPlaces =
    (limits : Limits) (entries : List Entry) (txn : ℕ) (transaction : Transaction) (snapshot : Snapshot) → AllFit limits book.nothing_yet entries
    → book.numbered (book.state_of entries).transactions txn ≡ Some transaction → transaction.snapshot ≡ Some snapshot
    → IsTakenAt entries snapshot
