-- The laws of a partition's writes in a book whose entries fit. A legal book is one.
use Rattle.std.specs.Prelude.{◌≡◌, ◌≢◌, ◌↔◌, ℕ, ◌≤◌, Some, List, [], ◌∷◌, take}
use Rattle.std.specs.List.{AllByRecursion}
use Rattle.hv_base.specs.declared.ids.Limits.{Limits}
use Rattle.hv_dirs.specs.Choice.{sight_of}
use Rattle.hv_base.specs.Sorting.{sorted_by}
use Rattle.hv_logic.specs.declared.effect.Found.{Found}
use Rattle.hv_history.specs.declared.entry.Entry.{Entry}
use Rattle.hv_history.specs.declared.state.Written.{Written}
use Rattle.hv_history.specs.State as book
use Rattle.hv_history.specs.Legal.{AllFit}
use Rattle.hv_earlier.specs.Lists as earlier
use Rattle.hv_law_visible.specs.Members.{IsIn}
use Rattle.hv_law_visible.specs.History.{Write, write_of, content_of}
use Rattle.hv_law_visible.specs.Visible.{writes_shown, by_id}
use Rattle.hv_law_visible.specs.Stands.{HasDistinctRows}
use Rattle.hv_law_visible.specs.Snapshots.{Committed, fate_of, list_at}
use Rattle.hv_law_partitions.specs.Partitions.{id_of, rows_of, writes_of, writes_in, fates_in}

-- ---- identifiers

-- a row that this write inserted, in this partition
pub record IsRowOf (partition : List ℕ) (w : Write Found) (found : Found) : Type 0 where
  pub partition_is : found.partition ≡ partition
  pub write_is : write_of found.id ≡ w.write
  pub statement_is : found.id.statement ≡ w.statement

abbrev pub HasOther : ℕ → Write Found → Type 0
HasOther write other = other.write ≢ write

-- no two of these writes have one write id
abbrev pub AreApart : List (Write Found) → Type 0
AreApart [] = Unit {0}
AreApart (w ∷ writes) = AllByRecursion (HasOther w.write) writes × AreApart writes

-- write ids are counted from 1 and differ; inserted rows carry that of their write, and its statement; no two have one
-- identifier
pub record HasSoundIds (partition : List ℕ) (writes : List (Write Found)) : Type 0 where
  pub from_one : (w : Write Found) → IsIn w writes → 1 ≤ w.write
  pub apart : AreApart writes
  pub carried : (w : Write Found) (found : Found) → IsIn w writes → IsIn found w.inserts → IsRowOf partition w found
  pub distinct : HasDistinctRows id_of writes

abbrev pub IdsAreSound : Type 0
IdsAreSound =
    (limits : Limits) (entries : List Entry) (table : ℕ) (partition : List ℕ) → AllFit limits book.nothing_yet entries
    → HasSoundIds partition (writes_in (book.state_of entries) table partition)

-- each write is committed
abbrev pub WritesAreCommitted : Type 0
WritesAreCommitted =
    (limits : Limits) (entries : List Entry) (table : ℕ) (partition : List ℕ) → AllFit limits book.nothing_yet entries
    → (w : Write Found) → IsIn w (writes_in (book.state_of entries) table partition)
    → fate_of (fates_in (book.state_of entries) table) w.write ≡ Some Committed

-- ---- the list

-- of any book: the list of a table at a place says what its write ids have come to there
abbrev pub ListIsOfFates : Type 0
ListIsOfFates =
    (entries : List Entry) (place table : ℕ)
    → earlier.list_at entries place table ≡ list_at (fates_in (book.state_of (take place entries)) table)

-- ---- content

-- of any writes: what is left of a partition's is what is left of the table's in the partition
abbrev pub ContentIsOfPartition : Type 0
ContentIsOfPartition =
    (partition : List ℕ) (writes : List Written) (found : Found)
    → IsIn found (content_of id_of (writes_of partition writes)) ↔ (IsIn found (book.content_of writes) × (found.partition ≡ partition))

-- and as one list, in the order in which rows stand
abbrev pub ContentIsInOrder : Type 0
ContentIsInOrder =
    (partition : List ℕ) (writes : List Written) → sorted_by (by_id id_of) (content_of id_of (writes_of partition writes)) ≡ rows_of partition (book.content_of writes)

-- under the list at a place, the writes that were committed before it show what stood there in the table, in the partition
abbrev pub ListShowsContent : Type 0
ListShowsContent =
    (limits : Limits) (entries : List Entry) (place table : ℕ) (partition : List ℕ) (found : Found) → AllFit limits book.nothing_yet entries
    → IsIn found (content_of id_of (writes_shown (sight_of (earlier.list_at entries place table)) (writes_in (book.state_of (take place entries)) table partition)))
    ↔ (IsIn found (book.content (book.state_of (take place entries)) table) × (found.partition ≡ partition))
