-- The rows of a table that its files come to under a list of write ids: in each partition those of the chosen base and deltas
-- with a valid write id, without those that a record of a chosen delete delta with a valid deleter names.
-- Source: Hive Transactions, base and delta directories.
use Rattle.std.specs.Prelude.{◌≡◌, ℕ, ◌≤◌, Bool, true, false, not, if◌then◌else◌, Option, Some, List, [], ◌∷◌, ◌++◌, map, filter, Contains}
use Rattle.std.specs.declared.cmp.Ordering.{Ordering}
use Rattle.std.specs.Ordering.{is_eq}
use Rattle.std.specs.List.{flat_map, list_any, AllByRecursion}
use Rattle.std.specs.List.Sorted.{IsStrictlySortedBy}
use Rattle.std.specs.FinMap as tree
use Rattle.hv_shelf.specs.declared.place.Place.{Place}
use Rattle.hv_base.specs.Told.{Tells}
use Rattle.hv_shelf.specs.Disk.{Store, Tree, places_of}
use Rattle.hv_value.specs.declared.row.Row.{Row}
use Rattle.hv_value.specs.declared.value.Value.{Value}
use Rattle.hv_logic.specs.declared.catalog.Shape.{Shape}
use Rattle.hv_logic.specs.declared.catalog.TableInfo.{TableInfo}
use Rattle.hv_logic.specs.declared.effect.Found.{Found}
use Rattle.hv_route.specs.Partitions.{partition_values}
use Rattle.hv_logic.specs.Rows.{found_cmp}
use Rattle.hv_wids.specs.WriteIds.{WriteIds, is_valid}
use Rattle.hv_law_visible.specs.Members.{IsIn}
use Rattle.hv_choosing.specs.declared.dir.Span.{Span}
use Rattle.hv_choosing.specs.declared.listing.DirFile.{DirFile}
use Rattle.hv_choosing.specs.Dirs.{span_of}
use Rattle.hv_choosing.specs.Listing.{AreListed}
use Rattle.hv_choosing.specs.Taken.{files_taken}
use Rattle.hv_rowfile.specs.declared.record.Rec.{Rec}
use Rattle.hv_rowfile.specs.declared.record.Rec.TheVariants.{Insert, Delete}
use Rattle.hv_rowfile.specs.Layout.{IsFile, file_spelling}
use Rattle.hv_table_rows.specs.declared.row_at.RowAt.{RowAt}
use Rattle.hv_table_rows.specs.Orders.{row_at_cmp}
use Rattle.hv_table_rows.specs.Amiss.{IsWithin}

-- ---- files

-- at a place stands the file of its bucket with these records of a kind, all of these write ids
pub record HoldsAt (files : Tree) (place : Place) (deletes : Bool) (span : Span) (recs : List Rec) : Type 0 where
  pub file : IsFile deletes place.bucket recs
  pub own : AllByRecursion (IsWithin span) recs
  pub bytes : tree.get files place ≡ Some (file_spelling deletes place.bucket recs)

-- no file of that kind, of its bucket and of these write ids does
abbrev pub LacksAt : Tree → Place → Bool → Span → Type 0
LacksAt files place deletes span = (recs : List Rec) → HoldsAt files place deletes span recs → ⊥

-- a file that was read
pub record Sheet : Type 0 where
  pub file : DirFile
  pub recs : List Rec

abbrev pub sheet_file : Sheet → DirFile
sheet_file sheet = sheet.file

abbrev pub partition_in : Sheet → List ℕ
partition_in sheet = sheet.file.place.partition

abbrev pub IsSheet : Bool → Tree → Sheet → Type 0
IsSheet deletes files sheet = HoldsAt files sheet.file.place deletes (span_of sheet.file.dir) sheet.recs

-- these files of a kind, one after another, and what was taken of them
pub record Reads {X : Type 0} (deletes : Bool) (files : Tree) (taken : List DirFile) (pick : Sheet → List X) (items : List X) : Type 0 where
  pub sheets : List Sheet
  pub files_are : map sheet_file sheets ≡ taken
  pub each : AllByRecursion (IsSheet deletes files) sheets
  pub items_are : items ≡ flat_map pick sheets

-- one of these files of a kind doesn't stand
pub record LacksOne (deletes : Bool) (files : Tree) (taken : List DirFile) : Type 0 where
  pub one : DirFile
  pub among : Contains taken one
  pub lacks : LacksAt files one.place deletes (span_of one.dir)

-- ---- rows

-- the values of the partition columns stand behind those of the table's own columns
abbrev pub row_with : Row → List Value → Row
row_with row values = record { values = row.values ++ values }

-- the row that a record of a partition inserts, where its write id is valid
abbrev pub found_with : WriteIds → List ℕ → List Value → Rec → List Found
found_with list partition values (Insert id row) =
    if is_valid list id.write.0 then record { partition = partition; id = id; row = row_with row values } ∷ [] else []
found_with list partition values (Delete id by) = []

-- the values of the partition columns are those of the partition's text
abbrev pub founds_in : WriteIds → Shape → Sheet → List Found
founds_in list shape sheet = flat_map (found_with list (partition_in sheet) (partition_values shape.parts (partition_in sheet))) sheet.recs

-- where the row stands that a record of a partition deletes, where its deleter is valid
abbrev pub deleted_with : WriteIds → List ℕ → Rec → List RowAt
deleted_with list partition (Insert id row) = []
deleted_with list partition (Delete id by) = if is_valid list by.0 then record { partition = partition; id = id } ∷ [] else []

abbrev pub deleted_in : WriteIds → Sheet → List RowAt
deleted_in list sheet = flat_map (deleted_with list (partition_in sheet)) sheet.recs

abbrev pub at_of : Found → RowAt
at_of found = record { partition = found.partition; id = found.id }

abbrev pub is_gone : List RowAt → RowAt → Bool
is_gone gone row = list_any (λ (other : RowAt). is_eq (row_at_cmp other row)) gone

-- the rows but for those that stand where these do
abbrev pub left_of : List RowAt → List Found → List Found
left_of gone rows = filter (λ (found : Found). not (is_gone gone (at_of found))) rows

-- the rows that a file inserts but for those
abbrev pub left_in : WriteIds → List RowAt → Shape → Sheet → List Found
left_in list gone shape sheet = left_of gone (founds_in list shape sheet)

-- these items in rising order, one of those that tie
pub record AreOnce {X : Type 0} (cmp : X → X → Ordering) (items once : List X) : Type 0 where
  pub up : IsStrictlySortedBy cmp once
  pub among : (x : X) → IsIn x once → IsIn x items
  pub every : (x : X) → IsIn x items → (y : X) × IsIn y once × (is_eq (cmp x y) ≡ true)

-- those of the files that stand in a partition that is wanted
abbrev pub is_file_wanted : (List ℕ → Bool) → DirFile → Bool
is_file_wanted wants file = wants file.place.partition

abbrev pub files_wanted : (List ℕ → Bool) → List DirFile → List DirFile
files_wanted wants files = filter (is_file_wanted wants) files

-- The rows of a table's partitions that are wanted, under a list of write ids, by the files that are chosen in each of them. A row that
-- stands in several files comes once.
pub record AreRows (wants : List ℕ → Bool) (info : TableInfo) (list : WriteIds) (files : Tree) (rows : List Found) : Type 0 where
  pub named : List DirFile
  pub listed : AreListed (places_of info.table files) named
  pub gone : List RowAt
  pub inserted : List Found
  pub deletes : Reads true files (files_wanted wants (files_taken true list named)) (deleted_in list) gone
  pub inserts : Reads false files (files_wanted wants (files_taken false list named)) (founds_in list info.shape) inserted
  pub rows_are : AreOnce found_cmp (left_of gone inserted) rows

-- one of these files doesn't stand
pub record IsSpoiled (info : TableInfo) (list : WriteIds) (files : Tree) : Type 0 where
  pub deletes : Bool
  pub named : List DirFile
  pub listed : AreListed (places_of info.table files) named
  pub lacks : LacksOne deletes files (files_taken deletes list named)
