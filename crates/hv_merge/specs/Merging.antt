-- The rows that a reader sees in a bucket's files: those of the files of the chosen base and deltas with a valid write id,
-- without those that a record of a chosen delete delta with a valid deleter names. Source: Hive Transactions, base and
-- delta directories.
use Rattle.std.specs.Prelude.{ℕ, Option, Some, None, List}
use Rattle.std.specs.List.{filter_map, flat_map}
use Rattle.hv_base.specs.declared.ids.RowId.{RowId}
use Rattle.hv_wids.specs.WriteIds.{WriteIds}
use Rattle.hv_dirs.specs.Choice.{sight_of}
use Rattle.hv_base.specs.Sorting.{rising_by}
use Rattle.hv_law_visible.specs.Visible.{visible_among, by_id}
use Rattle.hv_rowfile.specs.declared.record.Rec.{Rec}
use Rattle.hv_rowfile.specs.declared.record.Rec.TheVariants as rec
use Rattle.hv_merge.specs.declared.shown.Shown.{Shown}

abbrev pub row_of : Rec → Option Shown
row_of (rec.Insert id row) = Some (record { id = id; row = row })
row_of (rec.Delete id by) = None

-- the row that was deleted, with the write id that deleted it
abbrev pub delete_of : Rec → Option (RowId × ℕ)
delete_of (rec.Insert id row) = None
delete_of (rec.Delete id by) = Some (id, by.0)

-- the inserted rows of a file's records, and the deletes
abbrev pub rows_in : List Rec → List Shown
rows_in recs = filter_map row_of recs

abbrev pub deletes_in : List Rec → List (RowId × ℕ)
deletes_in recs = filter_map delete_of recs

abbrev pub id_of : Shown → RowId
id_of shown = shown.id

-- the visible rows of these files, rising by identifier. Of rows with one identifier the last one stands.
unfoldable pub merged : WriteIds → List (List Rec) → List (List Rec) → List Shown
merged list files deletes =
    rising_by (by_id id_of) (visible_among id_of (sight_of list) (flat_map deletes_in deletes) (flat_map rows_in files))
