-- The files that a change makes. Inserted rows are sorted and numbered from 0 in each partition and bucket; a delete stands in
-- the bucket of the deleted row. Source: Hive Transactions, base and delta directories; the order of the rows is this
-- project's profile.
use Rattle.std.specs.Prelude.{ℕ, suc, true, false, List, [], ◌∷◌, ◌++◌, map, take, drop, length}
use Rattle.std.specs.List.{flat_map}
use Rattle.hv_base.specs.declared.ids.RowId.{RowId}
use Rattle.hv_base.specs.Identifiers.{row_id_cmp}
use Rattle.hv_value.specs.declared.row.Row.{Row}
use Rattle.hv_value.specs.Order.{row_cmp}
use Rattle.hv_rowfile.specs.declared.record.Rec.{Rec}
use Rattle.hv_rowfile.specs.declared.record.Rec.TheVariants as rec
use Rattle.hv_base.specs.Sorting.{sorted_by}
use Rattle.hv_logic.specs.declared.catalog.Shape.{Shape}
use Rattle.hv_logic.specs.declared.effect.Found.{Found}
use Rattle.hv_logic.specs.declared.effect.Effect.{Effect}
use Rattle.hv_route.specs.Buckets.{bucket_of}
use Rattle.hv_route.specs.Partitions.{partition_text}
use Rattle.hv_route.specs.Placing.{placed_cmp, runs_of}
use Rattle.hv_route.specs.declared.placed.Placed.{Placed}
use Rattle.hv_route.specs.declared.runs.Run.{Run}
use Rattle.hv_route.specs.declared.files.OutFile.{OutFile}

-- ---- where rows go

-- the values of the partition columns stand behind those of the table's own columns
abbrev pub partition_of : Shape → Row → List ℕ
partition_of shape row = partition_text shape.parts (drop (length shape.columns) row.values)

abbrev pub bucket_in : Shape → Row → ℕ
bucket_in shape row = bucket_of shape.columns shape.bucketed shape.buckets row.values

-- a file keeps the values of the table's own columns
abbrev pub stored : Shape → Row → Row
stored shape row = record { values = take (length shape.columns) row.values }

abbrev pub place_of_row : Shape → Row → Placed Row
place_of_row shape row = record { partition = partition_of shape row; bucket = bucket_in shape row; item = row }

abbrev pub place_of_deleted : Found → Placed RowId
place_of_deleted found = record { partition = found.partition; bucket = found.id.bucket; item = found.id }

-- ---- the files

abbrev pub row_number : ℕ → ℕ → ℕ → ℕ → RowId
row_number write statement bucket n = record { write = record { 0 = write }; statement = statement; bucket = bucket; row = n }

-- the records of rows, numbered from n
abbrev pub inserts_from : Shape → ℕ → ℕ → ℕ → ℕ → List Row → List Rec
inserts_from shape write statement bucket n [] = []
inserts_from shape write statement bucket n (row ∷ rows) =
    rec.Insert (row_number write statement bucket n) (stored shape row) ∷ inserts_from shape write statement bucket (suc n) rows

abbrev pub file_of_rows : Shape → ℕ → ℕ → Run Row → OutFile
file_of_rows shape write statement run =
    record {
      partition = run.partition;
      deletes = false;
      bucket = run.bucket;
      recs = inserts_from shape write statement run.bucket 0 run.items;
    }

abbrev pub delete_by : ℕ → RowId → Rec
delete_by write id = rec.Delete id (record { 0 = write })

abbrev pub file_of_deletes : ℕ → Run RowId → OutFile
file_of_deletes write run = record {
  partition = run.partition;
  deletes = true;
  bucket = run.bucket;
  recs = map (delete_by write) run.items;
}

-- the rows by partition, bucket and the row order, in runs of one partition and bucket
abbrev pub row_runs : Shape → List Row → List (Run Row)
row_runs shape rows = runs_of (sorted_by (placed_cmp row_cmp) (map (place_of_row shape) rows))

abbrev pub insert_files : Shape → ℕ → ℕ → List Row → List OutFile
insert_files shape write statement rows = map (file_of_rows shape write statement) (row_runs shape rows)

abbrev pub delete_files : ℕ → List Found → List OutFile
delete_files write deletes =
    map (file_of_deletes write) (runs_of (sorted_by (placed_cmp row_id_cmp) (map place_of_deleted deletes)))

-- the files that a statement's effect makes under a write id
unfoldable pub files_of : Shape → ℕ → ℕ → Effect → List OutFile
files_of shape write statement effect =
    insert_files shape write statement effect.inserts ++ delete_files write effect.deletes

-- ---- the inserted rows as they stand in the table then: sorted and numbered from 0 in each partition and bucket

-- the rows of one partition and bucket, numbered from n
abbrev pub founds_from : List ℕ → ℕ → ℕ → ℕ → ℕ → List Row → List Found
founds_from partition write statement bucket n [] = []
founds_from partition write statement bucket n (row ∷ rows) =
    record { partition = partition; id = row_number write statement bucket n; row = row }
    ∷ founds_from partition write statement bucket (suc n) rows

abbrev pub founds_of_run : ℕ → ℕ → Run Row → List Found
founds_of_run write statement run = founds_from run.partition write statement run.bucket 0 run.items

unfoldable pub numbered_rows : Shape → ℕ → ℕ → List Row → List Found
numbered_rows shape write statement rows = flat_map (founds_of_run write statement) (row_runs shape rows)
