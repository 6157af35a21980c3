-- The directories of a partition, in a tree of files: which there are by their names, and what each holds. The files of a directory are those of its
-- buckets; its records are those of its files, one file after another by bucket.
-- Source: Hive Transactions, base and delta directories.
use Rattle.std.specs.Prelude.{◌≡◌, ◌↔◌, ℕ, nat_eq, Bool, true, false, Option, Some, None, List, [], ◌∷◌, filter}
use Rattle.std.specs.Cmp.Lexicographic.{pointwise}
use Rattle.std.specs.FinMap as finmap
use Rattle.std.specs.List.{flat_map}
use Rattle.hv_base.specs.declared.ids.RowId.{RowId}
use Rattle.hv_shelf.specs.declared.place.Place.{Place}
use Rattle.hv_shelf.specs.declared.place.DirAt.{DirAt}
use Rattle.hv_shelf.specs.Places.{is_in}
use Rattle.hv_shelf.specs.Disk as disk
use Rattle.hv_shelf.specs.Disk.{places_of}
use Rattle.hv_logic.specs.declared.catalog.Shape.{Shape}
use Rattle.hv_logic.specs.declared.catalog.TableInfo.{TableInfo}
use Rattle.hv_logic.specs.declared.effect.Found.{Found}
use Rattle.hv_route.specs.Partitions.{partition_values}
use Rattle.hv_rowfile.specs.declared.record.Rec.{Rec}
use Rattle.hv_rowfile.specs.declared.record.Rec.TheVariants.{Insert, Delete}
use Rattle.hv_dirs.specs.declared.names.DirName.{DirName}
use Rattle.hv_dirs.specs.declared.names.DirName.TheVariants as name
use Rattle.hv_dirs.specs.Names.{IsName, text_of}
use Rattle.hv_dirs.specs.Choice.{Delta, bases_in, deltas_in}
use Rattle.hv_choosing.specs.declared.listing.DirFile.{DirFile}
use Rattle.hv_choosing.specs.Taken.{names_of, delta_name}
use Rattle.hv_table_rows.specs.Reading.{row_with}
use Rattle.hv_law_visible.specs.Members.{IsIn}
use Rattle.hv_law_visible.specs.Visible.{Tree}
use Rattle.hv_law_directories.specs.Reading.{Reading}

-- ---- which directories there are

abbrev pub dir_of : TableInfo → List ℕ → DirName → DirAt
dir_of info partition name = record { table = info.table; partition = partition; dir = text_of name }

-- some file stands in it
pub record HasFiles (dir : DirAt) (files : disk.Tree) : Type 0 where
  pub place : Place
  pub within : is_in dir place ≡ true
  pub bytes : List ℕ
  pub is : finmap.get files place ≡ Some bytes

-- the partition has a directory of that name, which is one of the format's
abbrev pub IsThere : TableInfo → List ℕ → disk.Tree → DirName → Type 0
IsThere info partition files name = IsName name × HasFiles (dir_of info partition name) files

abbrev pub base_name : ℕ → DirName
base_name base = name.Base (record { 0 = base })

-- ---- what they hold

abbrev pub read_by : (List ℕ → List Rec) → Option (List ℕ) → List Rec
read_by read None = []
read_by read (Some bytes) = read bytes

abbrev pub recs_at : Reading → Bool → disk.Tree → Place → List Rec
recs_at read deletes files place = read_by (read deletes place.bucket) (finmap.get files place)

-- the places of a directory's files, by bucket
abbrev pub places_in : DirAt → disk.Tree → List Place
places_in dir files = filter (is_in dir) (places_of dir.table files)

abbrev pub recs_in : Reading → Bool → disk.Tree → DirAt → List Rec
recs_in read deletes files dir = flat_map (recs_at read deletes files) (places_in dir files)

-- the row that a record inserts, with the values that the partition's text says
abbrev pub inserted_by : Shape → List ℕ → Rec → List Found
inserted_by shape partition (Insert id row) =
    record { partition = partition; id = id; row = row_with row (partition_values shape.parts partition) } ∷ []
inserted_by shape partition (Delete id by) = []

-- the identifier that a record deletes, with its deleter
abbrev pub deleted_by : Rec → List (RowId × ℕ)
deleted_by (Insert id row) = []
deleted_by (Delete id by) = (id, by.0) ∷ []

abbrev pub rows_held : Reading → TableInfo → List ℕ → disk.Tree → DirName → List Found
rows_held read info partition files name =
    flat_map (inserted_by info.shape partition) (recs_in read false files (dir_of info partition name))

abbrev pub deletes_held : Reading → TableInfo → List ℕ → disk.Tree → DirName → List (RowId × ℕ)
deletes_held read info partition files name = flat_map deleted_by (recs_in read true files (dir_of info partition name))

-- ---- all of a partition's

pub record AreDirectories (read : Reading) (info : TableInfo) (partition : List ℕ) (files : disk.Tree) (tree : Tree Found) : Type 0 where
  pub bases : (base : ℕ) → IsIn base tree.bases ↔ IsThere info partition files (base_name base)
  pub deltas : (d : Delta) → IsIn d tree.deltas ↔ IsThere info partition files (delta_name false d)
  pub delete_deltas : (d : Delta) → IsIn d tree.delete_deltas ↔ IsThere info partition files (delta_name true d)
  pub rows : (base : ℕ) → tree.rows base ≡ rows_held read info partition files (base_name base)
  pub inserts : (d : Delta) → tree.inserts d ≡ rows_held read info partition files (delta_name false d)
  pub deletes : (d : Delta) → tree.deletes d ≡ deletes_held read info partition files (delta_name true d)

-- ---- as a listing of the table's files names them

abbrev pub is_of : List ℕ → DirFile → Bool
is_of partition file = pointwise nat_eq file.place.partition partition

abbrev pub names_in : List ℕ → List DirFile → List DirName
names_in partition named = names_of (filter (is_of partition) named)

abbrev pub directories_in : Reading → TableInfo → List ℕ → disk.Tree → List DirFile → Tree Found
directories_in read info partition files named = record {
  bases = bases_in (names_in partition named);
  deltas = deltas_in false (names_in partition named);
  delete_deltas = deltas_in true (names_in partition named);
  rows = λ base. rows_held read info partition files (base_name base);
  inserts = λ d. rows_held read info partition files (delta_name false d);
  deletes = λ d. deletes_held read info partition files (delta_name true d);
}
