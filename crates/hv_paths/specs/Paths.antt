-- Where everything of a store stands. Source: this project's profile (docs/FORMATS.md).

use Rattle.std.specs.Prelude.{ℕ, List, ◌∷◌, ◌++◌, map, codes}
use Rattle.hv_shelf.specs.declared.place.Place.{Place}
use Rattle.hv_shelf.specs.declared.place.DirAt.{DirAt}
use Rattle.hv_paths.specs.Names.{slash, dot, table_name, bucket_name, folders_of, pieces_of, piece_name, path_below}

-- the path of a name in a folder
abbrev pub path_in : (folder name : List ℕ) → List ℕ
path_in folder name = folder ++ (slash ∷ name)

-- the journal, the lock, and the folder of all tables, of the store in a folder
abbrev pub journal_path : List ℕ → List ℕ
journal_path folder = path_in folder (codes "journal")

abbrev pub lock_path : List ℕ → List ℕ
lock_path folder = path_in folder (codes "lock")

abbrev pub tables_path : List ℕ → List ℕ
tables_path folder = path_in folder (codes "tables")

-- the folder of a table, below the folder of all tables
abbrev pub table_path : (tables : List ℕ) (table : ℕ) → List ℕ
table_path tables table = path_in tables (table_name table)

-- the names of the folders from the folder of all tables down to a partition's
abbrev pub outer_folders : (table : ℕ) (partition : List ℕ) → List (List ℕ)
outer_folders table partition = table_name table ∷ map piece_name (pieces_of partition)

-- the folder of a partition, and of a directory of files
abbrev pub partition_path : (tables : List ℕ) (table : ℕ) (partition : List ℕ) → List ℕ
partition_path tables table partition = path_below tables (outer_folders table partition)

abbrev pub dir_path : (tables : List ℕ) (table : ℕ) (partition dir : List ℕ) → List ℕ
dir_path tables table partition dir = path_below tables (folders_of table partition dir)

abbrev pub path_of_dir : (tables : List ℕ) (dir : DirAt) → List ℕ
path_of_dir tables dir = dir_path tables dir.table.0 dir.partition dir.dir

abbrev pub dir_of : Place → DirAt
dir_of place = record { table = place.table; partition = place.partition; dir = place.dir }

-- a file, and what stands beside it while it is written
abbrev pub file_path : (tables : List ℕ) (place : Place) → List ℕ
file_path tables place =
    path_in (dir_path tables place.table.0 place.partition place.dir) (bucket_name place.bucket)

abbrev pub working_path : (tables : List ℕ) (place : Place) → List ℕ
working_path tables place =
    path_in (dir_path tables place.table.0 place.partition place.dir)
    (dot ∷ bucket_name place.bucket)
