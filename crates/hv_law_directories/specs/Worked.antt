-- The files of a table in two partitions, worked out by hand; the table has no columns, so that its rows have no values. The first
-- write inserted three rows, two of them in the north in two buckets, and one in the south, of the same identifier as one of these;
-- the second one deleted that one of the north. The third one's transaction is open, and a put of it was broken off.
use Rattle.std.specs.Prelude.{◌≡◌, ℕ, Bool, true, false, List, [], ◌∷◌, codes}
use Rattle.std.specs.FinMap as finmap
use Rattle.hv_base.specs.declared.ids.RowId.{RowId}
use Rattle.hv_shelf.specs.declared.place.Place.{Place}
use Rattle.hv_shelf.specs.Disk as disk
use Rattle.hv_shelf.specs.Disk.{places_of}
use Rattle.hv_logic.specs.declared.catalog.TableInfo.{TableInfo}
use Rattle.hv_logic.specs.declared.effect.Found.{Found}
use Rattle.hv_rowfile.specs.Layout.{file_spelling}
use Rattle.hv_rowfile.specs.declared.record.Rec.{Rec}
use Rattle.hv_rowfile.specs.declared.record.Rec.TheVariants.{Insert, Delete}
use Rattle.hv_dirs.specs.Choice.{Own, sight_of}
use Rattle.hv_base.specs.Sorting.{rising_by}
use Rattle.hv_choosing.specs.declared.dir.Dir.TheVariants as dir
use Rattle.hv_choosing.specs.declared.listing.DirFile.{DirFile}
use Rattle.hv_choosing.specs.Listing.{AreListed}
use Rattle.hv_stands.specs.Files.{own_place}
use Rattle.hv_law_visible.specs.Visible.{Tree, visible_rows, by_id}
use Rattle.hv_law_visible.specs.Snapshots.{Fate, Open, Committed, list_at}
use Rattle.hv_law_partitions.specs.Partitions.{id_of}
use Rattle.hv_law_directories.specs.Reading.{Reading, IsReading}
use Rattle.hv_law_directories.specs.Directories.{directories_in}

abbrev pub north : List ℕ
north = codes "n"

abbrev pub south : List ℕ
south = codes "s"

abbrev pub info : TableInfo
info = record { table = record { 0 = 1 }; shape = record { name = codes "t"; columns = []; parts = []; bucketed = []; buckets = 2 } }

-- the first row of the first write in a bucket
abbrev pub id : ℕ → RowId
id bucket = record { write = record { 0 = 1 }; statement = 0; bucket = bucket; row = 0 }

abbrev pub found : List ℕ → ℕ → Found
found partition bucket = record { partition = partition; id = id bucket; row = record { values = [] } }

abbrev pub inserted : ℕ → List Rec
inserted bucket = Insert (id bucket) (record { values = [] }) ∷ []

abbrev pub deleted : List Rec
deleted = Delete (id 0) (record { 0 = 2 }) ∷ []

-- ---- the files, by their places in order: a partition's delete deltas come before its deltas

abbrev pub deleted_north : Place
deleted_north = own_place 1 north true 2 0

abbrev pub first_north : Place
first_north = own_place 1 north false 1 0

abbrev pub second_north : Place
second_north = own_place 1 north false 1 1

abbrev pub broken_north : Place
broken_north = own_place 1 north false 3 0

abbrev pub first_south : Place
first_south = own_place 1 south false 1 0

abbrev pub files : List (Place × List ℕ)
files =
    (deleted_north, file_spelling true 0 deleted)
    ∷ (first_north, file_spelling false 0 (inserted 0))
    ∷ (second_north, file_spelling false 1 (inserted 1))
    ∷ (broken_north, codes "HVR")
    ∷ (first_south, file_spelling false 0 (inserted 0)) ∷ []

abbrev pub tree_of_files : disk.Tree
tree_of_files = finmap.from_sorted files

abbrev pub in_own : Place → Bool → ℕ → DirFile
in_own place deletes write = record { place = place; dir = dir.Own deletes (record { 0 = write }) 0 }

abbrev pub listing : List DirFile
listing =
    in_own deleted_north true 2
    ∷ in_own first_north false 1
    ∷ in_own second_north false 1
    ∷ in_own broken_north false 3
    ∷ in_own first_south false 1 ∷ []

abbrev pub directories : Reading → List ℕ → Tree Found
directories read partition = directories_in read info partition tree_of_files listing

-- the rows that they show, each once
abbrev pub shown : Reading → List Fate → List ℕ → List Found
shown read fates partition = rising_by (by_id id_of) (visible_rows id_of (sight_of (list_at fates)) (directories read partition))

-- whatever is read of the file that was broken off
pub record ByHand (read : Reading) : Type 0 where
  pub listed : AreListed (places_of info.table tree_of_files) listing
  -- a directory is named once for each of its files
  pub deltas : (directories read north).deltas ≡ Own 1 0 ∷ Own 1 0 ∷ Own 3 0 ∷ []
  pub delete_deltas : (directories read north).delete_deltas ≡ Own 2 0 ∷ []
  pub bases : (directories read north).bases ≡ []
  -- the rows of both buckets
  pub inserts : (directories read north).inserts (Own 1 0) ≡ found north 0 ∷ found north 1 ∷ []
  pub deletes : (directories read north).deletes (Own 2 0) ≡ (id 0, 2) ∷ []
  -- the other partition has its own
  pub others : (directories read south).inserts (Own 1 0) ≡ found south 0 ∷ []
  pub no_deletes : (directories read south).delete_deltas ≡ []
  -- while the delete's transaction is open, and when it has committed; the row of the same identifier stays
  pub before : shown read (Committed ∷ Open ∷ Open ∷ []) north ≡ found north 0 ∷ found north 1 ∷ []
  pub after : shown read (Committed ∷ Committed ∷ Open ∷ []) north ≡ found north 1 ∷ []
  pub after_south : shown read (Committed ∷ Committed ∷ Open ∷ []) south ≡ found south 0 ∷ []

abbrev pub DirectoriesByHand : Type 0
DirectoriesByHand = (read : Reading) → IsReading read → ByHand read
