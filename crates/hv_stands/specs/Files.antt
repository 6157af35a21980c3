-- The files that a statement writes: one in its own delta for each partition and bucket in which it inserted rows, and one in its own
-- delete delta for each in which it deleted rows; and which places are in own directories. Which files stand is said by hv_law_made.
-- Source: Hive Transactions, base and delta directories. Built so far: transactions of one statement.
use Rattle.std.specs.Prelude.{◌≡◌, ℕ, ◌==◌, Bool, true, false, IsFalse, if◌then◌else◌, nat_eq, Option, Some, None, List, [], ◌∷◌, map, fold}
use Rattle.std.specs.List.{list_any, AllByRecursion}
use Rattle.std.specs.Cmp.Lexicographic.{pointwise}
use Rattle.std.specs.FinMap as tree
use Rattle.hv_shelf.specs.declared.place.Place.{Place}
use Rattle.hv_shelf.specs.Disk.{Tree}
use Rattle.hv_history.specs.hv_meaning.specs.hv_typing.specs.hv_logic.specs.declared.catalog.Shape.{Shape}
use Rattle.hv_history.specs.hv_meaning.specs.hv_typing.specs.hv_logic.specs.declared.effect.Found.{Found}
use Rattle.hv_history.specs.hv_meaning.specs.hv_route.specs.Standing.{records_in_place}
use Rattle.hv_history.specs.hv_meaning.specs.hv_route.specs.declared.files.OutFile.{OutFile}
use Rattle.hv_history.specs.hv_meaning.specs.hv_route.specs.hv_rowfile.specs.declared.record.Rec.{Rec}
use Rattle.hv_history.specs.hv_meaning.specs.hv_route.specs.hv_rowfile.specs.Layout.{IsFile, file_spelling}
use Rattle.hv_history.specs.hv_meaning.specs.Laws.{SaysParts}
use Rattle.hv_history.specs.declared.state.Ending.{Ending}
use Rattle.hv_history.specs.declared.state.Ending.TheVariants.{Aborted}
use Rattle.hv_history.specs.declared.state.Transaction.{Transaction}
use Rattle.hv_history.specs.declared.state.Written.{Written}
use Rattle.hv_history.specs.declared.state.Table.{Table}
use Rattle.hv_history.specs.State.{State, numbered}
use Rattle.hv_dirs.specs.declared.names.DirName.TheVariants.{Own}
use Rattle.hv_dirs.specs.Names.{text_of}

-- ---- what a commit writes in a partition and bucket, by kind: the rows that it inserted there, or those that it deleted

abbrev pub records_of : Shape → Bool → List ℕ → ℕ → Written → List Rec
records_of shape deletes partition bucket written =
    records_in_place shape written.write deletes partition bucket written.inserts written.deletes

-- the file of these records in a bucket; without records there is none
abbrev pub file_of : Bool → ℕ → List Rec → Option (List ℕ)
file_of deletes bucket [] = None
file_of deletes bucket (r ∷ recs) = Some (file_spelling deletes bucket (r ∷ recs))

unfoldable pub commit_file : Shape → Bool → List ℕ → ℕ → Written → Option (List ℕ)
commit_file shape deletes partition bucket written = file_of deletes bucket (records_of shape deletes partition bucket written)

-- these records have a file, where there are some
abbrev pub CanStand : Bool → ℕ → List Rec → Type 0
CanStand deletes bucket [] = Unit {0}
CanStand deletes bucket (r ∷ recs) = IsFile deletes bucket (r ∷ recs)

-- what stands at a place of that bucket is the file of these records
pub record HasRecords (deletes : Bool) (bucket : ℕ) (recs : List Rec) (file : Option (List ℕ)) : Type 0 where
  pub encoded : CanStand deletes bucket recs
  pub file_is : file ≡ file_of deletes bucket recs

-- ---- where it stands

-- the own delta of a statement under a write id, or its own delete delta
abbrev pub own_dir : Bool → ℕ → ℕ → List ℕ
own_dir deletes write statement = text_of (Own deletes (record { 0 = write }) statement)

abbrev pub own_place : ℕ → List ℕ → Bool → ℕ → ℕ → Place
own_place table partition deletes write bucket =
    record { table = record { 0 = table }; partition = partition; dir = own_dir deletes write 0; bucket = bucket }

-- the file that a statement writes at a place
abbrev pub file_at : Shape → Written → Place → Option (List ℕ)
file_at shape written place =
    if pointwise nat_eq (own_dir false written.write 0) place.dir then commit_file shape false place.partition place.bucket written
    else if pointwise nat_eq (own_dir true written.write 0) place.dir then commit_file shape true place.partition place.bucket written
    else None

-- ---- own directories

-- the place is in an own directory, of either kind, of a write id of this transaction, which may be of any statement, and
-- isn't forgotten
pub record IsOwn (tables : List Table) (txn : ℕ) (place : Place) : Type 0 where
  pub table : Table
  pub is : numbered tables place.table.0 ≡ Some table
  pub deletes : Bool
  pub write : ℕ
  pub statement : ℕ
  pub dir : place.dir ≡ own_dir deletes write statement
  pub owner : numbered table.owners write ≡ Some txn
  pub kept : IsFalse (list_any (λ other. other == write) table.forgotten)

abbrev pub ending_of : Transaction → Option Ending
ending_of transaction = transaction.ending

-- the transaction hasn't committed: it is open, or was aborted
abbrev pub IsUndone : Option (Option Ending) → Type 0
IsUndone (Some None) = Unit {0}
IsUndone (Some (Some (Aborted place cause))) = Unit {0}
IsUndone _ = ⊥

pub record IsLoose (state : State) (place : Place) : Type 0 where
  pub txn : ℕ
  pub own : IsOwn state.tables txn place
  pub undone : IsUndone (numbered (map ending_of state.transactions) txn)

-- the text of its partition says the row's values of the partition columns, which its file doesn't keep
abbrev pub IsSaid : Shape → Found → Type 0
IsSaid shape found = SaysParts shape found.row

-- what was written can be read again, from its files and the texts of its partitions
pub record IsEncoded (shape : Shape) (written : Written) : Type 0 where
  pub files : (deletes : Bool) (partition : List ℕ) (bucket : ℕ) → CanStand deletes bucket (records_of shape deletes partition bucket written)
  pub said : AllByRecursion (IsSaid shape) written.inserts

abbrev pub AreEncoded : Table → Type 0
AreEncoded table = AllByRecursion (IsEncoded table.info.shape) table.writes

-- ---- files that are put

-- the file at a place, where there is one
abbrev pub place_of_file : ℕ → ℕ → OutFile → Place
place_of_file table write file = own_place table file.partition file.deletes write file.bucket

abbrev pub with_file : ℕ → ℕ → Tree → OutFile → Tree
with_file table write files file =
    tree.insert files (place_of_file table write file) (file_spelling file.deletes file.bucket file.recs)

-- the files of a change in a table under a write id, put one after another
abbrev pub with_files : Tree → ℕ → ℕ → List OutFile → Tree
with_files files table write outs = fold (with_file table write) files outs
