-- Which files stand beside a book: each that it makes, unless nobody needs its directory any more; and which others may.
-- Source: Hive Transactions, base and delta directories, compactor, and cleaner.
use Rattle.std.specs.Prelude.{◌≡◌, ◌⊎◌, ℕ, Bool, true, false, IsSome, Option, Some, None, List}
use Rattle.std.specs.List.{AllByRecursion}
use Rattle.std.specs.FinMap as tree
use Rattle.hv_shelf.specs.declared.place.Place.{Place}
use Rattle.hv_shelf.specs.Disk.{Tree}
use Rattle.hv_rowfile.specs.declared.record.Rec.{Rec}
use Rattle.hv_rowfile.specs.Layout.{IsFile, file_spelling}
use Rattle.hv_dirs.specs.declared.names.DirName.TheVariants.{Staged}
use Rattle.hv_dirs.specs.Names.{IsStagedAs, text_of}
use Rattle.hv_stands.specs.hv_history.specs.declared.state.Table.{Table}
use Rattle.hv_stands.specs.hv_history.specs.State.{State, Job, numbered}
use Rattle.hv_stands.specs.Files.{AreEncoded, IsLoose}
use Rattle.hv_stands.specs.hv_history.specs.Jobs.{is_job_of}
use Rattle.hv_law_made.specs.Made.{made_recs, is_spare, is_gone}

-- ---- files

-- a file's bytes and its records: there is one layout
pub record IsEncodingOf (deletes : Bool) (bucket : ℕ) (recs : List Rec) (bytes : List ℕ) : Type 0 where
  pub file : IsFile deletes bucket recs
  pub bytes_are : bytes ≡ file_spelling deletes bucket recs

pub record HasFile (deletes : Bool) (bucket : ℕ) (recs : List Rec) (found : Option (List ℕ)) : Type 0 where
  pub bytes : List ℕ
  pub is : found ≡ Some bytes
  pub encodes : IsEncodingOf deletes bucket recs bytes

abbrev pub is_live_table : Option Table → Bool
is_live_table None = true
is_live_table (Some table) = table.is_live

-- the place is in no table that was dropped
abbrev pub is_live_at : State → Place → Bool
is_live_at state place = is_live_table (numbered state.tables place.table.0)

-- ---- which files may stand that the book doesn't make

-- in a directory that a job which was picked stages
pub record IsStagedAt (state : State) (place : Place) : Type 0 where
  pub number : ℕ
  pub job : Job
  pub is : numbered state.jobs number ≡ Some job
  pub here : is_job_of place.table.0 place.partition job ≡ true
  pub picked : IsSome job.watermark
  pub name : List ℕ
  pub named : IsStagedAs number name
  pub dir : place.dir ≡ text_of (Staged (record { 0 = number }) name)

-- in an own directory of a write id that isn't committed, in one that nobody needs, in a staged one, or in a dropped table
abbrev pub MayHold : State → Place → Type 0
MayHold state place = IsLoose state place ⊎ ((is_spare state place ≡ true) ⊎ (IsStagedAt state place ⊎ (is_live_at state place ≡ false)))

-- ---- what stands

-- the file that the book makes there stands, unless nobody needs its directory
pub record Standing (state : State) (files : Tree) : Type 0 where
  pub made : (place : Place) (deletes : Bool) (recs : List Rec) → is_live_at state place ≡ true → is_spare state place ≡ false
      → made_recs state place ≡ Some (deletes, recs) → HasFile deletes place.bucket recs (tree.get files place)
  pub other : (place : Place) (bytes : List ℕ) → tree.get files place ≡ Some bytes → made_recs state place ≡ None → MayHold state place
  pub tables : (place : Place) (bytes : List ℕ) → tree.get files place ≡ Some bytes → IsSome (numbered state.tables place.table.0)
  pub gone : (place : Place) → is_live_at state place ≡ true → is_gone state place ≡ true → tree.get files place ≡ None
  pub encoded : AllByRecursion AreEncoded state.tables
