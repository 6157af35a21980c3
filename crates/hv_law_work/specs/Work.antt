-- What a job at work stages: in the directory that stages one which it is to make, each file that this is to have.
-- Source: Hive Transactions, compactor; that a job's files are staged is this project's profile.
use Rattle.std.specs.Prelude.{◌≡◌, ℕ, Bool, false, Option, Some, List}
use Rattle.std.specs.List.{AllByRecursion}
use Rattle.hv_shelf.specs.declared.place.Place.{Place}
use Rattle.hv_rowfile.specs.declared.record.Rec.{Rec}
use Rattle.hv_dirs.specs.declared.names.DirName.{DirName}
use Rattle.hv_dirs.specs.Names.{text_of}
use Rattle.hv_history.specs.declared.state.Table.{Table}
use Rattle.hv_history.specs.State.{State, Job}
use Rattle.hv_history.specs.Jobs.{jobs_in}
use Rattle.hv_jobs.specs.Covers.{is_cleaned_away}
use Rattle.hv_jobs.specs.Covered.{covered_names}
use Rattle.hv_law_visible.specs.Members.{IsIn}
use Rattle.hv_law_marks.specs.hv_law_filed.specs.hv_law_made.specs.Made.{name_file}
use Rattle.hv_law_marks.specs.hv_law_filed.specs.hv_law_made.specs.Standing.{IsEncodingOf}
use Rattle.hv_law_marks.specs.hv_law_filed.specs.hv_law_made.specs.Entries.{finals, dir_of, staged_text, IsAtWork}
use Rattle.hv_trail.specs.declared.trail.Reader.{Reader}
use Rattle.hv_trail.specs.declared.trail.Reader.TheVariants as reader
use Rattle.hv_trail.specs.declared.trail.Renaming.{Renaming}
use Rattle.hv_trail.specs.declared.trail.TrailItem.{TrailItem}
use Rattle.hv_trail.specs.Trail.{HasWritten, HasGone}

abbrev pub by_job : ℕ → Reader
by_job number = reader.Job (record { 0 = number })

-- ---- what it stages

-- the place of the file of a bucket, in the directory that stages this one
abbrev pub staged_at : ℕ → Job → DirName → ℕ → Place
staged_at number job name bucket =
    record { table = record { 0 = job.table }; partition = job.partition; dir = staged_text number name; bucket = bucket }

-- the file that the directory is to have in a bucket, of a table with these writes
abbrev pub wanted : Job → Table → DirName → ℕ → Option (Bool × List Rec)
wanted job table name bucket = name_file table.info.shape table.writes job.partition name bucket

-- of the job of that number, which is at work, and of one of the directories that it is to make, these are the bytes of the file of a bucket
pub record IsJobFile (state : State) (number : ℕ) (name : DirName) (bucket : ℕ) (bytes : List ℕ) : Type 0 where
  pub job : Job
  pub work : IsAtWork state number job
  pub among : IsIn name (finals state job work.table.writes)
  pub deletes : Bool
  pub recs : List Rec
  pub wants : wanted job work.table name bucket ≡ Some (deletes, recs)
  pub encodes : IsEncodingOf deletes bucket recs bytes

-- and the place is where it is staged
pub record IsStagedFile (state : State) (number : ℕ) (place : Place) (bytes : List ℕ) : Type 0 where
  pub name : DirName
  pub file : IsJobFile state number name place.bucket bytes
  pub place_is : place ≡ staged_at number file.job name place.bucket

-- each file that it is to stage has its mark
abbrev pub AreStagedAll : List TrailItem → State → ℕ → Job → Table → Type 0
AreStagedAll trail state number job table =
    (name : DirName) (bucket : ℕ) (file : Bool × List Rec) → IsIn name (finals state job table.writes)
    → wanted job table name bucket ≡ Some file → HasWritten trail (by_job number) (staged_at number job name bucket)

-- its directory gets its name
abbrev pub renaming_of : ℕ → Job → DirName → Renaming
renaming_of number job name = record { from = dir_of job (staged_text number name); to = text_of name }

-- ---- what it covers went

abbrev pub HasGoneIf : List TrailItem → State → Job → DirName → Type 0
HasGoneIf trail state job name =
    is_cleaned_away (jobs_in state job.table job.partition) name ≡ false → HasGone trail (dir_of job (text_of name))

-- each directory that commits and jobs have made and that it covers has a mark, unless a job that was cleaned covers it
abbrev pub AreGone : List TrailItem → State → Job → Type 0
AreGone trail state job = AllByRecursion (HasGoneIf trail state job) (covered_names state job)
