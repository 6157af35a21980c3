-- What the marks of a house's trail say of the files of compactions: where a job is at work, and no call on files failed for it, a file
-- stands where it stages just where it has a mark of one, and it is the file that its directory is to have; and where a directory went
-- that nobody writes any more, no file stands.
-- Source: this project's profile.
use Rattle.std.specs.Prelude.{◌≡◌, ◌⊎◌, ℕ, Bool, true, false, IsSome, Option, Some, None, List, map}
use Rattle.std.specs.FinMap as tree
use Rattle.hv_shelf.specs.declared.place.DirAt.{DirAt}
use Rattle.hv_shelf.specs.declared.place.Place.{Place}
use Rattle.hv_shelf.specs.Disk.{Tree, IsFree}
use Rattle.hv_rowfile.specs.declared.record.Rec.{Rec}
use Rattle.hv_dirs.specs.declared.names.DirName.{DirName}
use Rattle.hv_dirs.specs.declared.names.DirName.TheVariants.{Staged}
use Rattle.hv_dirs.specs.Names.{IsName, IsStagedAs, text_of}
use Rattle.hv_logic.specs.declared.catalog.TableInfo.{TableInfo}
use Rattle.hv_logic.specs.declared.effect.Effect.{Effect}
use Rattle.hv_history.specs.declared.state.Table.{Table}
use Rattle.hv_history.specs.State.{State, Job, numbered}
use Rattle.hv_history.specs.Legal.{is_working}
use Rattle.hv_history.specs.Jobs.{is_job_of, is_past}
use Rattle.hv_history.specs.JobsFit.{is_live_job}
use Rattle.hv_stands.specs.Files.{ending_of, own_dir}
use Rattle.hv_jobs.specs.Covers.{covers}
use Rattle.hv_law_visible.specs.Members.{IsIn}
use Rattle.hv_law_marks.specs.hv_law_filed.specs.hv_law_made.specs.Laws.{Holds}
use Rattle.hv_law_marks.specs.hv_law_filed.specs.hv_law_made.specs.Standing.{is_live_table}
use Rattle.hv_law_marks.specs.hv_law_filed.specs.hv_law_made.specs.Entries.{finals, IsAtWork, IsAbortedEnd}
use Rattle.hv_law_marks.specs.Marked.{IsChanging}
use Rattle.hv_trail.specs.declared.trail.TrailItem.{TrailItem}
use Rattle.hv_trail.specs.Trail.{state_at, HasWritten, HasGone, broken}
use Rattle.hv_law_work.specs.Work.{by_job, staged_at, wanted}

-- ---- directories that nobody writes any more

-- a published job of its partition covers it
pub record IsCovered (state : State) (dir : DirAt) : Type 0 where
  pub number : ℕ
  pub job : Job
  pub is : numbered state.jobs number ≡ Some job
  pub here : is_job_of dir.table.0 dir.partition job ≡ true
  pub name : DirName
  pub named : IsName name
  pub text : dir.dir ≡ text_of name
  pub covered : covers job name ≡ true

-- it is an own one of a write id whose transaction was aborted
pub record IsLost (state : State) (dir : DirAt) : Type 0 where
  pub table : Table
  pub table_is : numbered state.tables dir.table.0 ≡ Some table
  pub write : ℕ
  pub txn : ℕ
  pub owner : numbered table.owners write ≡ Some txn
  pub aborted : IsAbortedEnd (numbered (map ending_of state.transactions) txn)
  pub deletes : Bool
  pub statement : ℕ
  pub text : dir.dir ≡ own_dir deletes write statement

-- it stages one
pub record IsStage (dir : DirAt) : Type 0 where
  pub number : ℕ
  pub name : List ℕ
  pub named : IsStagedAs number name
  pub text : dir.dir ≡ text_of (Staged (record { 0 = number }) name)

abbrev pub IsLeft : State → DirAt → Type 0
IsLeft state dir = IsCovered state dir ⊎ IsLost state dir

-- it is in a table that was dropped
abbrev pub IsDropped : State → DirAt → Type 0
IsDropped state dir = is_live_table (numbered state.tables dir.table.0) ≡ false

-- ---- what may go

-- covered, where no transaction below the job's mark is open
pub record IsFreed (state : State) (dir : DirAt) : Type 0 where
  pub covered : IsCovered state dir
  pub past : is_past state covered.job ≡ true

-- staged by a job that isn't at work in a live table
pub record IsIdle (state : State) (dir : DirAt) : Type 0 where
  pub stage : IsStage dir
  pub idle : (job : Job) → numbered state.jobs stage.number ≡ Some job → is_working job ≡ true → is_live_job state job ≡ true → ⊥

-- in a table that was dropped, in which no open transaction is changing rows
pub record IsDead (state : State) (dir : DirAt) : Type 0 where
  pub dropped : IsDropped state dir
  pub quiet : (txn : ℕ) (info : TableInfo) (effect : Effect) (write : ℕ) → IsChanging state txn info effect write → info.table.0 ≡ dir.table.0 → ⊥

-- its files may be taken away now
abbrev pub MayGoNow : State → DirAt → Type 0
MayGoNow state dir = IsFreed state dir ⊎ (IsLost state dir ⊎ (IsIdle state dir ⊎ IsDead state dir))

-- ---- marks

-- what is wanted at a place where the job stages stands there, or nothing does and there is no mark
abbrev pub IsStagedWell : List TrailItem → ℕ → Place → Option (Bool × List Rec) → Option (List ℕ) → Type 0
IsStagedWell trail number place want found = Holds want place.bucket found ⊎ ((HasWritten trail (by_job number) place → ⊥) × (found ≡ None))

-- the job of that number is there and was picked
pub record WasPicked (state : State) (number : ℕ) : Type 0 where
  pub job : Job
  pub is : numbered state.jobs number ≡ Some job
  pub picked : IsSome job.watermark

-- where a directory went no file stands, but where one is staged or the table was dropped
abbrev pub StaysGone : State → Tree → DirAt → Type 0
StaysGone state files dir = IsStage dir ⊎ (IsDropped state dir ⊎ (IsLeft state dir × IsFree dir files))

pub record JobMarksStandIn (state : State) (trail : List TrailItem) (files : Tree) : Type 0 where
  pub each : (number : ℕ) (job : Job) (work : IsAtWork state number job) → broken (by_job number) trail ≡ None
      → (name : DirName) (bucket : ℕ) → IsIn name (finals state job work.table.writes)
      → IsStagedWell trail number (staged_at number job name bucket) (wanted job work.table name bucket)
      (tree.get files (staged_at number job name bucket))
  pub picked : (number : ℕ) (place : Place) → HasWritten trail (by_job number) place → WasPicked state number
  pub gone : (dir : DirAt) → HasGone trail dir → StaysGone state files dir

abbrev pub JobMarksStand : List TrailItem → Tree → Type 0
JobMarksStand trail files = JobMarksStandIn (state_at trail) trail files
