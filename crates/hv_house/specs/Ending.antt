-- How an opening ends the jobs that were at work, one after another, and what it leaves where it stops.
use Rattle.std.specs.Prelude.{◌≡◌, ◌⊎◌, ℕ, ◌+◌, ◌≤◌, ◌&&◌, Bool, true, false, Option, Some, None, List, [], ◌∷◌, ◌++◌, length, fold, Result, OnOk, OnErr, IfErr, IsErrOf}
use Rattle.hv_base.specs.Told.{Tells, Moves}
use Rattle.hv_base.specs.Faults.{Rose}
use Rattle.hv_shelf.specs.Disk.{Store, Tree}
use Rattle.hv_history.specs.declared.entry.Entry.{Entry}
use Rattle.hv_history.specs.State.{State, Job, numbered, after, state_of}
use Rattle.hv_history.specs.Journal.{IsJournal}
use Rattle.hv_history.specs.Legal.{is_working}
use Rattle.hv_history.specs.JobsFit.{is_live_job}
use Rattle.hv_finals.specs.hv_law_made.specs.Opening.{is_to_publish, job_ends, failing_dirs, SomeGo, AllGo, JobsGo}
use Rattle.hv_house.specs.declared.boot.BootFault.{BootFault}
use Rattle.hv_house.specs.declared.boot.BootFault.TheVariants as fault
use Rattle.hv_house.specs.declared.house.House.{House}
use Rattle.hv_house.specs.House.{entries_of, IsKept}
use Rattle.hv_house.specs.Steps.{KeepsMarks}

-- ---- the files of one job

abbrev pub IsSame : Tree → Tree → Type 0
IsSame before now = now ≡ before

-- all files go that go where it is given up; some do
abbrev pub JobGoes : List Entry → ℕ → Tree → Tree → Type 0
JobGoes book number before now =
    (job : Job) → numbered (state_of book).jobs number ≡ Some job
    → AllGo (failing_dirs (state_of book) number job) before now

abbrev pub SomeJobGoes : List Entry → ℕ → Tree → Tree → Type 0
SomeJobGoes book number before now =
    (job : Job) → numbered (state_of book).jobs number ≡ Some job
    → SomeGo (failing_dirs (state_of book) number job) before now

-- and the journal stays
pub record JobDirsGo (book : List Entry) (number : ℕ) (before now : Store) : Type 0 where
  pub gone : JobGoes book number before.tree now.tree
  pub journal_is : now.journal ≡ before.journal

pub record SomeJobDirsGo (book : List Entry) (number : ℕ) (before now : Store) : Type 0 where
  pub gone : SomeJobGoes book number before.tree now.tree
  pub journal_is : now.journal ≡ before.journal

-- where it is published none go
abbrev pub GoesAs : List Entry → ℕ → Bool → Tree → Tree → Type 0
GoesAs book number true = IsSame
GoesAs book number false = JobGoes book number

abbrev pub BeginsAs : List Entry → ℕ → Bool → Tree → Tree → Type 0
BeginsAs book number true = IsSame
BeginsAs book number false = SomeJobGoes book number

-- it is at work and not published, and some of its files are gone
pub record IsGivingUp (whole : List ℕ) (state : State) (number : ℕ) (job : Job) (before now : Tree) : Type 0 where
  pub working : is_working job ≡ true
  pub unpublished : (is_live_job state job && is_to_publish whole state number job) ≡ false
  pub some : SomeGo (failing_dirs state number job) before now

-- how the one of that number ends, where it is at work; and what is so before it has
abbrev pub EndGoes : List ℕ → State → ℕ → Option Job → Tree → Tree → Type 0
EndGoes whole state number None = IsSame
EndGoes whole state number (Some job) = JobsGo whole state number (job ∷ [])

abbrev pub EndBegins : List ℕ → State → ℕ → Option Job → Tree → Tree → Type 0
EndBegins whole state number None = IsSame
EndBegins whole state number (Some job) = λ before now. IsSame before now ⊎ IsGivingUp whole state number job before now

-- ---- a step of an opening

-- The files went so, and the journal reads to this book.
abbrev pub Reaches : (Tree → Tree → Type 0) → List Entry → Store → Store → Type 0
Reaches went book before now = went before.tree now.tree × IsJournal book now.journal

-- It stopped: before these entries were noted, or behind them.
abbrev pub StopsAt : (Tree → Tree → Type 0) → (Tree → Tree → Type 0) → List Entry → List Entry → Store → Store → Type 0
StopsAt begins goes book more before now = Reaches begins book before now ⊎ Reaches goes (book ++ more) before now

-- No count falls; where the store failed its count of faults rose, and the hard count did, or this is so.
pub record OpeningCause (Fails : Type 0) (Or : Type 0) (faults faults' hard hard' : ℕ) : Type 0 where
  pub later : faults ≤ faults'
  pub hard_later : hard ≤ hard'
  pub failed : Fails → Rose faults faults'
  pub failed_hard : Fails → Rose hard hard' ⊎ Or

-- the store failed, or memory lacked
abbrev pub EndsBoot : BootFault → Type 0
EndsBoot fault.Store = Unit {0}
EndsBoot fault.NoMemory = Unit {0}
EndsBoot _ = ⊥

abbrev pub IsOne : List Entry → Type 0
IsOne events = (event : Entry) × (events ≡ event ∷ [])

-- What is read of a store: what it tells, its count of faults, and that of the hard ones.
pub record Gauge (D : Type 0) : Type 0 where
  pub told : D → Option Store
  pub faults : D → ℕ
  pub hard : D → ℕ

abbrev pub gauged : {D : Type 0} → (D → Option Store) → (D → ℕ) → (D → ℕ) → Gauge D
gauged told faults hard = record { told = told; faults = faults; hard = hard }

-- How a step ends jobs: how files have gone where it stops before its entries are noted, how they go, and these entries.
pub record EndWay : Type 1 where
  pub begins : Tree → Tree → Type 0
  pub goes : Tree → Tree → Type 0
  pub more : List Entry

abbrev pub ends_by : (Tree → Tree → Type 0) → (Tree → Tree → Type 0) → List Entry → EndWay
ends_by begins goes more = record { begins = begins; goes = goes; more = more }

-- A step that notes these entries, when files have gone so. It fails only where there is one to note, and then for a call on files only before that.
pub record EndStep {D : Type 0} (gauge : Gauge D) (way : EndWay) (before now : House D)
    (result : Result (Unit {0}) BootFault) : Type 0 where
  pub kept : OnOk result (IsKept gauge.told now)
  pub entries : OnOk result (entries_of now ≡ entries_of before ++ way.more)
  pub went : OnOk result (Moves (λ s t. way.goes s.tree t.tree) (gauge.told before.shelf) (gauge.told now.shelf))
  pub stops : OnErr result (Moves (StopsAt way.begins way.goes (entries_of before) way.more) (gauge.told before.shelf)
      (gauge.told now.shelf))
  pub one : OnErr result (IsOne way.more)
  pub ends : IfErr result EndsBoot
  pub marks : KeepsMarks before now
  pub cause : OpeningCause (IsErrOf result fault.Store)
      (Tells (gauge.told now.shelf) (λ t. IsJournal (entries_of before) t.journal)) (gauge.faults before.shelf)
      (gauge.faults now.shelf) (gauge.hard before.shelf) (gauge.hard now.shelf)

-- ---- all jobs

abbrev pub ends_of : List ℕ → List Entry → List Entry
ends_of whole book = job_ends whole (state_of book) 1 (state_of book).jobs

abbrev pub EndsGo : List ℕ → List Entry → Store → Store → Type 0
EndsGo whole book before now = JobsGo whole (state_of book) 1 (state_of book).jobs before.tree now.tree

-- the state behind the ends of the first ones
abbrev pub state_behind : List ℕ → State → List Job → State
state_behind whole state front = fold after state (job_ends whole state 1 front)

-- these have ended, and the next one is being given up
pub record IsGivingNext (whole : List ℕ) (state : State) (front rest : List Job) (before now : Tree) : Type 0 where
  pub job : Job
  pub more : List Job
  pub rest_is : rest ≡ job ∷ more
  pub middle : Tree
  pub goes : JobsGo whole state 1 front before middle
  pub up : IsGivingUp whole (state_behind whole state front) (length front + 1) job middle now

-- It stopped behind the ends of some of them.
pub record EndsStop (whole : List ℕ) (book : List Entry) (before now : Store) : Type 0 where
  pub front : List Job
  pub rest : List Job
  pub parts : (state_of book).jobs ≡ front ++ rest
  pub journal : IsJournal (book ++ job_ends whole (state_of book) 1 front) now.journal
  pub files : JobsGo whole (state_of book) 1 front before.tree now.tree
      ⊎ IsGivingNext whole (state_of book) front rest before.tree now.tree

-- the journal reads to the book with a front of these entries, and there is one more
pub record IsCutBefore (book opening : List Entry) (bytes : List ℕ) : Type 0 where
  pub front : List Entry
  pub next : Entry
  pub more : List Entry
  pub parts : opening ≡ front ++ next ∷ more
  pub journal : IsJournal (book ++ front) bytes

pub record AllEnd {D : Type 0} (gauge : Gauge D) (whole : List ℕ) (before now : House D)
    (result : Result (Unit {0}) BootFault) : Type 0 where
  pub kept : OnOk result (IsKept gauge.told now)
  pub entries : OnOk result (entries_of now ≡ entries_of before ++ ends_of whole (entries_of before))
  pub went : OnOk result (Moves (EndsGo whole (entries_of before)) (gauge.told before.shelf) (gauge.told now.shelf))
  pub stops : OnErr result (Moves (EndsStop whole (entries_of before)) (gauge.told before.shelf) (gauge.told now.shelf))
  pub ends : IfErr result EndsBoot
  pub marks : KeepsMarks before now
  pub cause : OpeningCause (IsErrOf result fault.Store) (Tells (gauge.told now.shelf)
      (λ t. IsCutBefore (entries_of before) (ends_of whole (entries_of before)) t.journal))
      (gauge.faults before.shelf) (gauge.faults now.shelf) (gauge.hard before.shelf) (gauge.hard now.shelf)
