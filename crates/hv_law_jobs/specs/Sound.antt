-- What holds of the compaction jobs of every book whose entries fit: their ranges are of write ids that have ended, and of two jobs of
-- a partition the later one reaches further. So the directories that a job makes have names of their own, and nobody's cleaning is
-- of them.
-- Source: Hive Transactions, compactor and cleaner.
use Rattle.std.specs.Prelude.{◌≡◌, ℕ, ◌+◌, ◌<◌, ◌≤◌, ◌==◌, Bool, true, false, IsSome, Option, Some, None, List, [], ◌∷◌, length}
use Rattle.std.specs.List.{list_any, AllByRecursion}
use Rattle.hv_base.specs.declared.ids.Limits.{Limits}
use Rattle.hv_history.specs.declared.entry.Entry.{Entry}
use Rattle.hv_history.specs.declared.entry.JobKind.{JobKind}
use Rattle.hv_history.specs.declared.entry.JobKind.TheVariants.{Minor, Major}
use Rattle.hv_history.specs.declared.state.Table.{Table}
use Rattle.hv_history.specs.declared.state.Transaction.{Transaction}
use Rattle.hv_history.specs.State.{State, Job, numbered, after, nothing_yet, state_of}
use Rattle.hv_history.specs.Jobs.{Events, is_job_of, is_kind, is_busy, events_in, watermark}
use Rattle.hv_history.specs.JobsFit.{PublishedFits}
use Rattle.hv_history.specs.Legal.{Fits, AllFit}

-- ---- one job

abbrev pub is_of_write : ℕ → Events → Bool
is_of_write write events = events.write == write

-- All write ids up to its end were given and have ended, and a commit of that id touched the partition. Its mark is the number of
-- a transaction that was opened, or that is opened next.
pub record IsSoundRange (state : State) (table : ℕ) (partition : List ℕ) (low high mark : ℕ) : Type 0 where
  pub first : 1 ≤ low
  pub order : low ≤ high
  pub ended : high ≤ watermark state table
  pub touched : list_any (is_of_write high) (events_in state table partition) ≡ true
  pub opened : (1 ≤ mark) × (mark ≤ length state.transactions + 1)

abbrev pub HasSoundRange : State → Job → Option (ℕ × ℕ × ℕ) → Type 0
HasSoundRange state job None = Unit {0}
HasSoundRange state job (Some range) = IsSoundRange state job.table job.partition range.0 range.1 range.2

-- it works up to its watermark
abbrev pub IsUnder : Option ℕ → Option (ℕ × ℕ × ℕ) → Type 0
IsUnder watermark None = Unit {0}
IsUnder None (Some range) = ⊥
IsUnder (Some mark) (Some range) = range.1 ≤ mark

pub record IsSoundJob (state : State) (job : Job) : Type 0 where
  pub table : IsSome (numbered state.tables job.table)
  pub range : HasSoundRange state job job.published
  pub under : IsUnder job.watermark job.published
  pub mark : (mark : ℕ) → job.watermark ≡ Some mark → mark ≤ watermark state job.table
  pub cleaned : job.is_cleaned ≡ true → IsSome job.published

-- ---- two jobs of a partition

abbrev pub IsAboveBase : JobKind → JobKind → ℕ → ℕ → Type 0
IsAboveBase Major Minor high low = high < low
IsAboveBase before later high low = Unit {0}

-- the later one reaches further: beyond one of its own kind, and as a minor one it begins above a base
pub record ReachesFurther (before later : JobKind) (range next : ℕ × ℕ × ℕ) : Type 0 where
  pub marks : range.2 ≤ next.2
  pub ends : range.1 ≤ next.1
  pub beyond : is_kind before later ≡ true → range.1 < next.1
  pub above : IsAboveBase before later range.1 next.0

abbrev pub GoFurther : JobKind → JobKind → Option (ℕ × ℕ × ℕ) → Option (ℕ × ℕ × ℕ) → Type 0
GoFurther before later (Some range) (Some next) = ReachesFurther before later range next
GoFurther before later range next = Unit {0}

-- what was published before a job was picked lies below its watermark
abbrev pub IsBelowMark : Option (ℕ × ℕ × ℕ) → Option ℕ → Type 0
IsBelowMark (Some range) (Some mark) = range.1 ≤ mark
IsBelowMark range mark = Unit {0}

-- the earlier one isn't busy any more
pub record IsFollowed (before later : Job) : Type 0 where
  pub over : is_busy before ≡ false
  pub further : GoFurther before.kind later.kind before.published later.published
  pub below : IsBelowMark before.published later.watermark

abbrev pub IsFollowedIn : Job → Job → Type 0
IsFollowedIn before later = is_job_of before.table before.partition later ≡ true → IsFollowed before later

abbrev pub AreInOrder : List Job → Type 0
AreInOrder [] = Unit {0}
AreInOrder (job ∷ jobs) = AllByRecursion (IsFollowedIn job) jobs × AreInOrder jobs

-- each write id was given to a transaction that is there
abbrev pub IsOpened : List Transaction → ℕ → Type 0
IsOpened transactions txn = IsSome (numbered transactions txn)

abbrev pub HasOpened : List Transaction → Table → Type 0
HasOpened transactions table = AllByRecursion (IsOpened transactions) table.owners

abbrev pub AreOwned : State → Type 0
AreOwned state = AllByRecursion (HasOpened state.transactions) state.tables

pub record AreSoundJobs (state : State) : Type 0 where
  pub each : AllByRecursion (IsSoundJob state) state.jobs
  pub order : AreInOrder state.jobs
  pub owned : AreOwned state

-- ---- laws

-- each entry that fits keeps it
abbrev pub JobsGoOn : Type 0
JobsGoOn = (limits : Limits) (state : State) (event : Entry) → Fits limits state event → AreSoundJobs state → AreSoundJobs (after state event)

-- so it holds of every book whose entries fit
abbrev pub JobsAreSound : Type 0
JobsAreSound = (limits : Limits) (book : List Entry) → AllFit limits nothing_yet book → AreSoundJobs (state_of book)

-- a published job that has this name for one of its directories, or covers a directory of it
abbrev pub IsOfJobs : State → Job → (JobKind → ℕ → ℕ → Type 0) → Type 0
IsOfJobs state job Has =
    (number : ℕ) (other : Job) (range : ℕ × ℕ × ℕ) → numbered state.jobs number ≡ Some other → is_job_of job.table job.partition other ≡ true
    → other.published ≡ Some range → Has other.kind range.0 range.1

-- what a job is about to publish reaches beyond all that is published in its partition
abbrev pub PublishedGoFurther : Type 0
PublishedGoFurther =
    (state : State) (number low high mark : ℕ) (job : Job) → AreSoundJobs state → numbered state.jobs number ≡ Some job → PublishedFits state low high mark job
    → IsSoundRange state job.table job.partition low high mark
    × IsOfJobs state job (λ kind first last. ReachesFurther kind job.kind (first, last, mark) (low, high, mark))
