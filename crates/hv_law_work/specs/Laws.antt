-- What is proved of jobs at work and of directories that go: what a job wants stays while it works, and each step of a house keeps what
-- stands and what marks say.
use Rattle.std.specs.Prelude.{◌≡◌, ◌⊎◌, ℕ, ◌+◌, ◌<◌, Bool, true, false, Option, Some, None, List, [], ◌∷◌, ◌++◌, length, map}
use Rattle.std.specs.FinMap as tree
use Rattle.hv_base.specs.declared.ids.JobId.{JobId}
use Rattle.hv_base.specs.declared.ids.Limits.{Limits}
use Rattle.hv_shelf.specs.declared.place.DirAt.{DirAt}
use Rattle.hv_shelf.specs.declared.place.Place.{Place}
use Rattle.hv_shelf.specs.Disk.{Tree, Store}
use Rattle.hv_dirs.specs.declared.names.DirName.{DirName}
use Rattle.hv_dirs.specs.Names.{write_end}
use Rattle.hv_logic.specs.declared.catalog.TableInfo.{TableInfo}
use Rattle.hv_logic.specs.declared.effect.Effect.{Effect}
use Rattle.hv_history.specs.declared.entry.Entry.{Entry}
use Rattle.hv_history.specs.declared.entry.Entry.TheVariants as entry
use Rattle.hv_history.specs.declared.state.Table.{Table}
use Rattle.hv_history.specs.State.{State, Job, nothing_yet, numbered, after, state_of}
use Rattle.hv_history.specs.Legal.{is_working, Fits, AllFit}
use Rattle.hv_history.specs.Jobs.{pieces_for, jobs_in}
use Rattle.hv_history.specs.JobsFit.{is_live_job}
use Rattle.hv_stands.specs.Files.{ending_of}
use Rattle.hv_stands.specs.Running.{IsOfId}
use Rattle.hv_jobs.specs.Covers.{covers}
use Rattle.hv_jobs.specs.Covered.{covered_names}
use Rattle.hv_law_visible.specs.Members.{IsIn}
use Rattle.hv_law_marks.specs.hv_law_filed.specs.hv_law_made.specs.Made.{made_names}
use Rattle.hv_law_marks.specs.hv_law_filed.specs.hv_law_made.specs.Laws.{IsFiledFor}
use Rattle.hv_law_marks.specs.hv_law_filed.specs.hv_law_made.specs.Standing.{Standing}
use Rattle.hv_law_marks.specs.hv_law_filed.specs.hv_law_made.specs.Entries.{IsSoundBook, publishing, finals, AreStaged, AreRenamed, IsAtWork}
use Rattle.hv_law_marks.specs.hv_law_filed.specs.hv_law_made.specs.Opening.{SomeGo, AllGo}
use Rattle.hv_law_marks.specs.Marked.{IsChanging, IsOwnPlace, MarksStand}
use Rattle.hv_trail.specs.declared.trail.Reader.{Reader}
use Rattle.hv_trail.specs.declared.trail.Reader.TheVariants as reader
use Rattle.hv_trail.specs.declared.trail.Mark.TheVariants.{Wrote, Went, Broke}
use Rattle.hv_trail.specs.declared.trail.TrailItem.{TrailItem}
use Rattle.hv_trail.specs.declared.trail.TrailItem.TheVariants.{Noted, Marked}
use Rattle.hv_trail.specs.Trail.{book_of, state_at, broken}
use Rattle.hv_law_work.specs.Work.{by_job, wanted, IsJobFile, IsStagedFile, AreStagedAll, AreGone}
use Rattle.hv_law_work.specs.Marks.{MayGoNow, JobMarksStand}

-- the book of the trail fits, and its write ids have names, and so have two more
pub record IsShort (limits : Limits) (trail : List TrailItem) : Type 0 where
  pub fit : AllFit limits nothing_yet (book_of trail)
  pub few : length (book_of trail) + 2 < write_end

-- ---- what a job wants

-- it was at work before, and wanted the same
pub record StillWants (state now : State) (number : ℕ) (job : Job) (after_ : IsAtWork now number job) : Type 0 where
  pub work : IsAtWork state number job
  pub pieces : pieces_for now job ≡ pieces_for state job
  pub finals_are : finals now job after_.table.writes ≡ finals state job work.table.writes
  pub wants : (name : DirName) (bucket : ℕ) → IsIn name (finals state job work.table.writes)
      → wanted job after_.table name bucket ≡ wanted job work.table name bucket

-- it has just been picked
pub record IsJustPicked (state : State) (number : ℕ) : Type 0 where
  pub job : Job
  pub is : numbered state.jobs number ≡ Some job
  pub none : job.watermark ≡ None

-- While a job is at work it wants the same behind each entry that fits.
abbrev pub WantsStay : Type 0
WantsStay =
    (limits : Limits) (state : State) (event : Entry) (number : ℕ) (job : Job) (work : IsAtWork (after state event) number job)
    → Fits limits state event → state.entries + 1 < write_end → IsSoundBook state
    → StillWants state (after state event) number job work ⊎ IsJustPicked state number

-- So what is to be staged stays so, and what was staged.
abbrev pub JobFileLasts : Type 0
JobFileLasts =
    (limits : Limits) (state : State) (event : Entry) (number : ℕ) (job : Job) (name : DirName) (bucket : ℕ) (bytes : List ℕ)
    → IsAtWork (after state event) number job → Fits limits state event → state.entries + 1 < write_end → IsSoundBook state
    → IsJobFile state number name bucket bytes → IsJobFile (after state event) number name bucket bytes

abbrev pub StagedLasts : Type 0
StagedLasts =
    (limits : Limits) (trail more : List TrailItem) (state : State) (event : Entry) (number : ℕ) (job : Job)
    (work : IsAtWork state number job) (now : IsAtWork (after state event) number job)
    → Fits limits state event → state.entries + 1 < write_end → IsSoundBook state
    → AreStagedAll trail state number job work.table → AreStagedAll (trail ++ more) (after state event) number job now.table

-- ---- what stands

-- a file of a job is put, or that fails and leaves anything there
abbrev pub StagedPutsStand : Type 0
StagedPutsStand =
    (state : State) (number : ℕ) (place : Place) (bytes : List ℕ) (before now : Tree) → state.entries + 1 < write_end → IsSoundBook state
    → IsStagedFile state number place bytes
    → ((other : Place) → (other ≡ place → ⊥) → tree.get now other ≡ tree.get before other)
    → Standing state before → Standing state now

-- files of a directory that may go are taken away, all or some
abbrev pub GoneStand : Type 0
GoneStand =
    (state : State) (dir : DirAt) (before now : Tree) → state.entries + 1 < write_end → IsSoundBook state → MayGoNow state dir
    → SomeGo (dir ∷ []) before now → Standing state before → Standing state now

-- Where all files of a job at work have marks, its directories are staged.
abbrev pub MarkedIsStaged : Type 0
MarkedIsStaged =
    (trail : List TrailItem) (files : Tree) (number : ℕ) (job : Job) (work : IsAtWork (state_at trail) number job)
    → (state_at trail).entries + 1 < write_end → IsSoundBook (state_at trail) → broken (by_job number) trail ≡ None
    → AreStagedAll trail (state_at trail) number job work.table → JobMarksStand trail files
    → AreStaged (state_at trail) number job (finals (state_at trail) job work.table.writes) files

-- what of the covered directories is made is said by commits: each made name that a job covers is one of those
abbrev pub SaysCovered : State → Job → Type 0
SaysCovered state job =
    (table : Table) → numbered state.tables job.table ≡ Some table → (name : DirName)
    → IsIn name (made_names table.writes (jobs_in state job.table job.partition) job.partition) → covers job name ≡ true
    → IsIn name (covered_names state job)

-- Where all of them have marks, no file stands of what a job covers.
abbrev pub GoneIsFiled : Type 0
GoneIsFiled =
    (trail : List TrailItem) (files : Tree) (job : JobId) (which : Job) → (state_at trail).entries + 1 < write_end → IsSoundBook (state_at trail)
    → numbered (state_at trail).jobs job.0 ≡ Some which → is_live_job (state_at trail) which ≡ true
    → SaysCovered (state_at trail) which → AreGone trail (state_at trail) which → Standing (state_at trail) files → JobMarksStand trail files
    → IsFiledFor (entry.Cleaned job) (state_at trail) files

-- ---- marks of transactions

-- an item that is no entry, and no mark of a file of a transaction
abbrev pub IsNoPut : TrailItem → Type 0
IsNoPut (Marked (Wrote (reader.Txn by) place)) = ⊥
IsNoPut (Noted event) = ⊥
IsNoPut item = Unit {0}

-- where a transaction is changing rows the files of its write id are as they were
abbrev pub KeepsChanges : State → Tree → Tree → Type 0
KeepsChanges state before now =
    (txn : ℕ) (info : TableInfo) (effect : Effect) (write : ℕ) → IsChanging state txn info effect write
    → (place : Place) → IsOfId info.table.0 write place → tree.get now place ≡ tree.get before place

abbrev pub OthersKeepMarks : Type 0
OthersKeepMarks =
    (trail : List TrailItem) (item : TrailItem) (before now : Tree) → IsNoPut item → KeepsChanges (state_at trail) before now
    → MarksStand trail before → MarksStand (trail ++ item ∷ []) now

-- a file of a job is put, or that fails
abbrev pub StagedKeepsChanges : Type 0
StagedKeepsChanges =
    (state : State) (number : ℕ) (place : Place) (bytes : List ℕ) (before now : Tree) → state.entries + 1 < write_end → IsSoundBook state
    → IsStagedFile state number place bytes
    → ((other : Place) → (other ≡ place → ⊥) → tree.get now other ≡ tree.get before other) → KeepsChanges state before now

-- files of a directory that may go are taken away
abbrev pub GoneKeepsChanges : Type 0
GoneKeepsChanges =
    (limits : Limits) (trail : List TrailItem) (dir : DirAt) (before now : Tree) → IsShort limits trail → MayGoNow (state_at trail) dir
    → SomeGo (dir ∷ []) before now → KeepsChanges (state_at trail) before now

-- a publication
abbrev pub PublishedKeepsMarks : Type 0
PublishedKeepsMarks =
    (limits : Limits) (trail : List TrailItem) (number : ℕ) (job : Job) (work : IsAtWork (state_at trail) number job) (before now : Store)
    → IsShort limits trail
    → AreRenamed number job (finals (state_at trail) job work.table.writes) before now
    → MarksStand trail before.tree → MarksStand (trail ++ Noted (publishing (state_at trail) number job) ∷ []) now.tree

-- ---- marks of jobs

abbrev pub OpenedJobMarks : Type 0
OpenedJobMarks =
    (book : List Entry) (files : Tree) → ((number : ℕ) (job : Job) → numbered (state_of book).jobs number ≡ Some job → is_working job ≡ true → ⊥)
    → JobMarksStand (map Noted book) files

-- an entry that fits
abbrev pub NotedJobMarks : Type 0
NotedJobMarks =
    (limits : Limits) (trail : List TrailItem) (event : Entry) (files : Tree)
    → IsShort limits trail → Fits limits (state_at trail) event
    → Standing (state_at trail) files → JobMarksStand trail files → JobMarksStand (trail ++ Noted event ∷ []) files

-- an item of that transaction: a mark of a file, or of a call that failed
abbrev pub IsOfTxn : ℕ → TrailItem → Type 0
IsOfTxn txn (Marked (Wrote (reader.Txn by) place)) = by.0 ≡ txn
IsOfTxn txn (Marked (Broke (Some (reader.Txn by)) put count)) = by.0 ≡ txn
IsOfTxn txn item = ⊥

abbrev pub IsOpenIn : State → ℕ → Type 0
IsOpenIn state txn = numbered (map ending_of state.transactions) txn ≡ Some None

-- a put of a transaction in an own directory, whatever it leaves there
abbrev pub OwnJobMarks : Type 0
OwnJobMarks =
    (limits : Limits) (trail : List TrailItem) (before now : Tree) (txn : ℕ) (place : Place) (item : TrailItem)
    → IsShort limits trail → IsOwnPlace (state_at trail).tables txn place → IsOfTxn txn item
    → IsOpenIn (state_at trail) txn
    → ((other : Place) → (other ≡ place → ⊥) → tree.get now other ≡ tree.get before other)
    → JobMarksStand trail before → JobMarksStand (trail ++ item ∷ []) now

-- a file of a job that is put
abbrev pub PutJobMarks : Type 0
PutJobMarks =
    (limits : Limits) (trail : List TrailItem) (files : Tree) (number : ℕ) (place : Place) (bytes : List ℕ)
    → IsShort limits trail → IsStagedFile (state_at trail) number place bytes
    → JobMarksStand trail files → JobMarksStand (trail ++ Marked (Wrote (by_job number) place) ∷ []) (tree.insert files place bytes)

-- one that failed
abbrev pub BrokenJobMarks : Type 0
BrokenJobMarks =
    (limits : Limits) (trail : List TrailItem) (before now : Tree) (number : ℕ) (place : Place) (bytes : List ℕ) (count : ℕ)
    → IsShort limits trail → IsStagedFile (state_at trail) number place bytes
    → ((other : Place) → (other ≡ place → ⊥) → tree.get now other ≡ tree.get before other)
    → JobMarksStand trail before → JobMarksStand (trail ++ Marked (Broke (Some (by_job number)) true count) ∷ []) now

-- a call that failed and left the files as they are
abbrev pub UnreadJobMarks : Type 0
UnreadJobMarks =
    (trail : List TrailItem) (files : Tree) (by : Option Reader) (put : Bool) (count : ℕ)
    → JobMarksStand trail files → JobMarksStand (trail ++ Marked (Broke by put count) ∷ []) files

-- a directory that went
abbrev pub WentJobMarks : Type 0
WentJobMarks =
    (limits : Limits) (trail : List TrailItem) (before now : Tree) (dir : DirAt)
    → IsShort limits trail → MayGoNow (state_at trail) dir → AllGo (dir ∷ []) before now
    → JobMarksStand trail before → JobMarksStand (trail ++ Marked (Went dir) ∷ []) now

-- or of which some files did
abbrev pub TornJobMarks : Type 0
TornJobMarks =
    (limits : Limits) (trail : List TrailItem) (before now : Tree) (dir : DirAt) (count : ℕ)
    → IsShort limits trail → MayGoNow (state_at trail) dir → SomeGo (dir ∷ []) before now
    → JobMarksStand trail before → JobMarksStand (trail ++ Marked (Broke None false count) ∷ []) now

-- a publication
abbrev pub PublishedJobMarks : Type 0
PublishedJobMarks =
    (limits : Limits) (trail : List TrailItem) (number : ℕ) (job : Job) (work : IsAtWork (state_at trail) number job) (before now : Store)
    → IsShort limits trail
    → AreStaged (state_at trail) number job (finals (state_at trail) job work.table.writes) before.tree
    → AreRenamed number job (finals (state_at trail) job work.table.writes) before now
    → Standing (state_at trail) before.tree
    → JobMarksStand trail before.tree → JobMarksStand (trail ++ Noted (publishing (state_at trail) number job) ∷ []) now.tree
