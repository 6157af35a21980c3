-- What keeps the files beside a book with compactions standing: each entry, and each change of the files.
use Rattle.std.specs.Prelude.{◌≡◌, ◌⊎◌, ℕ, ◌+◌, ◌<◌, ◌≤◌, ◌==◌, Bool, true, false, IsSome, Option, Some, None, List, ◌++◌, length, map}
use Rattle.std.specs.List.{list_any, AllByRecursion}
use Rattle.std.specs.FinMap as tree
use Rattle.hv_base.specs.declared.ids.JobId.{JobId}
use Rattle.hv_base.specs.declared.ids.TableId.{TableId}
use Rattle.hv_base.specs.declared.ids.Touch.{Touch}
use Rattle.hv_base.specs.declared.ids.TxnId.{TxnId}
use Rattle.hv_base.specs.declared.ids.WriteId.{WriteId}
use Rattle.hv_shelf.specs.declared.place.Place.{Place}
use Rattle.hv_shelf.specs.Disk.{Tree}
use Rattle.hv_rowfile.specs.declared.record.Rec.{Rec}
use Rattle.hv_dirs.specs.declared.names.DirName.{DirName}
use Rattle.hv_dirs.specs.Names.{IsName, is_compacted, text_of}
use Rattle.hv_stands.specs.hv_history.specs.declared.entry.Entry.{Entry}
use Rattle.hv_stands.specs.hv_history.specs.declared.entry.Entry.TheVariants as entry
use Rattle.hv_stands.specs.hv_history.specs.declared.entry.JobKind.{JobKind}
use Rattle.hv_stands.specs.hv_history.specs.declared.state.Table.{Table}
use Rattle.hv_stands.specs.hv_history.specs.declared.state.Written.{Written}
use Rattle.hv_stands.specs.hv_history.specs.State.{State, Job, numbered, after}
use Rattle.hv_stands.specs.Files.{AreEncoded, IsLoose, IsOwn, IsUndone, ending_of, own_dir}
use Rattle.hv_stands.specs.hv_history.specs.Jobs.{is_job_of, is_past}
use Rattle.hv_stands.specs.hv_history.specs.JobsFit.{PublishedFits}
use Rattle.hv_jobs.specs.Covers.{range_names, job_names, covers}
use Rattle.hv_law_jobs.specs.Sound.{AreSoundJobs}
use Rattle.hv_law_made.specs.Made.{made_recs, made_names, names_in, is_spare, is_gone, jobs_at}
use Rattle.hv_law_made.specs.Named.{AllHaveNames}
use Rattle.hv_law_made.specs.Standing.{HasFile, MayHold, IsStagedAt, is_live_at, Standing}
use Rattle.hv_law_visible.specs.Members.{IsIn}

-- ---- files come and go

-- nothing that has to stand is there
abbrev pub MayGo : State → Place → Type 0
MayGo state place = (made_recs state place ≡ None) ⊎ ((is_spare state place ≡ true) ⊎ (is_live_at state place ≡ false))

-- the place is in an own directory of a write id that isn't committed, or in a staged one
abbrev pub MayCome : State → Place → Type 0
MayCome state place = IsLoose state place ⊎ IsStagedAt state place

-- what stands now at a place where the files changed
abbrev pub MayTurn : State → Place → Option (List ℕ) → Type 0
MayTurn state place None = MayGo state place
MayTurn state place (Some bytes) = MayCome state place

-- Of the files of a book nothing goes that has to stand, and nothing comes but where writes and jobs put.
abbrev pub ChangesStand : Type 0
ChangesStand =
    (state : State) (before now : Tree) → AllHaveNames state
    → ((place : Place) → (tree.get now place ≡ tree.get before place) ⊎ MayTurn state place (tree.get now place))
    → Standing state before → Standing state now

-- The book makes nothing in a directory where writes and jobs put, and nobody's cleaning took it away.
pub record IsUnmade (state : State) (place : Place) : Type 0 where
  pub recs : made_recs state place ≡ None
  pub spare : is_spare state place ≡ false
  pub gone : is_gone state place ≡ false

abbrev pub PutsAreUnmade : Type 0
PutsAreUnmade = (state : State) (place : Place) → AllHaveNames state → MayCome state place → IsUnmade state place

-- ---- an entry

-- at a place where this is made: just its file, or none
abbrev pub Holds : Option (Bool × List Rec) → ℕ → Option (List ℕ) → Type 0
Holds None bucket found = found ≡ None
Holds (Some file) bucket found = HasFile file.0 bucket file.1 found

-- the place is in a directory that a job of its partition makes with this range
pub record IsFinalOf (state : State) (number low high : ℕ) (place : Place) : Type 0 where
  pub job : Job
  pub is : numbered state.jobs number ≡ Some job
  pub here : is_job_of place.table.0 place.partition job ≡ true
  pub name : DirName
  pub among : IsIn name (range_names job.kind low high)
  pub dir : place.dir ≡ text_of name

-- the place is in an own directory of this write id
pub record IsOwnOf (table write : ℕ) (place : Place) : Type 0 where
  pub table_is : place.table.0 ≡ table
  pub deletes : Bool
  pub statement : ℕ
  pub dir : place.dir ≡ own_dir deletes write statement

-- the place is in a directory that the book makes and this job covers
pub record IsCoveredBy (state : State) (number : ℕ) (place : Place) : Type 0 where
  pub job : Job
  pub is : numbered state.jobs number ≡ Some job
  pub here : is_job_of place.table.0 place.partition job ≡ true
  pub table : Table
  pub table_is : numbered state.tables place.table.0 ≡ Some table
  pub name : DirName
  pub among : IsIn name (made_names table.writes (jobs_at state place) place.partition)
  pub dir : place.dir ≡ text_of name
  pub covered : covers job name ≡ true

-- the places of which an entry asks what stands there: its own directories, those that a job publishes, those that it has cleaned, and
-- those of a write id that is forgotten
abbrev pub AsksAt : Entry → State → Place → Type 0
AsksAt (entry.Commit txn wrote) state place = IsOwn state.tables txn.0 place
AsksAt (entry.Create txn table) state place = IsOwn state.tables txn.0 place
AsksAt (entry.Drop txn table) state place = IsOwn state.tables txn.0 place
AsksAt (entry.Published job low high mark) state place = IsFinalOf state job.0 low.0 high.0 place
AsksAt (entry.Cleaned job) state place = IsCoveredBy state job.0 place
AsksAt (entry.Forgot table write) state place = IsOwnOf table.0 write.0 place
AsksAt _ state place = ⊥

-- what it asks for there: the file that the book makes then, and nothing where its directory was removed
abbrev pub wants_at : Entry → State → Place → Option (Bool × List Rec)
wants_at (entry.Cleaned job) state place = None
wants_at event state place = made_recs (after state event) place

-- what a commit inserts is said by files
abbrev pub IsEncodedFor : Entry → State → Type 0
IsEncodedFor (entry.Commit txn wrote) state = AllByRecursion AreEncoded (after state (entry.Commit txn wrote)).tables
IsEncodedFor (entry.Create txn table) state = AllByRecursion AreEncoded (after state (entry.Create txn table)).tables
IsEncodedFor (entry.Drop txn table) state = AllByRecursion AreEncoded (after state (entry.Drop txn table)).tables
IsEncodedFor _ state = Unit {0}

-- what an entry asks of the files
pub record IsFiledFor (event : Entry) (state : State) (files : Tree) : Type 0 where
  pub at : (place : Place) → AsksAt event state place → Holds (wants_at event state place) place.bucket (tree.get files place)
  pub encoded : IsEncodedFor event state

-- The frame of the law on entries: an entry that changes so much, and is filed so, keeps the files standing. What it asks of may have
-- come just before it: a job's directories get their names, and then the book is told.
--
-- What an entry changes at a place, whatever stands there: what it makes anew, what may not hold anything any more, and what it says
-- is empty, is of the places that it asks of.
pub record ChangesAt (state now : State) (Asked : Place → Type 0) : Type 0 where
  -- what was made is made, and what is made anew is at a place that it asks of
  pub stays : (place : Place) (file : Bool × List Rec) → made_recs state place ≡ Some file → made_recs now place ≡ Some file
  pub anew : (place : Place) (file : Bool × List Rec) → made_recs now place ≡ Some file → (made_recs state place ≡ Some file) ⊎ Asked place
  -- what might hold anything still may, but for those places
  pub held : (place : Place) → MayHold state place → MayHold now place ⊎ Asked place
  -- what nobody needs nobody needs later
  pub spared : (place : Place) (file : Bool × List Rec) → made_recs state place ≡ Some file → is_spare state place ≡ true → is_spare now place ≡ true
  -- what was removed is at no other places
  pub emptied : (place : Place) → is_live_at now place ≡ true → is_gone now place ≡ true → (is_gone state place ≡ true) ⊎ Asked place
  pub live : (place : Place) → is_live_at now place ≡ true → is_live_at state place ≡ true
  pub tables : (place : Place) → IsSome (numbered state.tables place.table.0) → IsSome (numbered now.tables place.table.0)

-- At the places that an entry asks of stands what is made there then, and nothing where that is nothing or was removed.
pub record IsAsked (now : State) (Asked : Place → Type 0) (files : Tree) : Type 0 where
  pub whole : (place : Place) → Asked place → is_live_at now place ≡ true → is_spare now place ≡ false → Holds (made_recs now place) place.bucket (tree.get files place)
  pub bare : (place : Place) → Asked place → made_recs now place ≡ None → tree.get files place ≡ None
  pub gone : (place : Place) → Asked place → is_live_at now place ≡ true → is_gone now place ≡ true → tree.get files place ≡ None
  pub tables : (place : Place) → Asked place → IsSome (numbered now.tables place.table.0)
  pub encoded : AllByRecursion AreEncoded now.tables

-- the files are what they were but for these places
abbrev pub AreButFor : (Place → Type 0) → Tree → Tree → Type 0
AreButFor Asked before files = (place : Place) → (tree.get files place ≡ tree.get before place) ⊎ Asked place

-- ---- entries that leave the tables and the jobs as they are

-- what is past stays past, and what isn't committed isn't committed later
pub record IsQuiet (state now : State) : Type 0 where
  pub tables : now.tables ≡ state.tables
  pub jobs : now.jobs ≡ state.jobs
  pub past : (job : Job) → IsIn job state.jobs → is_past state job ≡ true → is_past now job ≡ true
  pub undone : (txn : ℕ) → IsUndone (numbered (map ending_of state.transactions) txn) → IsUndone (numbered (map ending_of now.transactions) txn)

-- an opening, a start, an abort and the like keep all standing
abbrev pub QuietStands : Type 0
QuietStands = (state now : State) (files : Tree) → IsQuiet state now → Standing state files → Standing now files

-- ---- a directory's name is free before a job gives it

-- a name of a compaction's directory that nothing of the partition has yet
pub record IsNewName (state : State) (place : Place) (name : DirName) : Type 0 where
  pub named : IsName name
  pub compacted : is_compacted name ≡ true
  pub dir : place.dir ≡ text_of name
  pub new : (table : Table) → numbered state.tables place.table.0 ≡ Some table → IsIn name (names_in table.writes (jobs_at state place)) → ⊥

abbrev pub NewNamesAreFree : Type 0
NewNamesAreFree =
    (state : State) (files : Tree) (place : Place) (name : DirName) → AllHaveNames state → Standing state files → is_live_at state place ≡ true
    → IsNewName state place name → tree.get files place ≡ None

-- ---- steps of a job

-- the job that was picked, was empty, or failed
abbrev pub stepped_job : Entry → Option ℕ
stepped_job (entry.Picked job watermark) = Some job.0
stepped_job (entry.Empty job) = Some job.0
stepped_job (entry.Failed job cause) = Some job.0
stepped_job _ = None

-- what holds of the names before and behind an entry
pub record KeepsNames (state : State) (event : Entry) : Type 0 where
  pub before : AllHaveNames state
  pub behind : AllHaveNames (after state event)

-- such a step keeps all standing
abbrev pub JobStepsStand : Type 0
JobStepsStand =
    (state : State) (event : Entry) (number : ℕ) (job : Job) (files : Tree) → stepped_job event ≡ Some number → numbered state.jobs number ≡ Some job
    → KeepsNames state event → Standing state files → Standing (after state event) files

-- a job that is past was cleaned, and its directories are empty
abbrev pub CleanedStands : Type 0
CleanedStands =
    (state : State) (job : JobId) (which : Job) (files : Tree) → numbered state.jobs job.0 ≡ Some which → is_past state which ≡ true
    → KeepsNames state (entry.Cleaned job) → IsFiledFor (entry.Cleaned job) state files
    → Standing state files → Standing (after state (entry.Cleaned job)) files

-- a job that is asked for makes nothing
abbrev pub AskedStands : Type 0
AskedStands =
    (state : State) (job : JobId) (table : TableId) (partition : List ℕ) (kind : JobKind) (by : ℕ) (files : Tree)
    → KeepsNames state (entry.Asked job table partition kind by)
    → Standing state files → Standing (after state (entry.Asked job table partition kind by)) files

-- ---- a publication

-- No other job of its partition has a directory of this name, and none that was cleaned covers it.
pub record IsNewFor (state : State) (job : Job) (name : DirName) : Type 0 where
  pub apart : (number : ℕ) (other : Job) → numbered state.jobs number ≡ Some other → is_job_of job.table job.partition other ≡ true → IsIn name (job_names other) → ⊥
  pub uncovered : (number : ℕ) (other : Job) → numbered state.jobs number ≡ Some other → is_job_of job.table job.partition other ≡ true → other.is_cleaned ≡ true
      → covers other name ≡ false

-- a job that isn't published yet, and a range whose directories are new
pub record IsToPublish (state : State) (number low high : ℕ) (job : Job) : Type 0 where
  pub is : numbered state.jobs number ≡ Some job
  pub unpublished : job.published ≡ None
  pub uncleaned : job.is_cleaned ≡ false
  pub new : (name : DirName) → IsIn name (range_names job.kind low high) → IsNewFor state job name

-- Its directories may have come just before the entry.
abbrev pub PublishedStands : Type 0
PublishedStands =
    (state : State) (job : JobId) (low high : WriteId) (mark : TxnId) (which : Job) (before files : Tree) → IsToPublish state job.0 low.0 high.0 which
    → KeepsNames state (entry.Published job low high mark) → AreButFor (AsksAt (entry.Published job low high mark) state) before files
    → IsFiledFor (entry.Published job low high mark) state files
    → Standing state before → Standing (after state (entry.Published job low high mark)) files

-- So it is of each job that may be published in a book whose entries fit.
abbrev pub PublishedNamesAreNew : Type 0
PublishedNamesAreNew =
    (state : State) (number low high mark : ℕ) (job : Job) → AreSoundJobs state → numbered state.jobs number ≡ Some job → PublishedFits state low high mark job
    → IsToPublish state number low high job

-- ---- a write id, an aborted id, a table

abbrev pub GivenStands : Type 0
GivenStands =
    (state : State) (txn : TxnId) (table : TableId) (write : WriteId) (files : Tree)
    → AllHaveNames state → Standing state files → Standing (after state (entry.Given txn table write)) files

-- the id is one of a transaction that was aborted, and wasn't forgotten yet
pub record IsToForget (state : State) (number write : ℕ) (table : Table) : Type 0 where
  pub is : numbered state.tables number ≡ Some table
  pub txn : ℕ
  pub owner : numbered table.owners write ≡ Some txn
  pub undone : IsUndone (numbered (map ending_of state.transactions) txn)
  pub kept : list_any (λ other. other == write) table.forgotten ≡ false

abbrev pub ForgottenStands : Type 0
ForgottenStands =
    (state : State) (table : TableId) (write : WriteId) (which : Table) (files : Tree) → IsToForget state table.0 write.0 which
    → AllHaveNames state → IsFiledFor (entry.Forgot table write) state files
    → Standing state files → Standing (after state (entry.Forgot table write)) files

-- ---- the end of a transaction that is open

abbrev pub IsUnended : State → TxnId → Type 0
IsUnended state txn = numbered (map ending_of state.transactions) txn.0 ≡ Some None

abbrev pub DroppedStands : Type 0
DroppedStands =
    (state : State) (txn : TxnId) (table : TableId) (files : Tree) → IsUnended state txn → AllHaveNames state → IsFiledFor (entry.Drop txn table) state files
    → Standing state files → Standing (after state (entry.Drop txn table)) files

abbrev pub CreatedStands : Type 0
CreatedStands =
    (state : State) (txn : TxnId) (table : TableId) (files : Tree) → IsUnended state txn → AllHaveNames state → IsFiledFor (entry.Create txn table) state files
    → Standing state files → Standing (after state (entry.Create txn table)) files

-- ---- a commit

abbrev pub IsBelow : Option (ℕ × ℕ × ℕ) → ℕ → Type 0
IsBelow None write = Unit {0}
IsBelow (Some range) write = range.1 < write

-- one of its writes is of its own write id, which isn't forgotten
pub record IsNewWrite (txn : ℕ) (before : Table) (written : Written) : Type 0 where
  pub owner : numbered before.owners written.write ≡ Some txn
  pub kept : list_any (λ other. other == written.write) before.forgotten ≡ false

-- behind the commit a table has these writes more
pub record GetsWrites (txn : ℕ) (before table : Table) : Type 0 where
  pub info : table.info ≡ before.info
  pub is_live : table.is_live ≡ before.is_live
  pub owners : table.owners ≡ before.owners
  pub forgotten : table.forgotten ≡ before.forgotten
  pub more : List Written
  pub writes : table.writes ≡ before.writes ++ more
  pub each : (written : Written) → IsIn written more → IsNewWrite txn before written

-- Its transaction is open. What it writes, however many statements of it do, is under write ids of its own; these are above all that jobs of
-- their tables have published.
pub record IsCommitting (state : State) (txn : TxnId) (wrote : List Touch) : Type 0 where
  pub unended : IsUnended state txn
  pub tables : (number : ℕ) (before : Table) → numbered state.tables number ≡ Some before
      → (table : Table) × (numbered (after state (entry.Commit txn wrote)).tables number ≡ Some table) × GetsWrites txn.0 before table
  pub none : (number : ℕ) → numbered state.tables number ≡ None → numbered (after state (entry.Commit txn wrote)).tables number ≡ None
  pub above : (number : ℕ) (before : Table) (write : ℕ) → numbered state.tables number ≡ Some before → numbered before.owners write ≡ Some txn.0
      → (n : ℕ) (job : Job) → numbered state.jobs n ≡ Some job → job.table ≡ number → IsBelow job.published write

abbrev pub CommittedStands : Type 0
CommittedStands =
    (state : State) (txn : TxnId) (wrote : List Touch) (files : Tree) → IsCommitting state txn wrote → KeepsNames state (entry.Commit txn wrote)
    → IsFiledFor (entry.Commit txn wrote) state files
    → Standing state files → Standing (after state (entry.Commit txn wrote)) files

-- ---- the other entries of transactions

-- the mark of a published job is at most this number
abbrev pub IsMarked : ℕ → Option (ℕ × ℕ × ℕ) → Type 0
IsMarked top None = Unit {0}
IsMarked top (Some range) = range.2 ≤ top

-- a transaction that is opened has a number that no mark is above
abbrev pub OpenedStands : Type 0
OpenedStands =
    (state : State) (txn : TxnId) (session : List ℕ) (number : ℕ) (text : List ℕ) (files : Tree)
    → ((job : Job) → IsIn job state.jobs → IsMarked (length state.transactions + 1) job.published)
    → Standing state files → Standing (after state (entry.Opened txn session number text)) files

-- an opening of the store, a start, an abort
abbrev pub is_quiet_entry : Entry → Bool
is_quiet_entry (entry.Boot run) = true
is_quiet_entry (entry.Start txn statement) = true
is_quiet_entry (entry.Abort txn cause) = true
is_quiet_entry _ = false

abbrev pub QuietEntriesStand : Type 0
QuietEntriesStand = (state : State) (event : Entry) (files : Tree) → is_quiet_entry event ≡ true → Standing state files → Standing (after state event) files
