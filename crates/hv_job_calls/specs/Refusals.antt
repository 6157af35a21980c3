-- What calls for jobs test, and what they note.
use Rattle.std.specs.Prelude.{◌≡◌, ◌⊎◌, ℕ, ◌+◌, ◌==◌, Bool, true, false, IsTrue, IsFalse, IsSomeAnd, Option, Some, None, List, length, Result, Ok, Err, Contains}
use Rattle.std.specs.List.{list_any}
use Rattle.hv_base.specs.declared.ids.JobId.{JobId}
use Rattle.hv_base.specs.declared.ids.TableId.{TableId}
use Rattle.hv_shelf.specs.declared.place.DirAt.{DirAt}
use Rattle.hv_shelf.specs.declared.place.Place.{Place}
use Rattle.hv_shelf.specs.Disk.{Tree, places_of}
use Rattle.hv_dirs.specs.declared.names.DirName.{DirName}
use Rattle.hv_dirs.specs.declared.names.DirName.TheVariants as dir_name
use Rattle.hv_dirs.specs.Names.{IsName, text_of}
use Rattle.hv_history.specs.declared.entry.Entry.{Entry}
use Rattle.hv_history.specs.declared.entry.Entry.TheVariants as entry
use Rattle.hv_history.specs.declared.entry.JobKind.{JobKind}
use Rattle.hv_history.specs.declared.state.Table.{Table}
use Rattle.hv_history.specs.State.{State, Job, numbered, state_of}
use Rattle.hv_history.specs.Legal.{is_working}
use Rattle.hv_history.specs.Jobs.{watermark, is_live_one, pieces_for, holder}
use Rattle.hv_history.specs.JobsFit.{OfJob, is_live_job, first_initiated, is_aborted_id}
use Rattle.hv_stands.specs.Files.{own_dir}
use Rattle.hv_jobs.specs.Covers.{covers}
use Rattle.hv_rowfile.specs.declared.record.Rec.{Rec}
use Rattle.hv_law_made.specs.Made.{made_recs, is_spare}
use Rattle.hv_law_made.specs.Standing.{is_live_at}

-- ---- whether the table is live, and whether there is room

abbrev pub is_live_in : State → ℕ → Bool
is_live_in state table = is_live_one (numbered state.tables table)

abbrev pub HasGoneJob : State → ℕ → Type 0
HasGoneJob state job = OfJob state job (λ (j : Job). is_live_job state j ≡ false)

abbrev pub HasLiveJob : State → ℕ → Type 0
HasLiveJob state job = OfJob state job (λ (j : Job). is_live_job state j ≡ true)

-- where its table is live, this holds of the job
abbrev pub IfLive : State → ℕ → (Job → Type 0) → Type 0
IfLive state job P = OfJob state job (λ (j : Job). is_live_job state j ≡ true → P j)

abbrev pub WorksAt : State → ℕ → Type 0
WorksAt state job = OfJob state job (λ (j : Job). IsTrue (is_working j))

-- ---- what is noted

-- the job that is asked for next
abbrev pub asking : List Entry → TableId → List ℕ → JobKind → ℕ → Entry
asking book table partition kind by =
    entry.Asked (record { 0 = length (state_of book).jobs + 1 }) table partition kind by

-- the job that is picked next, where there is one
abbrev pub to_pick : State → Option ℕ
to_pick state = first_initiated state 1 state.jobs

abbrev pub mark_at : State → Option Job → ℕ
mark_at state None = 0
mark_at state (Some j) = watermark state j.table

abbrev pub number_in : Option ℕ → ℕ
number_in None = 0
number_in (Some number) = number

-- it is taken up, with the watermark of its table
abbrev pub picking : List Entry → Entry
picking book =
    entry.Picked (record { 0 = number_in (to_pick (state_of book)) })
    (record { 0 = mark_at (state_of book) (numbered (state_of book).jobs (number_in (to_pick (state_of book)))) })

-- with its range over the book, and the number of the next transaction
abbrev pub published_by : State → JobId → Option Job → Entry
published_by state job None = entry.Empty job
published_by state job (Some j) =
    entry.Published job (record { 0 = (pieces_for state j).low }) (record { 0 = (pieces_for state j).high })
    (record { 0 = length state.transactions + 1 })

abbrev pub publishing_of : List Entry → JobId → Entry
publishing_of book job = published_by (state_of book) job (numbered (state_of book).jobs job.0)

-- nothing was found
abbrev pub IsNone : {T E : Type 0} → Result (Option T) E → Type 0
IsNone (Ok None) = Unit {0}
IsNone (Ok (Some x)) = ⊥
IsNone (Err why) = ⊥

-- what was found is so
abbrev pub IfFound : {T E : Type 0} → Result (Option T) E → (T → Type 0) → Type 0
IfFound (Ok None) P = Unit {0}
IfFound (Ok (Some x)) P = P x
IfFound (Err why) P = Unit {0}

-- ---- who needs what a job covers

abbrev pub holder_by : State → Option (ℕ × ℕ × ℕ) → Option ℕ
holder_by state None = None
holder_by state (Some range) = holder state range.2

-- this open transaction is the lowest below its mark
abbrev pub IsHeldBy : State → ℕ → ℕ → Type 0
IsHeldBy state job txn =
    OfJob state job (λ (j : Job). (is_live_job state j ≡ true) × (holder_by state j.published ≡ Some txn))

-- the directory is one that the job covers, in its partition
pub record IsCoveredDir (dir : DirAt) (job : Job) : Type 0 where
  pub table_is : dir.table.0 ≡ job.table
  pub partition_is : dir.partition ≡ job.partition
  pub name : DirName
  pub named : IsName name
  pub text : dir.dir ≡ text_of name
  pub covered : covers job name ≡ true

-- ---- an aborted write id

abbrev pub IsLostId : State → ℕ → Table → Type 0
IsLostId state write table = IsTrue (is_aborted_id state.transactions (numbered table.owners write))

abbrev pub IsKeptId : ℕ → Table → Type 0
IsKeptId write table = IsFalse (list_any (λ other. other == write) table.forgotten)

-- the id is aborted in that table; and it isn't forgotten there
abbrev pub IsLostIn : State → ℕ → ℕ → Type 0
IsLostIn state table write = IsSomeAnd (numbered state.tables table) (IsLostId state write)

abbrev pub CanForget : State → ℕ → ℕ → Type 0
CanForget state table write =
    IsSomeAnd (numbered state.tables table) (λ (t : Table). IsLostId state write t × IsKeptId write t)

-- the text is that of an own directory of the id
pub record IsOwnText (write : ℕ) (text : List ℕ) : Type 0 where
  pub deletes : Bool
  pub statement : ℕ
  pub is : text ≡ own_dir deletes write statement

-- such a directory is listed; none is
pub record IsListedOwn (table : TableId) (write : ℕ) (dir : List ℕ) (files : Tree) : Type 0 where
  pub own : IsOwnText write dir
  pub place : Place
  pub listed : Contains (places_of table files) place
  pub there : place.dir ≡ dir

abbrev pub IsUnlisted : TableId → ℕ → Tree → Type 0
IsUnlisted table write files = (place : Place) → Contains (places_of table files) place → IsOwnText write place.dir → ⊥

-- ---- staged directories

-- the text is that of a directory that this job stages
pub record IsStagedText (number : ℕ) (text : List ℕ) : Type 0 where
  pub name : List ℕ
  pub named : IsName (dir_name.Staged (record { 0 = number }) name)
  pub is : text ≡ text_of (dir_name.Staged (record { 0 = number }) name)

-- the directory is a staged one, or its table was dropped
abbrev pub CanSweep : State → DirAt → Type 0
CanSweep state dir = ((number : ℕ) × IsStagedText number dir.dir)
    ⊎ IsSomeAnd (numbered state.tables dir.table.0) (λ (t : Table). t.is_live ≡ false)

-- the job that stages there is at work, and its table is live
pub record IsWorkingStage (state : State) (dir : DirAt) (number : ℕ) : Type 0 where
  pub staged : IsStagedText number dir.dir
  pub works : OfJob state number (λ (j : Job). IsTrue (is_working j) × (is_live_job state j ≡ true))

-- ---- files that a job reads

-- the book makes this file there, and nobody's removal may have taken it
pub record IsStandingAt (state : State) (place : Place) (deletes : Bool) (recs : List Rec) : Type 0 where
  pub live : is_live_at state place ≡ true
  pub kept : is_spare state place ≡ false
  pub made : made_recs state place ≡ Some (deletes, recs)
