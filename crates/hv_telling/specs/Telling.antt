-- A house whose store tells its contents: what is true of it between two calls, and what is asked of what it notes and puts.
-- Source: Hive Transactions; that marks say which files were put is this project's profile.
use Rattle.std.specs.Prelude.{◌≡◌, ◌⊎◌, ℕ, true, Option, Some, None, IsSomeAnd, List, [], ◌∷◌, ◌++◌, map, take, Contains}
use Rattle.std.specs.List.{AllByRecursion}
use Rattle.std.specs.FinMap as tree
use Rattle.hv_base.specs.declared.ids.JobId.{JobId}
use Rattle.hv_base.specs.declared.ids.TxnId.{TxnId}
use Rattle.hv_shelf.specs.declared.place.Place.{Place}
use Rattle.hv_shelf.specs.Disk.{Tree, Store}
use Rattle.hv_ast.specs.declared.statement.Stmt.{Stmt}
use Rattle.hv_logic.specs.declared.catalog.TableInfo.{TableInfo}
use Rattle.hv_logic.specs.declared.effect.Effect.{Effect}
use Rattle.hv_logic.specs.declared.meaning.Meaning.TheVariants.{Change}
use Rattle.hv_route.specs.Back.{AreHeld}
use Rattle.hv_route.specs.Routes.{files_of}
use Rattle.hv_route.specs.declared.files.OutFile.{OutFile}
use Rattle.hv_history.specs.declared.entry.Entry.{Entry}
use Rattle.hv_history.specs.declared.entry.Entry.TheVariants as entry
use Rattle.hv_history.specs.State.{State, Job, numbered, state_of}
use Rattle.hv_history.specs.Legal.{IsTruthful}
use Rattle.hv_history.specs.JobsFit.{is_live_job}
use Rattle.hv_stands.specs.Files.{place_of_file}
use Rattle.hv_stands.specs.Laws.{HasFile}
use Rattle.hv_stands.specs.Running.{Asking, meant, IsUnderWay}
use Rattle.hv_house.specs.hv_finals.specs.hv_law_made.specs.Laws.{IsOwnOf}
use Rattle.hv_house.specs.hv_finals.specs.hv_law_made.specs.Entries.{publishing, finals, IsAtWork}
use Rattle.hv_trail.specs.declared.trail.Renaming.{Renaming}
use Rattle.hv_trail.specs.declared.trail.TrailItem.{TrailItem}
use Rattle.hv_trail.specs.Trail.{broken}
use Rattle.hv_trail.specs.Kept.{trail_of}
use Rattle.hv_law_work.specs.hv_law_marks.specs.Marked.{MarksStand}
use Rattle.hv_law_work.specs.Work.{by_job, renaming_of, AreStagedAll, AreGone}
use Rattle.hv_law_work.specs.Marks.{JobMarksStand}
use Rattle.hv_house.specs.declared.fault.HouseFault.{HouseFault}
use Rattle.hv_house.specs.declared.fault.HouseFault.TheVariants as fault
use Rattle.hv_house.specs.declared.house.House.{House}
use Rattle.hv_house.specs.declared.publishing.PublishFault.{PublishFault}
use Rattle.hv_house.specs.declared.publishing.PublishFault.TheVariants as publish_fault
use Rattle.hv_house.specs.House.{entries_of, IsReady, IsFaithful}
use Rattle.hv_house.specs.Booting.{OpensTo}
use Rattle.hv_house.specs.Steps.{AreWritten}

-- ---- a house that is told

-- The store that a house was opened over told its contents: a journal of a legal book, and files as a run leaves them. No call changes what
-- a house was opened over.
pub record IsTold {D : Type 0} (told : D → Option Store) (start : D) : Type 0 where
  pub store : Store
  pub tells : told start ≡ Some store
  pub book : List Entry
  pub opens : OpensTo book store

abbrev pub IsToldHouse : {D : Type 0} → (D → Option Store) → House D → Type 0
IsToldHouse told house = IsTold told house.start.value

-- The book is legal and its files stand; in the own directories of open transactions that change rows, and where compactions at work stage,
-- stand just the files that have marks; and where a directory went that nobody writes any more no file stands.
pub record StandsByMarks (trail : List TrailItem) (book : List Entry) (store : Store) : Type 0 where
  pub faithful : IsFaithful book store
  pub marks : MarksStand trail store.tree
  pub jobs : JobMarksStand trail store.tree

-- the house's store tells, and is so
unfoldable pub HoldsTrue : {D : Type 0} → (D → Option Store) → House D → Type 0
HoldsTrue told house = IsSomeAnd (told house.shelf) (StandsByMarks (trail_of house.trail) (entries_of house))

-- between two calls: it is ready, and where it is told its store is so
pub record IsWhole {D : Type 0} (told : D → Option Store) (house : House D) : Type 0 where
  pub ready : IsReady told house
  pub truly : IsToldHouse told house → HoldsTrue told house

-- behind a fault the house is whole still, but where its journal failed, or its count of faults is the last one
abbrev pub StaysWhole : {D : Type 0} → (D → Option Store) → HouseFault → House D → Type 0
StaysWhole told fault.Store now = Unit {0}
StaysWhole told fault.NoMemory now = IsWhole told now
StaysWhole told (fault.Failed count) now = IsWhole told now

-- ---- what it leaves where it stops

-- the store opens to a book that begins with this one
pub record OpensLater (start : List Entry) (store : Store) : Type 0 where
  pub book : List Entry
  pub opens : OpensTo book store
  pub begins : (more : List Entry) × (book ≡ start ++ more)

-- What the house leaves behind a stop tells and opens again: to its book, or to that and what was being noted.
unfoldable pub StillOpens : {D : Type 0} → (D → Option Store) → House D → Type 0
StillOpens told now = IsSomeAnd (told now.shelf) (OpensLater (entries_of now))

-- ---- what is true of an entry where it is noted

-- its statement is under way, and has no write id
pub record HasNoId (book : List Entry) (txn : TxnId) : Type 0 where
  pub asking : Asking
  pub place : ℕ
  pub said : Stmt
  pub under_way : IsUnderWay book asking txn.0 place said []

-- its statement is under way and means this change, and each file of it was put under its write id
pub record IsPutAsMeant (book : List Entry) (trail : List TrailItem) (txn : TxnId) : Type 0 where
  pub asking : Asking
  pub place : ℕ
  pub said : Stmt
  pub info : TableInfo
  pub effect : Effect
  pub write : ℕ
  pub under_way : IsUnderWay book asking txn.0 place said ((info.table.0, write) ∷ [])
  pub means : meant (take place book) said ≡ Some (Change info effect)
  pub files : AreWritten trail txn info effect write
  pub held : AreHeld effect.inserts
  pub encoded : AllByRecursion HasFile (files_of info.shape write 0 effect)

-- its table is live, and all that it covers has marks as gone
pub record IsGoneFor (state : State) (trail : List TrailItem) (job : JobId) : Type 0 where
  pub which : Job
  pub is : numbered state.jobs job.0 ≡ Some which
  pub live : is_live_job state which ≡ true
  pub gone : AreGone trail state which

-- What it says of its transaction is so; and what ends one as committed has no write id, or the files of what it means. What says that a job
-- was cleaned has the marks of its directories. What publishes or forgets asks of files too, and is for calls of its own.
abbrev pub IsTrueNow : List Entry → List TrailItem → Entry → Type 0
IsTrueNow book trail (entry.Commit txn wrote) =
    IsTruthful (state_of book) (entry.Commit txn wrote) × (HasNoId book txn ⊎ IsPutAsMeant book trail txn)
IsTrueNow book trail (entry.Create txn table) = IsTruthful (state_of book) (entry.Create txn table) × HasNoId book txn
IsTrueNow book trail (entry.Drop txn table) = IsTruthful (state_of book) (entry.Drop txn table) × HasNoId book txn
IsTrueNow book trail (entry.Published job low high mark) = ⊥
IsTrueNow book trail (entry.Cleaned job) = IsGoneFor (state_of book) trail job
IsTrueNow book trail (entry.Forgot table write) = ⊥
IsTrueNow book trail event = IsTruthful (state_of book) event

-- ---- what is true of what a job does

-- The job is at work and all that it stages has marks, by calls of which none failed: these are its renamings, and with this entry it is
-- published then.
pub record IsPublication (state : State) (trail : List TrailItem) (renamings : List Renaming)
    (event : Entry) : Type 0 where
  pub number : ℕ
  pub job : Job
  pub work : IsAtWork state number job
  pub event_is : event ≡ publishing state number job
  pub unbroken : broken (by_job number) trail ≡ None
  pub staged : AreStagedAll trail state number job work.table
  pub renamings_are : renamings ≡ map (renaming_of number job) (finals state job work.table.writes)

-- no file stands in an own directory of the id
abbrev pub HasNoOwn : (table write : ℕ) → Tree → Type 0
HasNoOwn table write files = (place : Place) → IsOwnOf table write place → tree.get files place ≡ None

-- behind a publication that failed the house is whole where memory lacked before the first name
abbrev pub StaysPublished : {D : Type 0} → (D → Option Store) → PublishFault → House D → Type 0
StaysPublished told (publish_fault.House fault.NoMemory) now = IsWhole told now
StaysPublished told why now = Unit {0}

-- ---- what is true of a file where it is put

-- the statement is under way and means a change, and the file is one of it, at its place under its write id
pub record IsMeantFile (book : List Entry) (by : TxnId) (place : Place) (file : OutFile) : Type 0 where
  pub asking : Asking
  pub at : ℕ
  pub said : Stmt
  pub info : TableInfo
  pub effect : Effect
  pub write : ℕ
  pub under_way : IsUnderWay book asking by.0 at said ((info.table.0, write) ∷ [])
  pub means : meant (take at book) said ≡ Some (Change info effect)
  pub is_one : Contains (files_of info.shape write 0 effect) file
  pub place_is : place ≡ place_of_file info.table.0 write file
