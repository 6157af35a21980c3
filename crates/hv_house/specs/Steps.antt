-- A house as steps: what those see of it who act on it, and how its calls end.
use Rattle.std.specs.Prelude.{◌≡◌, ◌⊎◌, ℕ, ◌||◌, Bool, true, false, Option, Some, None, List, [], ◌∷◌, ◌++◌, length, map, Contains, Result, Ok, Err, IfOk, IfErr}
use Rattle.std.specs.List.{AllByRecursion}
use Rattle.hv_base.specs.declared.ids.TxnId.{TxnId}
use Rattle.hv_base.specs.declared.ids.Touch.{Touch}
use Rattle.hv_base.specs.declared.ids.Limits.{Limits}
use Rattle.hv_shelf.specs.declared.place.Place.{Place}
use Rattle.hv_shelf.specs.declared.place.DirAt.{DirAt}
use Rattle.hv_shelf.specs.Disk.{Store}
use Rattle.hv_logic.specs.declared.catalog.TableInfo.{TableInfo}
use Rattle.hv_logic.specs.declared.effect.Effect.{Effect}
use Rattle.hv_route.specs.declared.files.OutFile.{OutFile}
use Rattle.hv_route.specs.Routes.{files_of}
use Rattle.hv_route.specs.Touching.{touches_of}
use Rattle.hv_history.specs.declared.entry.Entry.{Entry}
use Rattle.hv_history.specs.declared.entry.Entry.TheVariants as entry
use Rattle.hv_history.specs.declared.entry.Cause.TheVariants as cause
use Rattle.hv_history.specs.declared.entry.JobCause.TheVariants as job_cause
use Rattle.hv_history.specs.declared.state.Table.{Table}
use Rattle.hv_history.specs.State.{state_of, numbered, given_in}
use Rattle.hv_history.specs.Legal.{Of, IsRunning, profile}
use Rattle.hv_stands.specs.Files.{place_of_file}
use Rattle.hv_trail.specs.declared.trail.Reader.{Reader}
use Rattle.hv_trail.specs.declared.trail.Reader.TheVariants.{Txn, Job}
use Rattle.hv_trail.specs.declared.trail.Mark.TheVariants.{Broke}
use Rattle.hv_trail.specs.declared.trail.TrailItem.{TrailItem}
use Rattle.hv_trail.specs.declared.trail.TrailItem.TheVariants.{Noted, Marked}
use Rattle.hv_trail.specs.Trail.{broken, HasWritten}
use Rattle.hv_trail.specs.Kept.{trail_of}
use Rattle.hv_trail.specs.Steps.{HouseSeen, Call, Put, Remove, Outcome, Done, Closed, Refused, Failed, gains, shuts, Step}
use Rattle.hv_house.specs.declared.fault.HouseFault.{HouseFault}
use Rattle.hv_house.specs.declared.fault.HouseFault.TheVariants as fault
use Rattle.hv_house.specs.declared.house.House.{House}
use Rattle.hv_house.specs.Faults.{FileCause}
use Rattle.hv_house.specs.House.{entries_of, IsReadyWithin, StaysPutWithin}

-- a house, as those who act on it see it
abbrev pub seen_of : {D : Type 0} → House D → HouseSeen D
seen_of house = record {
  start = house.start.value;
  trail = trail_of house.trail;
  opened = house.trail.opened;
  shelf = house.shelf;
  closed = house.trail.closed;
  starved = house.trail.starved;
  limits = house.limits;
}

abbrev pub fault_outcome : HouseFault → Outcome
fault_outcome fault.Store = Closed
fault_outcome fault.NoMemory = Refused
fault_outcome (fault.Failed count) = Failed count

abbrev pub outcome_of : {T : Type 0} → Result T HouseFault → Outcome
outcome_of (Ok x) = Done
outcome_of (Err why) = fault_outcome why

-- no mark was made, and what the house was opened over stands, with its limits
pub record KeepsMarks {D : Type 0} (before now : House D) : Type 0 where
  pub start : now.start ≡ before.start
  pub marks : now.trail.marks ≡ before.trail.marks
  pub left : now.trail.opened ≡ before.trail.opened
  pub limits : now.limits ≡ before.limits
  pub starved : now.trail.starved ≡ before.trail.starved

-- a house is closed where the store failed, and else stays as it is
abbrev pub ClosesBy : HouseFault → Bool → Bool → Type 0
ClosesBy fault.Store before now = now ≡ true
ClosesBy _ before now = now ≡ before

-- ---- a call on files

-- the mark of one that failed
abbrev pub broken_by : Option Reader → Bool → HouseFault → List TrailItem
broken_by by put (fault.Failed count) = Marked (Broke by put count) ∷ []
broken_by by put fault.Store = []
broken_by by put fault.NoMemory = []

-- one that failed is kept in mind: by a mark, or, where the store failed, by closing the house
pub record KeepsFault {D : Type 0} (by : Option Reader) (put : Bool) (why : HouseFault) (before now : House D) : Type 0
  where
    pub shelf : now.shelf ≡ before.shelf
    pub place : now.place ≡ before.place
    pub entries : entries_of now ≡ entries_of before
    pub start : now.start ≡ before.start
    pub left : now.trail.opened ≡ before.trail.opened
    pub limits : now.limits ≡ before.limits
    pub trail : trail_of now.trail ≡ trail_of before.trail ++ broken_by by put why
    pub closed : ClosesBy why before.trail.closed now.trail.closed
    pub starved : now.trail.starved ≡ before.trail.starved

-- nothing was noted, and the trail gained what this call's step says
pub record GainsBy {D : Type 0} (call : Call) (outcome : Outcome) (before now : House D) : Type 0 where
  pub place : now.place ≡ before.place
  pub entries : entries_of now ≡ entries_of before
  pub start : now.start ≡ before.start
  pub left : now.trail.opened ≡ before.trail.opened
  pub limits : now.limits ≡ before.limits
  pub trail : trail_of now.trail ≡ trail_of before.trail ++ gains call outcome
  pub closed : now.trail.closed ≡ before.trail.closed || shuts outcome
  pub starved : now.trail.starved ≡ before.trail.starved

-- a read of this transaction failed, with this count; a put did
abbrev pub HasBroken : {D : Type 0} → House D → TxnId → ℕ → Type 0
HasBroken house by count = Contains (trail_of house.trail) (Marked (Broke (Some (Txn by)) false count))

abbrev pub HasBrokenPut : {D : Type 0} → House D → TxnId → ℕ → Type 0
HasBrokenPut house by count = Contains (trail_of house.trail) (Marked (Broke (Some (Txn by)) true count))

-- a fault of reading that has a count has a mark, and so has one of a put
abbrev pub IsMarkedFor : {D : Type 0} → House D → TxnId → HouseFault → Type 0
IsMarkedFor house by (fault.Failed count) = HasBroken house by count
IsMarkedFor house by fault.Store = Unit {0}
IsMarkedFor house by fault.NoMemory = Unit {0}

abbrev pub HasBrokenBy : {D : Type 0} → House D → Reader → Bool → ℕ → Type 0
HasBrokenBy house by put count = Contains (trail_of house.trail) (Marked (Broke (Some by) put count))

abbrev pub IsPutMarkedBy : {D : Type 0} → House D → Reader → HouseFault → Type 0
IsPutMarkedBy house by (fault.Failed count) = HasBrokenBy house by true count
IsPutMarkedBy house by fault.Store = Unit {0}
IsPutMarkedBy house by fault.NoMemory = Unit {0}

abbrev pub IsPutMarkedFor : {D : Type 0} → House D → TxnId → HouseFault → Type 0
IsPutMarkedFor house by why = IsPutMarkedBy house (Txn by) why

-- a put that is asked for: whose it is, the file's place, and its bytes
pub record PutDue : Type 0 where
  pub by : Reader
  pub place : Place
  pub bytes : List ℕ

abbrev pub due_of : Reader → Place → List ℕ → PutDue
due_of by place bytes = record { by = by; place = place; bytes = bytes }

abbrev pub put_of : TxnId → Place → List ℕ → PutDue
put_of by place bytes = due_of (Txn by) place bytes

-- all that is promised of a put of this file for this reader
pub record PutStepWithin {D : Type 0} (limits : Limits) (told : D → Option Store) (faults : D → ℕ) (due : PutDue)
    (before now : House D) (result : Result (Unit {0}) HouseFault) : Type 0 where
  pub book : entries_of now ≡ entries_of before
  pub ready : IfOk result (λ _. IsReadyWithin limits told now)
  pub stays : IfErr result (λ why. StaysPutWithin limits told why now)
  pub marked : IfErr result (IsPutMarkedBy now due.by)
  pub step : Step told faults (Put due.by due.place due.bytes) (outcome_of result) (seen_of before) (seen_of now)
  pub cause : FileCause (faults before.shelf) (faults now.shelf) result

abbrev pub PutStep : {D : Type 0} → (D → Option Store) → (D → ℕ) → PutDue → House D → House D
    → Result (Unit {0}) HouseFault → Type 0
PutStep told faults due before now result = PutStepWithin profile told faults due before now result

-- ---- what is put, and what a commit rests on

-- the running transaction of this number was given this write id in that table
abbrev pub HoldsId : List Entry → (txn table write : ℕ) → Type 0
HoldsId book txn table write = Of (state_of book) txn (λ t. IsRunning t × (given_in table t.given ≡ Some write))

-- the place is that of this file under a write id of this transaction
pub record IsOwnFile (book : List Entry) (by : TxnId) (place : Place) (file : OutFile) : Type 0 where
  pub table : ℕ
  pub write : ℕ
  pub holds : HoldsId book by.0 table write
  pub place_is : place ≡ place_of_file table write file

-- each file of this change in a table, under this write id, has a mark that the transaction put it
abbrev pub AreWritten : List TrailItem → TxnId → TableInfo → Effect → ℕ → Type 0
AreWritten trail by info effect write =
    AllByRecursion (λ file. HasWritten trail (Txn by) (place_of_file info.table.0 write file))
    (files_of info.shape write 0 effect)

-- these are the touches of a change in a table of the book whose files the transaction put, each of them, under its write id
pub record IsPutWhole (book : List Entry) (trail : List TrailItem) (by : TxnId) (wrote : List Touch) : Type 0 where
  pub info : TableInfo
  pub table : Table
  pub here : numbered (state_of book).tables info.table.0 ≡ Some table
  pub same : table.info ≡ info
  pub effect : Effect
  pub write : ℕ
  pub touches : wrote ≡ touches_of info effect
  pub holds : HoldsId book by.0 info.table.0 write
  pub files : AreWritten trail by info effect write

-- A commit can be noted where no call on files failed for its transaction, and it touches nothing or all files of what it touches were put.
pub record CanCommit (book : List Entry) (trail : List TrailItem) (by : TxnId) (wrote : List Touch) : Type 0 where
  pub unbroken : broken (Txn by) trail ≡ None
  pub put : (wrote ≡ []) ⊎ IsPutWhole book trail by wrote

-- An abort for a call on files that failed keeps the count of a mark of its transaction, and the failure of a job that of one of the job's: for a read of one that is no put's, for a
-- write of one that is. A commit has marks of its files.
abbrev pub IsMarkedIn : List Entry → List TrailItem → Entry → Type 0
IsMarkedIn book trail (entry.Abort txn (cause.ReadFault count)) =
    Contains trail (Marked (Broke (Some (Txn txn)) false count))
IsMarkedIn book trail (entry.Abort txn (cause.WriteFault count)) =
    Contains trail (Marked (Broke (Some (Txn txn)) true count))
IsMarkedIn book trail (entry.Failed job (job_cause.ReadFault count)) =
    Contains trail (Marked (Broke (Some (Job job)) false count))
IsMarkedIn book trail (entry.Failed job (job_cause.WriteFault count)) =
    Contains trail (Marked (Broke (Some (Job job)) true count))
IsMarkedIn book trail (entry.Commit txn wrote) = CanCommit book trail txn wrote
IsMarkedIn book trail event = Unit {0}

abbrev pub IsMarked : {D : Type 0} → House D → Entry → Type 0
IsMarked house event = IsMarkedIn (entries_of house) (trail_of house.trail) event

-- a call on files that failed for a reader, or for nobody, and has a count has a mark
abbrev pub IsReadMarkedBy : {D : Type 0} → House D → Option Reader → HouseFault → Type 0
IsReadMarkedBy house by (fault.Failed count) = Contains (trail_of house.trail) (Marked (Broke by false count))
IsReadMarkedBy house by fault.Store = Unit {0}
IsReadMarkedBy house by fault.NoMemory = Unit {0}

-- all that is promised of a directory that is taken away: it is marked as gone, or as one whose removal failed
pub record RemoveStepWithin {D : Type 0} (limits : Limits) (told : D → Option Store) (faults : D → ℕ) (dir : DirAt)
    (before now : House D) (result : Result (Unit {0}) HouseFault) : Type 0 where
  pub book : entries_of now ≡ entries_of before
  pub ready : IfOk result (λ _. IsReadyWithin limits told now)
  pub stays : IfErr result (λ why. StaysPutWithin limits told why now)
  pub marked : IfErr result (IsReadMarkedBy now None)
  pub step : Step told faults (Remove None dir) (outcome_of result) (seen_of before) (seen_of now)
  pub cause : FileCause (faults before.shelf) (faults now.shelf) result

-- a house that was opened over this store: its trail is its book, and its opening left all of it
pub record IsOpenedOver {D : Type 0} (shelf : D) (house : House D) : Type 0 where
  pub start : house.start.value ≡ shelf
  pub trail : trail_of house.trail ≡ map Noted (entries_of house)
  pub opened : house.trail.opened ≡ length (entries_of house)
