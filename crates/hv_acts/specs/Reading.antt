-- What acts that read ask and answer: the table of a name, the files of a table that are taken, and the bytes of one. A reader is a
-- transaction that is open: what it needs nobody takes away.
-- Source: Hive Transactions, snapshots and shared locks.
use Rattle.std.specs.Prelude.{◌≡◌, ℕ, ◌≤◌, Bool, true, false, IsTrue, Option, Some, None, IsSomeAnd, List, [], length, take, Result, Ok, Err, IfErr}
use Rattle.std.specs.List.{slice_get}
use Rattle.std.specs.Option.{option_map}
use Rattle.std.specs.Global.{Vec}
use Rattle.std.specs.FinMap as tree
use Rattle.hv_base.specs.Told.{Tells}
use Rattle.hv_base.specs.declared.ids.TxnId.{TxnId}
use Rattle.hv_base.specs.declared.ids.TableId.{TableId}
use Rattle.hv_shelf.specs.declared.place.Place.{Place}
use Rattle.hv_shelf.specs.Disk.{Store, Tree}
use Rattle.hv_locks.specs.declared.table.Lock.{Lock}
use Rattle.hv_logic.specs.declared.catalog.TableInfo.{TableInfo}
use Rattle.hv_rowfile.specs.declared.record.Rec.{Rec}
use Rattle.hv_history.specs.declared.state.Snapshot.{Snapshot}
use Rattle.hv_history.specs.declared.state.Table.{Table}
use Rattle.hv_history.specs.declared.state.Transaction.{Transaction}
use Rattle.hv_history.specs.State.{State, state_of, numbered}
use Rattle.hv_history.specs.Lasting.{IsFront}
use Rattle.hv_history.specs.Legal.{Of, is_open, locks_of, is_named_there}
use Rattle.hv_meta.specs.declared.facts.TxnState.TheVariants as standing
use Rattle.hv_meta.specs.States.{state_in}
use Rattle.hv_stands.specs.Reading.{table_of_name}
use Rattle.hv_stands.specs.Statements.{AllFitting}
use Rattle.hv_telling.specs.hv_house.specs.hv_finals.specs.hv_law_made.specs.Standing.{Standing, IsEncodingOf, is_live_at}
use Rattle.hv_telling.specs.hv_house.specs.hv_law_read.specs.Needs.{IsNeededBy}
use Rattle.hv_law_visible.specs.Members.{IsIn}
use Rattle.hv_choosing.specs.declared.listing.DirFile.{DirFile}
use Rattle.hv_trail.specs.declared.trail.Reader.TheVariants.{Txn}
use Rattle.hv_trail.specs.declared.trail.TrailItem.{TrailItem}
use Rattle.hv_trail.specs.Trail.{book_of, state_at}
use Rattle.hv_trail.specs.Lasting.{Has}
use Rattle.hv_trail.specs.Steps.{HouseSeen, Read, Ask, Step}
use Rattle.hv_telling.specs.hv_house.specs.declared.fault.HouseFault.TheVariants as fault
use Rattle.hv_telling.specs.hv_house.specs.declared.listing.Listing.{Listing}
use Rattle.hv_telling.specs.hv_house.specs.declared.listing.ListFault.{ListFault}
use Rattle.hv_telling.specs.hv_house.specs.declared.listing.ListFault.TheVariants as list_fault
use Rattle.hv_telling.specs.hv_house.specs.declared.listing.GetFault.{GetFault}
use Rattle.hv_telling.specs.hv_house.specs.declared.listing.GetFault.TheVariants as get_fault
use Rattle.hv_telling.specs.hv_house.specs.declared.house.House.{House}
use Rattle.hv_telling.specs.hv_house.specs.House.{book_limit}
use Rattle.hv_telling.specs.hv_house.specs.Seeing.{ids_in}
use Rattle.hv_telling.specs.hv_house.specs.Steps.{seen_of, broken_by}
use Rattle.hv_telling.specs.hv_house.specs.Listing.{info_in, AreTaken, get_outcome}
use Rattle.hv_acts.specs.Told.{IsWholeOrClosed}
use Rattle.hv_telling.specs.Telling.{IsTold}
use Rattle.hv_acts.specs.declared.fault.ActFault.{ActFault}
use Rattle.hv_acts.specs.declared.fault.ActFault.TheVariants as act
use Rattle.hv_acts.specs.declared.listing.ListTable.{ListTable}
use Rattle.hv_acts.specs.Answers.{answer_outcome, HasNotEnded, FaultLeaves, AnswerLeaves, FaultRises, WhyRises}

-- ---- a place of the book

-- the book has so many entries
abbrev pub HasPlace : List TrailItem → ℕ → Type 0
HasPlace trail place = place ≤ length (book_of trail)

-- the state there: the entries before it count
abbrev pub state_then : List TrailItem → ℕ → State
state_then trail place = state_of (take place (book_of trail))

-- all that the book has fits, and it has no more than a house takes
pub record HasFittingBook (trail : List TrailItem) : Type 0 where
  pub fit : AllFitting (book_of trail)
  pub few : length (book_of trail) ≤ book_limit

-- ---- who reads

-- Its snapshot was taken at this place, where the tables were these, and it locks this name.
pub record IsReader (place : ℕ) (tables : List Table) (name : List ℕ) (t : Transaction) : Type 0 where
  pub snapshot : Snapshot
  pub taken : t.snapshot ≡ Some snapshot
  pub place_is : snapshot.place ≡ place
  pub tables_are : snapshot.tables ≡ tables
  pub lock : Lock
  pub index : ℕ
  pub held : slice_get (locks_of t) index ≡ Some lock
  pub name_is : lock.name ≡ name

-- the transaction of this number reads at a place of the book, and locks this name
pub record HasReader (trail : List TrailItem) (by : TxnId) (place : ℕ) (name : List ℕ) : Type 0 where
  pub has : HasPlace trail place
  pub reads : Has trail by.0 (IsReader place (state_then trail place).tables name)

-- and this is the table that had the name there
pub record ReadsTable (trail : List TrailItem) (by : TxnId) (place table : ℕ) : Type 0 where
  pub name : List ℕ
  pub reader : HasReader trail by place name
  pub named : IsTrue (is_named_there name (numbered (state_then trail place).tables table))

-- it has not ended
abbrev pub IsUnended : List TrailItem → TxnId → Type 0
IsUnended trail by = HasNotEnded (state_in (state_at trail) by.0)

-- ---- the table of a name

abbrev pub info_then : List TrailItem → ℕ → List ℕ → Option TableInfo
info_then trail place name = option_map info_in (table_of_name name (state_then trail place).tables)

-- a table of this description was there at the place, by its number
pub record IsThere (trail : List TrailItem) (place : ℕ) (info : TableInfo) : Type 0 where
  pub table : Table
  pub here : numbered (state_then trail place).tables table.info.table.0 ≡ Some table
  pub info_is : table.info ≡ info

-- what an open house found
pub record HasFound {D : Type 0} (house : HouseSeen D) (place : ℕ) (name : List ℕ)
    (found : Option TableInfo) : Type 0 where
  pub running : house.closed ≡ false
  pub book : HasFittingBook house.trail
  pub found_is : found ≡ info_then house.trail place name

-- a closed house finds nothing, and an open one fails for want of memory alone
abbrev pub IsFindWhy : Bool → ActFault → Type 0
IsFindWhy closed (act.Ended at) = ⊥
IsFindWhy closed (act.Full entries) = ⊥
IsFindWhy closed (act.Held holder) = ⊥
IsFindWhy closed (act.Broken put count) = ⊥
IsFindWhy closed act.Unfit = ⊥
IsFindWhy closed (act.House fault.Store) = closed ≡ true
IsFindWhy closed (act.House fault.NoMemory) = closed ≡ false
IsFindWhy closed (act.House (fault.Failed count)) = ⊥

abbrev pub FindAnswers : {D : Type 0} → HouseSeen D → ℕ → List ℕ → Result (Option TableInfo) ActFault → Type 0
FindAnswers house place name (Ok found) = HasFound house place name found
FindAnswers house place name (Err why) = IsFindWhy house.closed why

-- all that is promised of a table that was to be found: the house was only asked
pub record FindStep {D : Type 0} (told : D → Option Store) (faults : D → ℕ) (place : ℕ) (name : List ℕ)
    (house : House D)
    (result : Result (Option TableInfo) ActFault) : Type 0 where
  pub step : Step told faults Ask (answer_outcome result) (seen_of house) (seen_of house)
  pub answers : FindAnswers (seen_of house) place name result

-- ---- the files of a table

-- where the house is told its store tells, and the files of its book stand there
abbrev pub FilesStand : {D : Type 0} → (D → Option Store) → HouseSeen D → Type 0
FilesStand told house = IsTold told house.start → IsSomeAnd (told house.shelf)
    (λ s. Standing (state_at house.trail) s.tree)

-- The files that a transaction takes of those that stand, under the list that the table had at the place. It has not ended.
pub record HasListed {D : Type 0} (told : D → Option Store) (house : HouseSeen D) (by : TxnId) (place : ℕ)
    (table : TableId) (listing : Listing) : Type 0 where
  pub book : HasFittingBook house.trail
  pub unended : IsUnended house.trail by
  pub list : listing.list ≡ ids_in (state_then house.trail place) table.0
  pub files : Tells (told house.shelf) (λ s. AreTaken table listing.list s.tree listing.inserts.items
      listing.deletes.items)
  pub stand : FilesStand told house

-- no test refused it, but the house
abbrev pub IsOfHouse : ActFault → Type 0
IsOfHouse (act.Ended at) = ⊥
IsOfHouse (act.Full entries) = ⊥
IsOfHouse (act.Held holder) = ⊥
IsOfHouse (act.Broken put count) = ⊥
IsOfHouse act.Unfit = ⊥
IsOfHouse (act.House why) = Unit {0}

-- why the house listed nothing, as the act answers it
abbrev pub of_list : ListFault → ActFault
of_list (list_fault.NotOpen at) = act.Ended at
of_list (list_fault.House why) = act.House why

-- the transaction was ended by the entry that is named; else the house failed
abbrev pub IsListWhy : List TrailItem → TxnId → ActFault → Type 0
IsListWhy trail by (act.Ended at) = state_in (state_at trail) by.0 ≡ standing.Ended at
IsListWhy trail by (act.Full entries) = ⊥
IsListWhy trail by (act.Held holder) = ⊥
IsListWhy trail by (act.Broken put count) = ⊥
IsListWhy trail by act.Unfit = ⊥
IsListWhy trail by (act.House why) = Unit {0}

abbrev pub ListAnswers : {D : Type 0} → (D → Option Store) → HouseSeen D → TxnId → ℕ → TableId → Result Listing ActFault
    → Type 0
ListAnswers told house by place table (Ok listing) = HasListed told house by place table listing
ListAnswers told house by place table (Err why) = IsListWhy house.trail by why

-- the mark of a read that failed
abbrev pub adds_read : TxnId → ActFault → List TrailItem
adds_read by (act.Ended at) = []
adds_read by (act.Full entries) = []
adds_read by (act.Held holder) = []
adds_read by (act.Broken put count) = []
adds_read by act.Unfit = []
adds_read by (act.House why) = broken_by (Some (Txn by)) false why

abbrev pub adds_listing : {T : Type 0} → TxnId → Result T ActFault → List TrailItem
adds_listing by (Ok x) = []
adds_listing by (Err why) = adds_read by why

-- all that is promised of files that were to be listed for this transaction
pub record ListStep {D : Type 0} (told : D → Option Store) (faults : D → ℕ) (listed : ListTable) (before now : House D)
    (result : Result Listing ActFault) : Type 0 where
  pub keeps : IsWholeOrClosed told now
  pub step : Step told faults (Read (Some (Txn listed.by))) (answer_outcome result) (seen_of before) (seen_of now)
  pub answers : ListAnswers told (seen_of before) listed.by listed.place listed.table result
  pub leaves : AnswerLeaves told faults listed.by.0 (seen_of before) (seen_of now) result
  pub rises : IfErr result (WhyRises faults (seen_of before))

-- ---- the bytes of a file

-- an open transaction needs this file, which is of a live table
pub record IsNeededIn (trail : List TrailItem) (by : TxnId) (place : Place) (deletes : Bool) (recs : List Rec) : Type 0
  where
    pub unended : Of (state_at trail) by.0 (λ t. IsTrue (is_open t))
    pub live : is_live_at (state_at trail) place ≡ true
    pub needed : IsNeededBy (state_at trail) by.0 place deletes recs

-- and the files of the book stand in the store, where it tells
pub record IsNeededAt (told : Option Store) (trail : List TrailItem) (by : TxnId) (place : Place) (deletes : Bool)
    (recs : List Rec) : Type 0 where
  pub stands : Tells told (λ s. Standing (state_at trail) s.tree)
  pub is : IsNeededIn trail by place deletes recs

-- Just these bytes stand there. Where the files of the book stand, as in a house that is told, they are those of the records that the
-- transaction needs there.
pub record HasGot {D : Type 0} (told : D → Option Store) (house : HouseSeen D) (by : TxnId) (place : Place)
    (found : List ℕ) : Type 0 where
  pub book : HasFittingBook house.trail
  pub unended : IsUnended house.trail by
  pub bytes : Tells (told house.shelf) (λ s. tree.get s.tree place ≡ Some found)
  pub needed : (deletes : Bool) (recs : List Rec) → IsNeededAt (told house.shelf) house.trail by place deletes recs
      → Tells (told house.shelf) (λ s. IsEncodingOf deletes place.bucket recs found)
  pub stand : FilesStand told house
  pub truly : IsTold told house.start → (deletes : Bool) (recs : List Rec)
      → IsNeededIn house.trail by place deletes recs
      → IsEncodingOf deletes place.bucket recs found

-- Nothing stands there. Where the files of the book stand the transaction needs nothing there.
pub record HasMissed {D : Type 0} (told : D → Option Store) (house : HouseSeen D) (by : TxnId) (place : Place) : Type 0
  where
    pub book : HasFittingBook house.trail
    pub unended : IsUnended house.trail by
    pub none : Tells (told house.shelf) (λ s. tree.get s.tree place ≡ None)
    pub unneeded : (deletes : Bool) (recs : List Rec) → IsNeededAt (told house.shelf) house.trail by place deletes recs
        → Tells (told house.shelf) (λ s. ⊥)
    pub stand : FilesStand told house
    pub truly : IsTold told house.start → (deletes : Bool) (recs : List Rec)
        → IsNeededIn house.trail by place deletes recs → ⊥

-- the transaction was ended by the entry that is named; nothing stands there; else the house failed
abbrev pub IsGetWhy : {D : Type 0} → (D → Option Store) → HouseSeen D → TxnId → Place → GetFault → Type 0
IsGetWhy told house by place (get_fault.NotOpen at) = state_in (state_at house.trail) by.0 ≡ standing.Ended at
IsGetWhy told house by place get_fault.NotFound = HasMissed told house by place
IsGetWhy told house by place (get_fault.House why) = Unit {0}

abbrev pub GetAnswers : {D : Type 0} → (D → Option Store) → HouseSeen D → TxnId → Place → Result (Vec ℕ) GetFault
    → Type 0
GetAnswers told house by place (Ok bytes) = HasGot told house by place bytes.items
GetAnswers told house by place (Err why) = IsGetWhy told house by place why

abbrev pub adds_missed : TxnId → GetFault → List TrailItem
adds_missed by (get_fault.NotOpen at) = []
adds_missed by get_fault.NotFound = []
adds_missed by (get_fault.House why) = broken_by (Some (Txn by)) false why

abbrev pub adds_getting : {T : Type 0} → TxnId → Result T GetFault → List TrailItem
adds_getting by (Ok x) = []
adds_getting by (Err why) = adds_missed by why

abbrev pub GetLeaves : {D T : Type 0} → (D → Option Store) → (D → ℕ) → ℕ → HouseSeen D → HouseSeen D → Result T GetFault
    → Type 0
GetLeaves told faults txn before now (Ok x) = before.closed ≡ false
GetLeaves told faults txn before now (Err (get_fault.NotOpen at)) = before.closed ≡ false
GetLeaves told faults txn before now (Err get_fault.NotFound) = before.closed ≡ false
GetLeaves told faults txn before now (Err (get_fault.House why)) = FaultLeaves told faults txn before now why

abbrev pub GetRises : {D : Type 0} → (D → ℕ) → HouseSeen D → GetFault → Type 0
GetRises faults before (get_fault.NotOpen at) = Unit {0}
GetRises faults before get_fault.NotFound = Unit {0}
GetRises faults before (get_fault.House why) = FaultRises faults before why

-- the place of a file that a transaction is to get
pub record Sought : Type 0 where
  pub by : TxnId
  pub place : Place

abbrev pub sought_at : TxnId → Place → Sought
sought_at by place = record { by = by; place = place }

-- all that is promised of a file that was to be got
pub record GetStep {D : Type 0} (told : D → Option Store) (faults : D → ℕ) (want : Sought) (before now : House D)
    (result : Result (Vec ℕ) GetFault) : Type 0 where
  pub keeps : IsWholeOrClosed told now
  pub step : Step told faults (Read (Some (Txn want.by))) (get_outcome result) (seen_of before) (seen_of now)
  pub answers : GetAnswers told (seen_of before) want.by want.place result
  pub leaves : GetLeaves told faults want.by.0 (seen_of before) (seen_of now) result
  pub rises : IfErr result (GetRises faults (seen_of before))

-- ---- one reading over several acts

-- a table as it stood at the place of a transaction's snapshot
pub record TableSight : Type 0 where
  pub by : TxnId
  pub place : ℕ
  pub table : Table

abbrev pub table_at : TxnId → ℕ → Table → TableSight
table_at by place table = record { by = by; place = place; table = table }

-- A transaction reads a table at the place of its snapshot and sees it twice, and others act between: what it saw goes on; the files of the
-- book stood in the store, and stand in it now; it has not ended; and the table was there at the place.
pub record ReadsOn (before now : List TrailItem) (files files' : Tree) (sight : TableSight) : Type 0 where
  pub front : IsFront before now
  pub book : HasFittingBook now
  pub stood : Standing (state_at before) files
  pub stand : Standing (state_at now) files'
  pub reads : ReadsTable before sight.by sight.place sight.table.info.table.0
  pub here : numbered (state_then before sight.place).tables sight.table.info.table.0 ≡ Some sight.table
  pub running_now : IsUnended now sight.by

-- its bytes stand there as they stood
pub record StandsStill (files files' : Tree) (file : DirFile) : Type 0 where
  pub bytes : List ℕ
  pub stood : tree.get files file.place ≡ Some bytes
  pub stands : tree.get files' file.place ≡ Some bytes

abbrev pub AllStandStill : Tree → Tree → List DirFile → Type 0
AllStandStill files files' taken = (file : DirFile) → IsIn file taken → StandsStill files files' file

-- ---- one reading over several acts on a told house

-- A transaction reads a table at the place of its snapshot and sees it twice, and others act between: what it saw goes on, over the same told
-- house; and the table was there at the place.
pub record ReadsOnTold {D : Type 0} (told : D → Option Store) (before now : HouseSeen D) (by : TxnId) (place : ℕ)
    (table : Table) : Type 0 where
  pub is_told : IsTold told before.start
  pub start : now.start ≡ before.start
  pub front : IsFront before.trail now.trail
  pub reads : ReadsTable before.trail by place table.info.table.0
  pub here : numbered (state_then before.trail place).tables table.info.table.0 ≡ Some table

-- Where it is got later, it is there, with the bytes that it had.
pub record IsGotStill {D : Type 0} (told : D → Option Store) (before now : HouseSeen D) (by : TxnId) (file : DirFile) :
    Type 0 where
  pub got : (found : List ℕ) → HasGot told now by file.place found
      → IsSomeAnd (told before.shelf) (λ s. tree.get s.tree file.place ≡ Some found)
  pub never_missed : HasMissed told now by file.place → ⊥

abbrev pub AllGotStill : {D : Type 0} → (D → Option Store) → HouseSeen D → HouseSeen D → TxnId → List DirFile → Type 0
AllGotStill told before now by taken = (file : DirFile) → IsIn file taken → IsGotStill told before now by file
