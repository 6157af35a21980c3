-- The files of a table that a reader takes, and the bytes of one of them; how a call that reads ends.
use Rattle.std.specs.Prelude.{◌≡◌, ℕ, ◌≤◌, Bool, true, false, IsTrue, Option, Some, List, Result, Ok, Err, IfErr}
use Rattle.hv_base.specs.Told.{Tells}
use Rattle.hv_base.specs.declared.ids.Limits.{Limits}
use Rattle.hv_base.specs.declared.ids.TableId.{TableId}
use Rattle.hv_base.specs.declared.ids.TxnId.{TxnId}
use Rattle.hv_shelf.specs.declared.place.Place.{Place}
use Rattle.hv_shelf.specs.Disk.{Store, Tree, places_of}
use Rattle.hv_logic.specs.declared.catalog.TableInfo.{TableInfo}
use Rattle.hv_rowfile.specs.declared.record.Rec.{Rec}
use Rattle.hv_wids.specs.WriteIds.{WriteIds}
use Rattle.hv_history.specs.declared.state.Snapshot.{Snapshot}
use Rattle.hv_history.specs.declared.state.Table.{Table}
use Rattle.hv_history.specs.declared.state.Transaction.{Transaction}
use Rattle.hv_history.specs.State.{state_of}
use Rattle.hv_history.specs.Legal.{profile, is_open, Of}
use Rattle.hv_finals.specs.hv_law_made.specs.Standing.{Standing, is_live_at}
use Rattle.hv_law_read.specs.Needs.{IsNeededBy}
use Rattle.hv_choosing.specs.declared.listing.DirFile.{DirFile}
use Rattle.hv_choosing.specs.Listing.{AreListed}
use Rattle.hv_choosing.specs.Taken.{files_taken}
use Rattle.hv_trail.specs.declared.trail.Reader.{Reader}
use Rattle.hv_trail.specs.Steps.{Read, Outcome, Done, Refused}
use Rattle.hv_house.specs.declared.fault.HouseFault.{HouseFault}
use Rattle.hv_house.specs.declared.listing.ListFault.{ListFault}
use Rattle.hv_house.specs.declared.listing.ListFault.TheVariants as list_fault
use Rattle.hv_house.specs.declared.listing.GetFault.{GetFault}
use Rattle.hv_house.specs.declared.listing.GetFault.TheVariants as get_fault
use Rattle.hv_house.specs.declared.house.House.{House}
use Rattle.hv_house.specs.Faults.{HasRisen, FileCause}
use Rattle.hv_house.specs.House.{entries_of, IsReadyWithin, StaysPutWithin}
use Rattle.hv_house.specs.Steps.{fault_outcome, outcome_of, GainsBy, IsMarkedFor}

-- ---- what is found

abbrev pub info_in : Table → TableInfo
info_in table = table.info

-- of the files at these places, a reader with this list takes these
pub record AreTakenOf (places : List Place) (list : WriteIds) (inserts deletes : List DirFile) : Type 0 where
  pub named : List DirFile
  pub listed : AreListed places named
  pub inserts_are : inserts ≡ files_taken false list named
  pub deletes_are : deletes ≡ files_taken true list named

-- of a table's files
abbrev pub AreTaken : TableId → WriteIds → Tree → List DirFile → List DirFile → Type 0
AreTaken table list files inserts deletes = AreTakenOf (places_of table files) list inserts deletes

-- ---- who reads

-- its snapshot was taken at this place of the book
pub record HasSnapshotAt (place : ℕ) (transaction : Transaction) : Type 0 where
  pub snapshot : Snapshot
  pub taken : transaction.snapshot ≡ Some snapshot
  pub place_is : snapshot.place ≡ place

-- The files of the book stand in the store, where it tells, and an open transaction needs this one, which is of a live table.
pub record IsNeeded {D : Type 0} (told : D → Option Store) (house : House D) (by : TxnId) (place : Place)
    (deletes : Bool) (recs : List Rec) : Type 0 where
  pub stands : Tells (told house.shelf) (λ s. Standing (state_of (entries_of house)) s.tree)
  pub unended : Of (state_of (entries_of house)) by.0 (λ t. IsTrue (is_open t))
  pub live : is_live_at (state_of (entries_of house)) place ≡ true
  pub needed : IsNeededBy (state_of (entries_of house)) by.0 place deletes recs

-- ---- how it ends

-- what every call that reads leaves, for a reader or for nobody: the store as it was, and in the trail the mark of one that failed
pub record ReadStep {D T : Type 0} (told : D → Option Store) (faults : D → ℕ) (by : Option Reader)
    (before now : House D) (result : Result T HouseFault) : Type 0 where
  pub store : told now.shelf ≡ told before.shelf
  pub gains : GainsBy (Read by) (outcome_of result) before now
  pub cause : FileCause (faults before.shelf) (faults now.shelf) result

-- ---- files that were to be listed

-- of a transaction that has ended the house alone was asked
abbrev pub listing_outcome : ListFault → Outcome
listing_outcome (list_fault.NotOpen at) = Refused
listing_outcome (list_fault.House why) = fault_outcome why

abbrev pub list_outcome : {T : Type 0} → Result T ListFault → Outcome
list_outcome (Ok x) = Done
list_outcome (Err why) = listing_outcome why

-- behind that the house is ready
abbrev pub StaysListedWithin : {D : Type 0} → Limits → (D → Option Store) → ListFault → House D → Type 0
StaysListedWithin limits told (list_fault.NotOpen at) now = IsReadyWithin limits told now
StaysListedWithin limits told (list_fault.House why) now = StaysPutWithin limits told why now

-- a fault that has a count has a mark
abbrev pub IsMarkedListing : {D : Type 0} → House D → TxnId → ListFault → Type 0
IsMarkedListing house by (list_fault.NotOpen at) = Unit {0}
IsMarkedListing house by (list_fault.House why) = IsMarkedFor house by why

abbrev pub HasRisenListing : ℕ → ℕ → ListFault → Type 0
HasRisenListing faults faults' (list_fault.NotOpen at) = Unit {0}
HasRisenListing faults faults' (list_fault.House why) = HasRisen faults faults' why

pub record ListCause {T : Type 0} (faults faults' : ℕ) (result : Result T ListFault) : Type 0 where
  pub later : faults ≤ faults'
  pub failed : IfErr result (HasRisenListing faults faults')

-- ---- a file that was to be got

abbrev pub IsNotFound : GetFault → Type 0
IsNotFound (get_fault.NotOpen at) = ⊥
IsNotFound get_fault.NotFound = Unit {0}
IsNotFound (get_fault.House why) = ⊥

-- that nothing stands there is an answer
abbrev pub getting_outcome : GetFault → Outcome
getting_outcome (get_fault.NotOpen at) = Refused
getting_outcome get_fault.NotFound = Done
getting_outcome (get_fault.House why) = fault_outcome why

abbrev pub get_outcome : {T : Type 0} → Result T GetFault → Outcome
get_outcome (Ok x) = Done
get_outcome (Err why) = getting_outcome why

-- behind a file that isn't there the house is ready, and so behind a transaction that has ended
abbrev pub StaysGotWithin : {D : Type 0} → Limits → (D → Option Store) → GetFault → House D → Type 0
StaysGotWithin limits told (get_fault.NotOpen at) now = IsReadyWithin limits told now
StaysGotWithin limits told get_fault.NotFound now = IsReadyWithin limits told now
StaysGotWithin limits told (get_fault.House why) now = StaysPutWithin limits told why now

abbrev pub StaysGot : {D : Type 0} → (D → Option Store) → GetFault → House D → Type 0
StaysGot told why now = StaysGotWithin profile told why now

-- a fault that has a count has a mark
abbrev pub IsMarkedGetting : {D : Type 0} → House D → TxnId → GetFault → Type 0
IsMarkedGetting house by (get_fault.NotOpen at) = Unit {0}
IsMarkedGetting house by get_fault.NotFound = Unit {0}
IsMarkedGetting house by (get_fault.House why) = IsMarkedFor house by why

abbrev pub HasRisenGetting : ℕ → ℕ → GetFault → Type 0
HasRisenGetting faults faults' (get_fault.NotOpen at) = Unit {0}
HasRisenGetting faults faults' get_fault.NotFound = Unit {0}
HasRisenGetting faults faults' (get_fault.House why) = HasRisen faults faults' why

pub record GetCause {T : Type 0} (faults faults' : ℕ) (result : Result T GetFault) : Type 0 where
  pub later : faults ≤ faults'
  pub failed : IfErr result (HasRisenGetting faults faults')
