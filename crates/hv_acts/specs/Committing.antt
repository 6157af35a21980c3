-- A transaction that is committed, or aborted since a commit conflicts with it.
use Rattle.std.specs.Prelude.{◌≡◌, ◌⊎◌, ℕ, IsTrue, Option, None, List, [], ◌∷◌, length, Result, Ok, Err, IsSomeAnd}
use Rattle.std.specs.List.{AllByRecursion}
use Rattle.hv_base.specs.declared.ids.TxnId.{TxnId}
use Rattle.hv_base.specs.declared.ids.TableId.{TableId}
use Rattle.hv_base.specs.declared.ids.Touch.{Touch}
use Rattle.hv_shelf.specs.declared.place.Place.{Place}
use Rattle.hv_shelf.specs.Disk.{Store}
use Rattle.hv_logic.specs.declared.catalog.TableInfo.{TableInfo}
use Rattle.hv_logic.specs.declared.effect.Effect.{Effect}
use Rattle.hv_route.specs.Routes.{files_of}
use Rattle.hv_route.specs.Touching.{touches_of}
use Rattle.hv_history.specs.declared.entry.Entry.TheVariants as entry
use Rattle.hv_history.specs.declared.entry.Cause.{Cause}
use Rattle.hv_history.specs.declared.entry.Cause.TheVariants as cause
use Rattle.hv_history.specs.Answers.{conflict_text}
use Rattle.hv_history.specs.declared.state.Table.{Table}
use Rattle.hv_history.specs.declared.state.Transaction.{Transaction}
use Rattle.hv_history.specs.State.{numbered}
use Rattle.hv_history.specs.Legal.{Of, IsRunning, Rise, IsOwnTouch, is_touched}
use Rattle.hv_conflicts.specs.declared.meeting.Clash.{Clash}
use Rattle.hv_conflicts.specs.Clashes.{IsClash}
use Rattle.hv_trail.specs.declared.trail.Reader.TheVariants.{Txn}
use Rattle.hv_trail.specs.declared.trail.TrailItem.{TrailItem}
use Rattle.hv_trail.specs.declared.trail.TrailItem.TheVariants.{Noted}
use Rattle.hv_trail.specs.Trail.{book_of, state_at, broken, HasWritten}
use Rattle.hv_trail.specs.Kept.{trail_of}
use Rattle.hv_trail.specs.Lasting.{Has, IsGiven}
use Rattle.hv_trail.specs.Steps.{Call, Note, Commit, Step}
use Rattle.hv_telling.specs.hv_house.specs.declared.house.House.{House}
use Rattle.hv_telling.specs.hv_house.specs.Steps.{seen_of}
use Rattle.hv_acts.specs.Told.{IsWholeOrClosed}
use Rattle.hv_acts.specs.Meant.{HasAtMost, RunsWith, places_of_files}
use Rattle.hv_acts.specs.declared.committing.Committed.{Committed}
use Rattle.hv_acts.specs.declared.committing.CommitWrites.{CommitWrites}
use Rattle.hv_acts.specs.declared.committing.Committed.TheVariants as committed
use Rattle.hv_acts.specs.declared.committing.Conflict.{Conflict}
use Rattle.hv_acts.specs.declared.fault.ActFault.{ActFault}
use Rattle.hv_acts.specs.declared.aborted.Aborted.{Aborted}
use Rattle.hv_acts.specs.Answers.{call_behind, answer_outcome, EntryFits, FilesTest, IsWhy, AnswerLeaves}

abbrev pub call_to_commit : TxnId → List Touch → Result Committed ActFault → Call
call_to_commit txn wrote (Ok (committed.At place)) = Note (entry.Commit txn wrote)
call_to_commit txn wrote (Ok (committed.Aborted aborted)) = Note (entry.Abort txn aborted.cause)
call_to_commit txn wrote (Err why) = call_behind (Commit txn wrote) why

abbrev pub adds_commit : TxnId → List Touch → Result Committed ActFault → List TrailItem
adds_commit txn wrote (Ok (committed.At place)) = Noted (entry.Commit txn wrote) ∷ []
adds_commit txn wrote (Ok (committed.Aborted aborted)) = Noted (entry.Abort txn aborted.cause) ∷ []
adds_commit txn wrote (Err why) = []

-- ---- what a commit rests on, and is there still whatever others do

-- these are the touches of a change in a table that is there, under a write id that the transaction was given, and these the places of its files
pub record IsOfItsChange (trail : List TrailItem) (txn : TxnId) (wrote : List Touch)
    (places : List Place) : Type 0 where
  pub info : TableInfo
  pub here : IsSomeAnd (numbered (state_at trail).tables info.table.0) (λ (table : Table). table.info ≡ info)
  pub effect : Effect
  pub write : ℕ
  pub touches : wrote ≡ touches_of info effect
  pub given : Has trail txn.0 (IsGiven info.table.0 write)
  pub places_are : places ≡ places_of_files info.table.0 write (files_of info.shape write 0 effect)

-- it touches nothing, or what it touches is of a change whose files stand at these places once they are put
abbrev pub CanBePut : List TrailItem → TxnId → List Touch → List Place → Type 0
CanBePut trail txn wrote places = (wrote ≡ []) ⊎ IsOfItsChange trail txn wrote places

-- each of these files has a mark that the transaction put it
abbrev pub WerePut : List TrailItem → TxnId → List Place → Type 0
WerePut trail txn places = AllByRecursion (HasWritten trail (Txn txn)) places

-- ---- a conflict

abbrev pub conflict_cause : TxnId → Touch → Cause
conflict_cause by touch = cause.Conflict by touch.table touch.partition

-- the abort for a conflict with that one in the partition of this touch, by the entry at that place, and what is told of it
pub record IsConflictOf (at : ℕ) (by : TxnId) (touch : Touch) (name : List ℕ) (found : Conflict) : Type 0 where
  pub cause_is : found.cause ≡ conflict_cause by touch
  pub place : found.aborted.at ≡ at
  pub same : found.aborted.cause ≡ conflict_cause by touch
  pub line : found.aborted.text ≡ conflict_text by.0 name touch.partition

-- the first commit behind its snapshot that conflicts is that one's, and the first place that both share is this partition
pub record IsConflict (trail : List TrailItem) (txn : TxnId) (wrote : List Touch) (by : TxnId) (table : TableId)
    (partition : List ℕ) : Type 0 where
  pub clash : Clash
  pub is : IsClash (state_at trail) txn.0 wrote clash
  pub by_is : by ≡ clash.by
  pub table_is : table ≡ is.touch.table
  pub partition_is : partition ≡ is.touch.partition

-- the transaction runs and met this conflict: its cause fits, and its line has the table's name
pub record HasMet (trail : List TrailItem) (txn : TxnId) (wrote : List Touch) (name : List ℕ)
    (found : Conflict) : Type 0 where
  pub by : TxnId
  pub table : TableId
  pub partition : List ℕ
  pub conflict : IsConflict trail txn wrote by table partition
  pub cause_is : found.cause ≡ cause.Conflict by table partition
  pub line : found.aborted.text ≡ conflict_text by.0 name partition
  pub fits : EntryFits trail (entry.Abort txn (cause.Conflict by table partition))
  pub runs : RunsWith trail txn 1

-- ---- what is answered

-- it has the marks of its files, the commit fits, and its transaction has no second write id
pub record CommitsAlone (trail : List TrailItem) (txn : TxnId) (wrote : List Touch) (places : List Place) : Type 0 where
  pub put : WerePut trail txn places
  pub fits : EntryFits trail (entry.Commit txn wrote)
  pub alone : HasAtMost trail txn 1

-- all that its Commit asks of it but that it meets no conflict
pub record IsReadyWith (wrote : List Touch) (transaction : Transaction) : Type 0 where
  pub running : IsRunning transaction
  pub rise : Rise wrote
  pub own : AllByRecursion (IsOwnTouch transaction) wrote
  pub used : AllByRecursion (λ given. IsTrue (is_touched wrote given)) transaction.given

-- what a commit rests on: it has the marks of its files, and runs, with touches that are its own, under one write id at most
pub record RestsOnCommit (trail : List TrailItem) (txn : TxnId) (wrote : List Touch)
    (places : List Place) : Type 0 where
  pub put : WerePut trail txn places
  pub ready : Of (state_at trail) txn.0 (IsReadyWith wrote)
  pub alone : HasAtMost trail txn 1

-- it committed by the next entry: no call on files had failed for it
pub record HasCommitted (trail : List TrailItem) (txn : TxnId) (wrote : List Touch) (places : List Place)
    (at : ℕ) : Type 0 where
  pub place : at ≡ length (book_of trail)
  pub unbroken : broken (Txn txn) trail ≡ None
  pub fits : CommitsAlone trail txn wrote places

-- it was aborted by the next entry, for this conflict, and this is what is printed
pub record HasConflicted (trail : List TrailItem) (txn : TxnId) (wrote : List Touch) (name : List ℕ)
    (aborted : Aborted) : Type 0 where
  pub place : aborted.at ≡ length (book_of trail)
  pub by : TxnId
  pub table : TableId
  pub partition : List ℕ
  pub conflict : IsConflict trail txn wrote by table partition
  pub cause_is : aborted.cause ≡ cause.Conflict by table partition
  pub line : aborted.text ≡ conflict_text by.0 name partition
  pub fits : EntryFits trail (entry.Abort txn aborted.cause)
  pub runs : RunsWith trail txn 1

abbrev pub CommitAnswers : List TrailItem → TxnId → List Touch → List ℕ → List Place → Result Committed ActFault
    → Type 0
CommitAnswers trail txn wrote name places (Ok (committed.At place)) = HasCommitted trail txn wrote places place
CommitAnswers trail txn wrote name places (Ok (committed.Aborted aborted)) = HasConflicted trail txn wrote name aborted
CommitAnswers trail txn wrote name places (Err why) = IsWhy FilesTest trail txn (RestsOnCommit trail txn wrote places)
    why

-- all that is promised of a transaction that was to commit
pub record CommitStep {D : Type 0} (told : D → Option Store) (faults : D → ℕ) (due : CommitWrites)
    (before now : House D)
    (result : Result Committed ActFault) : Type 0 where
  pub keeps : IsWholeOrClosed told now
  pub step : Step told faults (call_to_commit due.txn due.wrote result) (answer_outcome result) (seen_of before)
      (seen_of now)
  pub answers : CommitAnswers (trail_of before.trail) due.txn due.wrote due.name due.put result
  pub leaves : AnswerLeaves told faults due.txn.0 (seen_of before) (seen_of now) result
