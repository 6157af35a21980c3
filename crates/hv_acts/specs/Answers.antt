-- What an act answers: the call that was made, how it ended, what it added, and why it was refused.
use Rattle.std.specs.Prelude.{◌≡◌, ℕ, ◌+◌, ◌<◌, ◌≤◌, true, false, Option, Some, None, List, [], ◌∷◌, length, Contains, Result, Ok, Err}
use Rattle.std.specs.List.{AllByRecursion}
use Rattle.hv_base.specs.Faults.{Rose}
use Rattle.hv_base.specs.declared.ids.TxnId.{TxnId}
use Rattle.hv_base.specs.declared.ids.TableId.{TableId}
use Rattle.hv_base.specs.declared.ids.WriteId.{WriteId}
use Rattle.hv_shelf.specs.Disk.{Store}
use Rattle.hv_history.specs.declared.entry.Entry.{Entry}
use Rattle.hv_history.specs.declared.entry.Entry.TheVariants as entry
use Rattle.hv_history.specs.declared.entry.Cause.{Cause}
use Rattle.hv_history.specs.declared.entry.Cause.TheVariants as cause
use Rattle.hv_history.specs.Answers.{cause_text}
use Rattle.hv_history.specs.declared.state.Table.{Table}
use Rattle.hv_history.specs.State.{numbered}
use Rattle.hv_history.specs.Legal.{Of, Fits, AllFit, FullFits, BlockedFits, profile}
use Rattle.hv_meta.specs.declared.facts.TxnState.{TxnState}
use Rattle.hv_meta.specs.declared.facts.TxnState.TheVariants as standing
use Rattle.hv_meta.specs.States.{state_in}
use Rattle.hv_trail.specs.declared.trail.Reader.TheVariants.{Txn}
use Rattle.hv_trail.specs.declared.trail.TrailItem.{TrailItem}
use Rattle.hv_trail.specs.declared.trail.TrailItem.TheVariants.{Noted, Marked}
use Rattle.hv_trail.specs.declared.trail.Mark.TheVariants.{Broke}
use Rattle.hv_trail.specs.Trail.{book_of, state_at, broken}
use Rattle.hv_trail.specs.Kept.{trail_of}
use Rattle.hv_trail.specs.Steps.{HouseSeen, Call, Note, Ask, Outcome, Done, Refused, Step}
use Rattle.hv_stands.specs.Running.{AreOf}
use Rattle.hv_telling.specs.hv_house.specs.declared.fault.HouseFault.{HouseFault}
use Rattle.hv_telling.specs.hv_house.specs.declared.fault.HouseFault.TheVariants as fault
use Rattle.hv_telling.specs.hv_house.specs.declared.house.House.{House}
use Rattle.hv_telling.specs.hv_house.specs.House.{Leaves}
use Rattle.hv_telling.specs.hv_house.specs.Steps.{seen_of, fault_outcome}
use Rattle.hv_acts.specs.Told.{IsWholeOrClosed}
use Rattle.hv_acts.specs.declared.aborted.Aborted.{Aborted}
use Rattle.hv_acts.specs.declared.fault.ActFault.{ActFault}
use Rattle.hv_acts.specs.declared.fault.ActFault.TheVariants as act

-- ---- the call, and how it ended

-- a refused act; where a test refused it the house was only asked
abbrev pub act_outcome : ActFault → Outcome
act_outcome (act.Ended at) = Refused
act_outcome (act.Full entries) = Refused
act_outcome (act.Held by) = Refused
act_outcome (act.Broken put count) = Refused
act_outcome act.Unfit = Refused
act_outcome (act.House why) = fault_outcome why

abbrev pub call_behind : Call → ActFault → Call
call_behind call (act.Ended at) = Ask
call_behind call (act.Full entries) = Ask
call_behind call (act.Held by) = Ask
call_behind call (act.Broken put count) = Ask
call_behind call act.Unfit = Ask
call_behind call (act.House why) = call

abbrev pub answer_outcome : {T : Type 0} → Result T ActFault → Outcome
answer_outcome (Ok x) = Done
answer_outcome (Err why) = act_outcome why

abbrev pub answer_call : {T : Type 0} → Call → Result T ActFault → Call
answer_call call (Ok x) = call
answer_call call (Err why) = call_behind call why

-- one entry is added, or nothing
abbrev pub adds_entry : {T : Type 0} → (T → Entry) → Result T ActFault → List TrailItem
adds_entry event (Ok x) = Noted (event x) ∷ []
adds_entry event (Err why) = []

-- ---- why

abbrev pub HasNotEnded : TxnState → Type 0
HasNotEnded standing.Unknown = Unit {0}
HasNotEnded (standing.Running started) = Unit {0}
HasNotEnded (standing.Ended at) = ⊥

-- its transaction was ended by the entry that is named, or it wasn't ended
abbrev pub IsLate : List TrailItem → TxnId → ActFault → Type 0
IsLate trail txn (act.Ended at) = state_in (state_at trail) txn.0 ≡ standing.Ended at
IsLate trail txn act.Unfit = HasNotEnded (state_in (state_at trail) txn.0)
IsLate trail txn why = ⊥

-- what an act tests beside its fact: nothing, whether its Start has to wait or finds no room, or whether a call on files failed before
pub data Test : Type 0 where
  NoTest : Test
  StartTest : Test
  FilesTest : Test

abbrev pub IsStartTest : Test → Type 0
IsStartTest NoTest = ⊥
IsStartTest StartTest = Unit {0}
IsStartTest FilesTest = ⊥

abbrev pub IsFilesTest : Test → Type 0
IsFilesTest NoTest = ⊥
IsFilesTest StartTest = ⊥
IsFilesTest FilesTest = Unit {0}

-- Why an act of this transaction that makes such a test and rests on that fact was refused, on a house with this trail. A call that failed
-- says nothing here: its step does.
abbrev pub IsWhy : Test → List TrailItem → TxnId → Type 0 → ActFault → Type 0
IsWhy test trail txn Fact (act.Ended at) = state_in (state_at trail) txn.0 ≡ standing.Ended at
IsWhy test trail txn Fact (act.Full entries) = IsStartTest test × (entries ≡ length (book_of trail))
    × Of (state_at trail) txn.0 (FullFits profile (state_at trail))
IsWhy test trail txn Fact (act.Held by) = IsStartTest test
    × Of (state_at trail) txn.0 (BlockedFits (state_at trail) by.0)
IsWhy test trail txn Fact (act.Broken put count) = IsFilesTest test × (broken (Txn txn) trail ≡ Some (put, count))
IsWhy test trail txn Fact act.Unfit = HasNotEnded (state_in (state_at trail) txn.0) × (Fact → ⊥)
IsWhy test trail txn Fact (act.House why) = Unit {0}

-- it is done only where the fact holds, and its answer is so
abbrev pub Answers : {T : Type 0} → Test → List TrailItem → TxnId → Type 0 → (T → Type 0) → Result T ActFault → Type 0
Answers test trail txn Fact is (Ok x) = Fact × is x
Answers test trail txn Fact is (Err why) = IsWhy test trail txn Fact why

-- ---- a house that is open, and what a call leaves whose store failed

-- it opens no transaction
abbrev pub OpensNone : Entry → Type 0
OpensNone (entry.Opened txn session number text) = ⊥
OpensNone event = Unit {0}

-- The call was to note these entries at most, one or none, which are this transaction's, no Opened, and fit: the journal reads to the book,
-- or to the book and them.
pub record IsCutShort {D : Type 0} (told : D → Option Store) (txn : ℕ) (before now : HouseSeen D) : Type 0 where
  pub further : List Entry
  pub of_it : AreOf txn further
  pub unopened : AllByRecursion OpensNone further
  pub few : length further ≤ 1
  pub fit : AllFit profile (state_at before.trail) further
  pub leaves : Leaves fault.Store further (told now.shelf) (book_of before.trail)

-- only a closed house, or one whose store fails now, answers that the store failed; then its count of faults rose
abbrev pub FaultLeaves : {D : Type 0} → (D → Option Store) → (D → ℕ) → ℕ → HouseSeen D → HouseSeen D → HouseFault
    → Type 0
FaultLeaves told faults txn before now fault.Store = before.closed ≡ false → IsCutShort told txn before now
    × Rose (faults before.shelf) (faults now.shelf)
FaultLeaves told faults txn before now fault.NoMemory = before.closed ≡ false
FaultLeaves told faults txn before now (fault.Failed count) = before.closed ≡ false

abbrev pub WhyLeaves : {D : Type 0} → (D → Option Store) → (D → ℕ) → ℕ → HouseSeen D → HouseSeen D → ActFault → Type 0
WhyLeaves told faults txn before now (act.House why) = FaultLeaves told faults txn before now why
WhyLeaves told faults txn before now why = before.closed ≡ false

abbrev pub AnswerLeaves : {D T : Type 0} → (D → Option Store) → (D → ℕ) → ℕ → HouseSeen D → HouseSeen D
    → Result T ActFault → Type 0
AnswerLeaves told faults txn before now (Ok x) = before.closed ≡ false
AnswerLeaves told faults txn before now (Err why) = WhyLeaves told faults txn before now why

-- a fault of a call on files that has a count: the store's count of faults rose to it in this call
abbrev pub FaultRises : {D : Type 0} → (D → ℕ) → HouseSeen D → HouseFault → Type 0
FaultRises faults before (fault.Failed count) = faults before.shelf < count
FaultRises faults before fault.Store = Unit {0}
FaultRises faults before fault.NoMemory = Unit {0}

abbrev pub WhyRises : {D : Type 0} → (D → ℕ) → HouseSeen D → ActFault → Type 0
WhyRises faults before (act.House why) = FaultRises faults before why
WhyRises faults before why = Unit {0}

-- ---- an entry that is noted where it fits

abbrev pub EntryFits : List TrailItem → Entry → Type 0
EntryFits trail event = Fits profile (state_at trail) event

-- an entry, and the transaction that has it noted
pub record OwnEntry : Type 0 where
  pub txn : TxnId
  pub event : Entry

abbrev pub own_entry : TxnId → Entry → OwnEntry
own_entry txn event = record { txn = txn; event = event }

-- a table, and the transaction that asks something of it
pub record OwnTable : Type 0 where
  pub txn : TxnId
  pub table : TableId

abbrev pub own_table : TxnId → TableId → OwnTable
own_table txn table = record { txn = txn; table = table }

-- all that is promised of an entry of a transaction that was to be noted
pub record EntryStep {D T : Type 0} (told : D → Option Store) (faults : D → ℕ) (own : OwnEntry) (before now : House D)
    (result : Result T ActFault) : Type 0 where
  pub keeps : IsWholeOrClosed told now
  pub step : Step told faults (answer_call (Note own.event) result) (answer_outcome result) (seen_of before)
      (seen_of now)
  pub answers : Answers NoTest (trail_of before.trail) own.txn (EntryFits (trail_of before.trail) own.event)
      (λ x. Unit {0}) result
  pub leaves : AnswerLeaves told faults own.txn.0 (seen_of before) (seen_of now) result

-- ---- numbers that are given next

abbrev pub id_behind : Option Table → ℕ
id_behind None = 1
id_behind (Some table) = length table.owners + 1

-- the write id that a table gives next
abbrev pub next_id : List TrailItem → TableId → WriteId
next_id trail table = record { 0 = id_behind (numbered (state_at trail).tables table.0) }

-- the number of the table that is made next
abbrev pub next_table : List TrailItem → TableId
next_table trail = record { 0 = length (state_at trail).tables + 1 }

-- ---- an abort

-- where an act aborted its transaction in its hold: for this cause, and this is what is printed
abbrev pub aborted_line : Cause → List ℕ
aborted_line why = cause_text None why

-- the entry at that place aborts it for the cause that is told
pub record IsAbortedAt (trail : List TrailItem) (aborted : Aborted) : Type 0 where
  pub place : aborted.at ≡ length (book_of trail)
  pub line : aborted.text ≡ aborted_line aborted.cause

-- an abort for a call on files that failed has the mark of it
abbrev pub HasItsMark : List TrailItem → TxnId → Cause → Type 0
HasItsMark trail txn (cause.ReadFault count) = Contains trail (Marked (Broke (Some (Txn txn)) false count))
HasItsMark trail txn (cause.WriteFault count) = Contains trail (Marked (Broke (Some (Txn txn)) true count))
HasItsMark trail txn why = Unit {0}
