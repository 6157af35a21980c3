-- A transaction that starts in one hold, or is aborted there for what stands in its way.
use Rattle.std.specs.Prelude.{◌≡◌, ℕ, Bool, true, false, ◌&&◌, not, if◌then◌else◌, Option, Some, None, List, [], ◌∷◌, length, Result, Ok, Err}
use Rattle.hv_base.specs.declared.ids.TxnId.{TxnId}
use Rattle.hv_shelf.specs.Disk.{Store}
use Rattle.hv_history.specs.declared.entry.Entry.{Entry}
use Rattle.hv_history.specs.declared.entry.Entry.TheVariants as entry
use Rattle.hv_history.specs.declared.entry.Cause.{Cause}
use Rattle.hv_history.specs.declared.entry.Cause.TheVariants as cause
use Rattle.hv_history.specs.declared.state.Transaction.{Transaction}
use Rattle.hv_history.specs.State.{State, numbered}
use Rattle.hv_history.specs.Legal.{Of, is_open, is_started, IsWaiting, locks_of, first_holder, BlockedFits, FullFits, profile}
use Rattle.hv_trail.specs.declared.trail.TrailItem.{TrailItem}
use Rattle.hv_trail.specs.declared.trail.TrailItem.TheVariants.{Noted}
use Rattle.hv_trail.specs.Trail.{book_of, state_at}
use Rattle.hv_trail.specs.Kept.{trail_of}
use Rattle.hv_trail.specs.Steps.{Call, Note, Step}
use Rattle.hv_telling.specs.hv_house.specs.declared.house.House.{House}
use Rattle.hv_telling.specs.hv_house.specs.Steps.{seen_of}
use Rattle.hv_acts.specs.Told.{IsWholeOrClosed}
use Rattle.hv_acts.specs.declared.starting.Started.{Started}
use Rattle.hv_acts.specs.declared.starting.Started.TheVariants as started
use Rattle.hv_acts.specs.declared.fault.ActFault.{ActFault}
use Rattle.hv_acts.specs.Answers.{call_behind, answer_outcome, NoTest, IsWhy, EntryFits, IsAbortedAt, AnswerLeaves}
use Rattle.hv_acts.specs.Aborting.{is_full}
use Rattle.hv_acts.specs.Meant.{RestsOnStart}

-- what is to be noted where it waits: an abort for the one that holds a lock against it, or for want of room, or else its Start
abbrev pub start_entry : TxnId → Bool → Option ℕ → Entry
start_entry txn full (Some holder) = entry.Abort txn (cause.Blocked (record { 0 = holder }))
start_entry txn true None = entry.Abort txn cause.Full
start_entry txn false None = entry.Start txn 0

abbrev pub entry_to_start : State → TxnId → Option Transaction → Entry
entry_to_start state txn None = entry.Start txn 0
entry_to_start state txn (Some transaction) =
    if is_open transaction && not (is_started transaction)
    then start_entry txn (is_full state) (first_holder (locks_of transaction) 1 state.transactions)
    else entry.Start txn 0

unfoldable pub to_start : List TrailItem → TxnId → Entry
to_start trail txn = entry_to_start (state_at trail) txn (numbered (state_at trail).transactions txn.0)

abbrev pub call_to_start : List TrailItem → TxnId → Result Started ActFault → Call
call_to_start trail txn (Ok (started.At place)) = Note (entry.Start txn 0)
call_to_start trail txn (Ok (started.Aborted aborted)) = Note (entry.Abort txn aborted.cause)
call_to_start trail txn (Err why) = call_behind (Note (to_start trail txn)) why

abbrev pub adds_started : TxnId → Result Started ActFault → List TrailItem
adds_started txn (Ok (started.At place)) = Noted (entry.Start txn 0) ∷ []
adds_started txn (Ok (started.Aborted aborted)) = Noted (entry.Abort txn aborted.cause) ∷ []
adds_started txn (Err why) = []

-- it waits, and there is no room for an entry more
abbrev pub WaitsWithoutRoom : State → Transaction → Type 0
WaitsWithoutRoom state transaction = IsWaiting transaction × FullFits profile state transaction

abbrev pub WaitsInFull : List TrailItem → TxnId → Type 0
WaitsInFull trail txn = Of (state_at trail) txn.0 (WaitsWithoutRoom (state_at trail))

-- it waits, nobody holds a lock against it, and there is no room for an entry more
pub record IsShort (state : State) (transaction : Transaction) : Type 0 where
  pub waiting : IsWaiting transaction
  pub full : FullFits profile state transaction
  pub unheld : (holder : ℕ) → BlockedFits state holder transaction → ⊥

-- what stands in its way: the lowest open started transaction that holds a lock against it; or none does, and there is no room
abbrev pub IsInItsWay : List TrailItem → TxnId → Cause → Type 0
IsInItsWay trail txn (cause.Blocked holder) = Of (state_at trail) txn.0 (BlockedFits (state_at trail) holder.0)
IsInItsWay trail txn cause.Full = Of (state_at trail) txn.0 (IsShort (state_at trail))
IsInItsWay trail txn why = ⊥

abbrev pub StartOrAbortAnswers : List TrailItem → TxnId → Result Started ActFault → Type 0
StartOrAbortAnswers trail txn (Ok (started.At place)) = EntryFits trail (entry.Start txn 0)
    × (place ≡ length (book_of trail))
StartOrAbortAnswers trail txn (Ok (started.Aborted aborted)) = IsAbortedAt trail aborted
    × IsInItsWay trail txn aborted.cause
StartOrAbortAnswers trail txn (Err why) = IsWhy NoTest trail txn (RestsOnStart trail txn) why

-- all that is promised of a transaction that was to start or be aborted
pub record StartOrAbortStep {D : Type 0} (told : D → Option Store) (faults : D → ℕ) (txn : TxnId) (before now : House D)
    (result : Result Started ActFault) : Type 0 where
  pub keeps : IsWholeOrClosed told now
  pub step : Step told faults (call_to_start (trail_of before.trail) txn result) (answer_outcome result)
      (seen_of before) (seen_of now)
  pub answers : StartOrAbortAnswers (trail_of before.trail) txn result
  pub leaves : AnswerLeaves told faults txn.0 (seen_of before) (seen_of now) result
