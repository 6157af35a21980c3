-- What an act answers that starts a transaction, or waits: the place of the Start, the abort for want of room, or who stands in its way.
use Rattle.std.specs.Prelude.{◌≡◌, Bool, true, false, List, length, Result, Ok, Err}
use Rattle.hv_base.specs.declared.ids.TxnId.{TxnId}
use Rattle.hv_history.specs.declared.entry.Entry.TheVariants as entry
use Rattle.hv_history.specs.declared.entry.Cause.{Cause}
use Rattle.hv_history.specs.declared.entry.Cause.TheVariants as cause
use Rattle.hv_history.specs.Legal.{Of}
use Rattle.hv_trail.specs.declared.trail.TrailItem.{TrailItem}
use Rattle.hv_trail.specs.Trail.{book_of, state_at}
use Rattle.hv_session.specs.hv_beginning.specs.hv_steps.specs.hv_table_reader.specs.hv_acts.specs.declared.starting.Started.{Started}
use Rattle.hv_session.specs.hv_beginning.specs.hv_steps.specs.hv_table_reader.specs.hv_acts.specs.declared.starting.Started.TheVariants as started
use Rattle.hv_session.specs.hv_beginning.specs.hv_steps.specs.hv_table_reader.specs.hv_acts.specs.declared.fault.ActFault.{ActFault}
use Rattle.hv_session.specs.hv_beginning.specs.hv_steps.specs.hv_table_reader.specs.hv_acts.specs.declared.fault.ActFault.TheVariants as act
use Rattle.hv_session.specs.hv_beginning.specs.hv_steps.specs.hv_table_reader.specs.hv_acts.specs.Answers.{NoTest, IsWhy, EntryFits, IsAbortedAt}
use Rattle.hv_session.specs.hv_beginning.specs.hv_steps.specs.hv_table_reader.specs.hv_acts.specs.Starting.{IsShort}
use Rattle.hv_session.specs.hv_beginning.specs.hv_steps.specs.hv_table_reader.specs.hv_acts.specs.Waiting.{TellsHolder}
use Rattle.hv_session.specs.hv_beginning.specs.hv_steps.specs.hv_table_reader.specs.hv_acts.specs.Meant.{RestsOnStart}
use Rattle.hv_waiting.specs.Queue.{IsInWay}

-- it waited, nobody held a lock against it, and there was no room for an entry more: no other cause is one
abbrev pub IsShortFor : List TrailItem → TxnId → Cause → Type 0
IsShortFor trail txn cause.Full = Of (state_at trail) txn.0 (IsShort (state_at trail))
IsShortFor trail txn why = ⊥

-- it is started only where its Start fits
abbrev pub StartsOrWaits : List TrailItem → TxnId → Result Started ActFault → Type 0
StartsOrWaits trail txn (Ok (started.At place)) = EntryFits trail (entry.Start txn 0)
    × (place ≡ length (book_of trail))
StartsOrWaits trail txn (Ok (started.Aborted aborted)) = IsAbortedAt trail aborted
    × IsShortFor trail txn aborted.cause
StartsOrWaits trail txn (Err (act.Held by)) = IsInWay trail txn by
StartsOrWaits trail txn (Err why) = IsWhy NoTest trail txn (RestsOnStart trail txn) why

-- and where somebody stands in its way, the answer is who does
pub record StartOrWaitAnswers (trail : List TrailItem) (txn : TxnId) (answer : Result Started ActFault) : Type 0 where
  pub answers : StartsOrWaits trail txn answer
  pub way : (by : TxnId) → IsInWay trail txn by → TellsHolder by answer

-- it need not wait
abbrev pub is_settled : Result Started ActFault → Bool
is_settled (Err (act.Held by)) = false
is_settled answer = true
