-- A write id that is given, or an abort where there is no room for it.
use Rattle.std.specs.Prelude.{◌≡◌, ℕ, if◌then◌else◌, IsTrue, IsSomeAnd, Option, List, [], ◌∷◌, Result, Ok, Err}
use Rattle.hv_base.specs.declared.ids.TxnId.{TxnId}
use Rattle.hv_base.specs.declared.ids.TableId.{TableId}
use Rattle.hv_base.specs.declared.ids.WriteId.{WriteId}
use Rattle.hv_shelf.specs.Disk.{Store}
use Rattle.hv_history.specs.declared.entry.Entry.{Entry}
use Rattle.hv_history.specs.declared.entry.Entry.TheVariants as entry
use Rattle.hv_history.specs.declared.entry.Cause.TheVariants as cause
use Rattle.hv_history.specs.declared.state.Table.{Table}
use Rattle.hv_history.specs.State.{numbered}
use Rattle.hv_history.specs.Legal.{Of, FullFits, profile}
use Rattle.hv_trail.specs.declared.trail.TrailItem.{TrailItem}
use Rattle.hv_trail.specs.declared.trail.TrailItem.TheVariants.{Noted}
use Rattle.hv_trail.specs.Trail.{state_at}
use Rattle.hv_trail.specs.Kept.{trail_of}
use Rattle.hv_trail.specs.Steps.{Call, Note, Step}
use Rattle.hv_telling.specs.hv_house.specs.declared.house.House.{House}
use Rattle.hv_telling.specs.hv_house.specs.Steps.{seen_of}
use Rattle.hv_acts.specs.Told.{IsWholeOrClosed}
use Rattle.hv_acts.specs.declared.giving.Given.{Given}
use Rattle.hv_acts.specs.declared.giving.Given.TheVariants as given
use Rattle.hv_acts.specs.declared.aborted.Aborted.{Aborted}
use Rattle.hv_acts.specs.declared.fault.ActFault.{ActFault}
use Rattle.hv_acts.specs.Meant.{HasAtMost, RunsWith}
use Rattle.hv_acts.specs.Answers.{call_behind, answer_outcome, NoTest, IsWhy, EntryFits, IsAbortedAt, AnswerLeaves, OwnTable, next_id}
use Rattle.hv_acts.specs.Aborting.{is_full}

-- what is to be noted: the write id, or an abort where there is no room for it
unfoldable pub to_give : List TrailItem → TxnId → TableId → Entry
to_give trail txn table = if is_full (state_at trail) then entry.Abort txn cause.Full else entry.Given txn table
    (next_id trail table)

abbrev pub call_to_give : List TrailItem → TxnId → TableId → Result Given ActFault → Call
call_to_give trail txn table (Ok (given.Id write)) = Note (entry.Given txn table (next_id trail table))
call_to_give trail txn table (Ok (given.Aborted aborted)) = Note (entry.Abort txn aborted.cause)
call_to_give trail txn table (Err why) = call_behind (Note (to_give trail txn table)) why

abbrev pub adds_given : TxnId → TableId → Result Given ActFault → List TrailItem
adds_given txn table (Ok (given.Id write)) = Noted (entry.Given txn table write) ∷ []
adds_given txn table (Ok (given.Aborted aborted)) = Noted (entry.Abort txn aborted.cause) ∷ []
adds_given txn table (Err why) = []

-- it fits, and its transaction has none yet
abbrev pub GivenFits : List TrailItem → TxnId → TableId → Type 0
GivenFits trail txn table = EntryFits trail (entry.Given txn table (next_id trail table)) × HasAtMost trail txn 0

-- what a write id rests on: its transaction runs without one, and its table is live
pub record RestsOnId (trail : List TrailItem) (txn : TxnId) (table : TableId) : Type 0 where
  pub runs : RunsWith trail txn 0
  pub lives : IsSomeAnd (numbered (state_at trail).tables table.0) (λ (t : Table). IsTrue t.is_live)

-- it was aborted: it runs without a write id, and there is no room for an entry more
pub record IsAbortedFull (trail : List TrailItem) (txn : TxnId) (aborted : Aborted) : Type 0 where
  pub at : IsAbortedAt trail aborted
  pub cause_is : aborted.cause ≡ cause.Full
  pub runs : RunsWith trail txn 0
  pub full : Of (state_at trail) txn.0 (FullFits profile (state_at trail))

abbrev pub GiveAnswers : List TrailItem → TxnId → TableId → Result Given ActFault → Type 0
GiveAnswers trail txn table (Ok (given.Id write)) = GivenFits trail txn table × (write ≡ next_id trail table)
GiveAnswers trail txn table (Ok (given.Aborted aborted)) = IsAbortedFull trail txn aborted
GiveAnswers trail txn table (Err why) = IsWhy NoTest trail txn (RestsOnId trail txn table) why

-- all that is promised of a write id that was to be given
pub record GiveStep {D : Type 0} (told : D → Option Store) (faults : D → ℕ) (own : OwnTable) (before now : House D)
    (result : Result Given ActFault) : Type 0 where
  pub keeps : IsWholeOrClosed told now
  pub step : Step told faults (call_to_give (trail_of before.trail) own.txn own.table result) (answer_outcome result)
      (seen_of before) (seen_of now)
  pub answers : GiveAnswers (trail_of before.trail) own.txn own.table result
  pub leaves : AnswerLeaves told faults own.txn.0 (seen_of before) (seen_of now) result
