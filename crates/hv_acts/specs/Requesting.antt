-- An abort of another transaction that a statement asks for.
use Rattle.std.specs.Prelude.{◌≡◌, ℕ, Bool, true, false, List, [], ◌∷◌, Option, Result, Ok, Err}
use Rattle.hv_base.specs.declared.ids.TxnId.{TxnId}
use Rattle.hv_shelf.specs.Disk.{Store}
use Rattle.hv_history.specs.declared.entry.Entry.{Entry}
use Rattle.hv_history.specs.declared.entry.Entry.TheVariants as entry
use Rattle.hv_history.specs.declared.entry.Cause.TheVariants as cause
use Rattle.hv_history.specs.declared.state.Transaction.{Transaction}
use Rattle.hv_history.specs.State.{opening_tree}
use Rattle.hv_history.specs.Legal.{Of, asks_to_abort}
use Rattle.hv_trail.specs.declared.trail.TrailItem.{TrailItem}
use Rattle.hv_trail.specs.declared.trail.TrailItem.TheVariants.{Noted}
use Rattle.hv_trail.specs.Trail.{state_at}
use Rattle.hv_trail.specs.Kept.{trail_of}
use Rattle.hv_trail.specs.Steps.{Call, Note, Ask, Step}
use Rattle.hv_telling.specs.hv_house.specs.declared.house.House.{House}
use Rattle.hv_telling.specs.hv_house.specs.Steps.{seen_of}
use Rattle.hv_acts.specs.declared.requesting.AskAbort.{AskAbort}
use Rattle.hv_acts.specs.declared.fault.ActFault.{ActFault}
use Rattle.hv_acts.specs.Told.{IsWholeOrClosed}
use Rattle.hv_acts.specs.Passing.{is_left}
use Rattle.hv_acts.specs.Meant.{RunsWith}
use Rattle.hv_acts.specs.Answers.{call_behind, answer_outcome, NoTest, IsWhy, EntryFits, AnswerLeaves}

-- the abort of that transaction which this one asks for
abbrev pub requested : TxnId → TxnId → Entry
requested by txn = entry.Abort txn (cause.Request by)

-- what such an abort rests on: the asker runs and has no write id, and its text lists that transaction
pub record RestsOnRequest (trail : List TrailItem) (by txn : TxnId) : Type 0 where
  pub runs : RunsWith trail by 0
  pub asks : Of (state_at trail) by.0 (λ (asker : Transaction). asks_to_abort txn.0 (opening_tree asker) ≡ true)

abbrev pub call_to_request : TxnId → TxnId → Result Bool ActFault → Call
call_to_request by txn (Ok true) = Note (requested by txn)
call_to_request by txn (Ok false) = Ask
call_to_request by txn (Err why) = call_behind (Note (requested by txn)) why

abbrev pub adds_request : TxnId → TxnId → Result Bool ActFault → List TrailItem
adds_request by txn (Ok true) = Noted (requested by txn) ∷ []
adds_request by txn (Ok false) = []
adds_request by txn (Err why) = []

-- it was noted where it was left to ask for, and fits; or nothing was left to ask for
abbrev pub RequestAnswers : List TrailItem → TxnId → ℕ → TxnId → Result Bool ActFault → Type 0
RequestAnswers trail by place txn (Ok true) = (is_left trail by place txn.0 ≡ true) × EntryFits trail (requested by txn)
RequestAnswers trail by place txn (Ok false) = is_left trail by place txn.0 ≡ false
RequestAnswers trail by place txn (Err why) = IsWhy NoTest trail by (RestsOnRequest trail by txn) why

-- all that is promised of an abort that was to be asked for
pub record RequestStep {D : Type 0} (told : D → Option Store) (faults : D → ℕ) (asked : AskAbort) (before now : House D)
    (result : Result Bool ActFault) : Type 0 where
  pub keeps : IsWholeOrClosed told now
  pub step : Step told faults (call_to_request asked.by asked.txn result) (answer_outcome result) (seen_of before)
      (seen_of now)
  pub answers : RequestAnswers (trail_of before.trail) asked.by asked.place asked.txn result
  pub leaves : AnswerLeaves told faults asked.by.0 (seen_of before) (seen_of now) result
