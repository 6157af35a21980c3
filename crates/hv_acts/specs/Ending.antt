-- What an act answers that asks how a transaction has ended: where others ended it, what is printed for that.
-- Source: the texts are this project's profile.
use Rattle.std.specs.Prelude.{◌≡◌, ℕ, true, false, Option, Some, None, List, [], Result, Ok, Err, option_and_then}
use Rattle.std.specs.List.{slice_get}
use Rattle.hv_base.specs.declared.ids.TxnId.{TxnId}
use Rattle.hv_base.specs.declared.failure.NoMemory.{NoMemory}
use Rattle.hv_shelf.specs.Disk.{Store}
use Rattle.hv_history.specs.declared.entry.Entry.{Entry}
use Rattle.hv_history.specs.declared.entry.Entry.TheVariants as entry
use Rattle.hv_history.specs.declared.entry.Cause.{Cause}
use Rattle.hv_meta.specs.declared.facts.TxnState.TheVariants as standing
use Rattle.hv_meta.specs.States.{state_in}
use Rattle.hv_trail.specs.declared.trail.TrailItem.{TrailItem}
use Rattle.hv_trail.specs.Trail.{book_of, state_at}
use Rattle.hv_trail.specs.Steps.{HouseSeen, Ask, Step}
use Rattle.hv_telling.specs.hv_house.specs.declared.fault.HouseFault.TheVariants as fault
use Rattle.hv_telling.specs.hv_house.specs.declared.house.House.{House}
use Rattle.hv_telling.specs.hv_house.specs.Steps.{seen_of}
use Rattle.hv_acts.specs.declared.ending.EndTold.{EndTold}
use Rattle.hv_acts.specs.declared.fault.ActFault.{ActFault}
use Rattle.hv_acts.specs.declared.fault.ActFault.TheVariants as act
use Rattle.hv_acts.specs.Answers.{answer_outcome, HasNotEnded, aborted_line}
use Rattle.hv_acts.specs.Reading.{IsFindWhy}

-- ---- what is told of an entry

abbrev pub cause_of_entry : Entry → Option Cause
cause_of_entry (entry.Abort txn why) = Some why
cause_of_entry _ = None

-- the cause of the Abort at that place
abbrev pub cause_at : List Entry → ℕ → Option Cause
cause_at entries place = option_and_then cause_of_entry (slice_get entries place)

-- an abort is a refusal, of which its line is printed: for a conflict without a table's name
abbrev pub told_so : ℕ → Option Cause → EndTold
told_so at None = record { at = at; refused = false; text = [] }
told_so at (Some why) = record { at = at; refused = true; text = aborted_line why }

abbrev pub told_at : List Entry → ℕ → EndTold
told_at entries at = told_so at (cause_at entries at)

abbrev pub some_told : Result EndTold NoMemory → Result (Option EndTold) ActFault
some_told (Ok told) = Ok (Some told)
some_told (Err why) = Err (act.House fault.NoMemory)

-- ---- how a transaction has ended

-- by the entry at this place, of which just this is told
pub record HasEndedSo (trail : List TrailItem) (txn : ℕ) (told : EndTold) : Type 0 where
  pub ended : state_in (state_at trail) txn ≡ standing.Ended told.at
  pub told_is : told ≡ told_at (book_of trail) told.at

abbrev pub TellsEnd : List TrailItem → ℕ → Option EndTold → Type 0
TellsEnd trail txn None = HasNotEnded (state_in (state_at trail) txn)
TellsEnd trail txn (Some told) = HasEndedSo trail txn told

-- what an open house tells
pub record HasTold {D : Type 0} (house : HouseSeen D) (txn : TxnId) (told : Option EndTold) : Type 0 where
  pub running : house.closed ≡ false
  pub tells : TellsEnd house.trail txn.0 told

-- a closed house tells nothing, and an open one fails for want of memory alone
abbrev pub EndAnswers : {D : Type 0} → HouseSeen D → TxnId → Result (Option EndTold) ActFault → Type 0
EndAnswers house txn (Ok told) = HasTold house txn told
EndAnswers house txn (Err why) = IsFindWhy house.closed why

-- all that is promised of an end that was to be told: the house was only asked
pub record EndStep {D : Type 0} (told : D → Option Store) (faults : D → ℕ) (txn : TxnId) (house : House D)
    (result : Result (Option EndTold) ActFault) : Type 0 where
  pub step : Step told faults Ask (answer_outcome result) (seen_of house) (seen_of house)
  pub answers : EndAnswers (seen_of house) txn result
