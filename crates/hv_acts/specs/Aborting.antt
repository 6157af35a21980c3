-- An abort that an act notes in its hold, whose line was made before.
use Rattle.std.specs.Prelude.{◌≡◌, ℕ, ◌+◌, false, Bool, nat_lt, Option, List, length, Result, IfOk, IfErr}
use Rattle.hv_base.specs.declared.ids.TxnId.{TxnId}
use Rattle.hv_shelf.specs.Disk.{Store}
use Rattle.hv_history.specs.declared.entry.Entry.TheVariants as entry
use Rattle.hv_history.specs.declared.entry.Cause.{Cause}
use Rattle.hv_history.specs.State.{State}
use Rattle.hv_history.specs.Legal.{load, profile}
use Rattle.hv_trail.specs.declared.trail.TrailItem.{TrailItem}
use Rattle.hv_trail.specs.Trail.{book_of}
use Rattle.hv_trail.specs.Kept.{trail_of}
use Rattle.hv_trail.specs.Steps.{Note, Step}
use Rattle.hv_telling.specs.hv_house.specs.declared.fault.HouseFault.{HouseFault}
use Rattle.hv_telling.specs.hv_house.specs.declared.house.House.{House}
use Rattle.hv_telling.specs.hv_house.specs.Steps.{seen_of, outcome_of}
use Rattle.hv_acts.specs.Told.{IsWholeOrClosed}
use Rattle.hv_acts.specs.declared.aborted.Aborted.{Aborted}
use Rattle.hv_acts.specs.Answers.{FaultLeaves}

-- it tells of the abort that is noted next: for this cause, with this line
pub record TellsNext (trail : List TrailItem) (why : Cause) (line : List ℕ) (aborted : Aborted) : Type 0 where
  pub place : aborted.at ≡ length (book_of trail)
  pub cause_is : aborted.cause ≡ why
  pub line_is : aborted.text ≡ line

-- an abort of a transaction that is to be noted: its cause, and the line that is told of it
pub record AbortDue : Type 0 where
  pub txn : TxnId
  pub why : Cause
  pub line : List ℕ

abbrev pub abort_of : TxnId → Cause → List ℕ → AbortDue
abort_of txn why line = record { txn = txn; why = why; line = line }

-- all that is promised of an abort that was to be noted
pub record AbortStep {D : Type 0} (told : D → Option Store) (faults : D → ℕ) (abort : AbortDue) (before now : House D)
    (result : Result Aborted HouseFault) : Type 0 where
  pub running : before.trail.closed ≡ false
  pub keeps : IsWholeOrClosed told now
  pub step : Step told faults (Note (entry.Abort abort.txn abort.why)) (outcome_of result) (seen_of before)
      (seen_of now)
  pub tells : IfOk result (TellsNext (trail_of before.trail) abort.why abort.line)
  pub leaves : IfErr result (FaultLeaves told faults abort.txn.0 (seen_of before) (seen_of now))

-- no entry more that asks for room would fit
abbrev pub is_full : State → Bool
is_full state = nat_lt profile.entries (load state + 1)
