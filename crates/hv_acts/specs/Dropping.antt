-- A table that is dropped.
use Rattle.std.specs.Prelude.{◌≡◌, ℕ, Option, List, length, Result}
use Rattle.hv_base.specs.declared.ids.TxnId.{TxnId}
use Rattle.hv_base.specs.declared.ids.TableId.{TableId}
use Rattle.hv_shelf.specs.Disk.{Store}
use Rattle.hv_history.specs.declared.entry.Entry.{Entry}
use Rattle.hv_history.specs.declared.entry.Entry.TheVariants as entry
use Rattle.hv_trail.specs.declared.trail.TrailItem.{TrailItem}
use Rattle.hv_trail.specs.Trail.{book_of}
use Rattle.hv_trail.specs.Kept.{trail_of}
use Rattle.hv_trail.specs.Steps.{Note, Step}
use Rattle.hv_telling.specs.hv_house.specs.declared.house.House.{House}
use Rattle.hv_telling.specs.hv_house.specs.Steps.{seen_of}
use Rattle.hv_acts.specs.Told.{IsWholeOrClosed}
use Rattle.hv_acts.specs.Meant.{HasAtMost}
use Rattle.hv_acts.specs.declared.fault.ActFault.{ActFault}
use Rattle.hv_acts.specs.Answers.{answer_call, answer_outcome, NoTest, EntryFits, Answers, AnswerLeaves, OwnTable}

-- the entry by which it is dropped, at that place
abbrev pub drop_of : TxnId → TableId → ℕ → Entry
drop_of txn table at = entry.Drop txn table

-- its Drop fits, and its transaction has no write id
abbrev pub CanDrop : List TrailItem → TxnId → TableId → Type 0
CanDrop trail txn table = EntryFits trail (entry.Drop txn table) × HasAtMost trail txn 0

-- its Drop has the next place
abbrev pub IsDroppedAt : List TrailItem → ℕ → Type 0
IsDroppedAt trail at = at ≡ length (book_of trail)

-- all that is promised of a table that a transaction was to drop
pub record DropStep {D : Type 0} (told : D → Option Store) (faults : D → ℕ) (own : OwnTable) (before now : House D)
    (result : Result ℕ ActFault) : Type 0 where
  pub keeps : IsWholeOrClosed told now
  pub step : Step told faults (answer_call (Note (entry.Drop own.txn own.table)) result) (answer_outcome result)
      (seen_of before) (seen_of now)
  pub answers : Answers NoTest (trail_of before.trail) own.txn (CanDrop (trail_of before.trail) own.txn own.table)
      (IsDroppedAt (trail_of before.trail)) result
  pub leaves : AnswerLeaves told faults own.txn.0 (seen_of before) (seen_of now) result
