-- A table that is made.
use Rattle.std.specs.Prelude.{◌≡◌, ℕ, Option, List, length, Result}
use Rattle.hv_base.specs.declared.ids.TxnId.{TxnId}
use Rattle.hv_shelf.specs.Disk.{Store}
use Rattle.hv_history.specs.declared.entry.Entry.{Entry}
use Rattle.hv_history.specs.declared.entry.Entry.TheVariants as entry
use Rattle.hv_trail.specs.declared.trail.TrailItem.{TrailItem}
use Rattle.hv_trail.specs.Trail.{book_of}
use Rattle.hv_trail.specs.Kept.{trail_of}
use Rattle.hv_trail.specs.Steps.{Note, Step}
use Rattle.hv_telling.specs.hv_house.specs.declared.house.House.{House}
use Rattle.hv_telling.specs.hv_house.specs.Steps.{seen_of}
use Rattle.hv_acts.specs.Told.{IsWholeOrClosed}
use Rattle.hv_acts.specs.Meant.{HasAtMost}
use Rattle.hv_acts.specs.declared.fault.ActFault.{ActFault}
use Rattle.hv_acts.specs.declared.making.Made.{Made}
use Rattle.hv_acts.specs.Answers.{next_table, answer_call, answer_outcome, NoTest, EntryFits, Answers, AnswerLeaves}

-- the entry by which it is made
abbrev pub create_of : TxnId → Made → Entry
create_of txn made = entry.Create txn made.table

-- its Create fits, and its transaction has no write id
abbrev pub MakeFits : List TrailItem → TxnId → Type 0
MakeFits trail txn = EntryFits trail (entry.Create txn (next_table trail)) × HasAtMost trail txn 0

-- it has the next number, and its Create the next place
pub record IsMadeAt (trail : List TrailItem) (made : Made) : Type 0 where
  pub table : made.table ≡ next_table trail
  pub place : made.at ≡ length (book_of trail)

-- all that is promised of a table that this transaction was to make
pub record MakeStep {D : Type 0} (told : D → Option Store) (faults : D → ℕ) (txn : TxnId) (before now : House D)
    (result : Result Made ActFault) : Type 0 where
  pub keeps : IsWholeOrClosed told now
  pub step : Step told faults (answer_call (Note (entry.Create txn (next_table (trail_of before.trail)))) result)
      (answer_outcome result) (seen_of before) (seen_of now)
  pub answers : Answers NoTest (trail_of before.trail) txn (MakeFits (trail_of before.trail) txn)
      (IsMadeAt (trail_of before.trail)) result
  pub leaves : AnswerLeaves told faults txn.0 (seen_of before) (seen_of now) result
