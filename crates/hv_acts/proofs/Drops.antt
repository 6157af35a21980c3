-- A table that is dropped by an act.
use Rattle.std.proofs.Common.{◌≡◌, ℕ, Option, Some, None, Ok, Err, List, length}
use Rattle.std.specs.Prelude.{IsSomeAnd}
use Rattle.hv_base.specs.declared.ids.TxnId.{TxnId}
use Rattle.hv_base.specs.declared.ids.TableId.{TableId}
use Rattle.hv_shelf.specs.Disk.{Store}
use Rattle.hv_history.specs.declared.entry.Entry.TheVariants as entry
use Rattle.hv_history.specs.declared.state.Transaction.{Transaction}
use Rattle.hv_history.specs.State.{State, numbered}
use Rattle.hv_history.specs.Legal.{IsRunning, DropFits}
use Rattle.hv_trail.specs.declared.trail.TrailItem.{TrailItem}
use Rattle.hv_trail.specs.Trail.{book_of, state_at}
use Rattle.hv_trail.specs.Kept.{trail_of}
use Rattle.hv_trail.specs.Steps.{Note}
use Rattle.hv_telling.specs.hv_house.specs.declared.house.House.{House}
use Rattle.hv_telling.specs.hv_house.specs.Steps.{seen_of}
use Rattle.hv_telling.specs.Telling.{IsWhole}
use Rattle.hv_acts.specs.declared.fault.ActFault.{ActFault}
use Rattle.hv_acts.specs.Answers.{NoTest, IsLate, own_entry, EntryStep, own_table}
use Rattle.hv_acts.specs.Meant.{HasAtMost, RunsWith}
use Rattle.hv_acts.specs.Dropping.{CanDrop, DropStep}
use Rattle.hv_acts.proofs.Steps.{whole-keeps}
use Rattle.hv_acts.proofs.Leaves.{late-leaves}
use Rattle.hv_acts.proofs.Notes.{why-of, why-for, asked-late}

runs-by : (state : State) (table : ℕ) (o : Option Transaction) → IsSomeAnd o (DropFits state table) → IsSomeAnd o IsRunning
runs-by state table None fits = fits
runs-by state table (Some t) fits = fits.running

-- what drops a table runs
drop-runs : (trail : List TrailItem) (txn : TxnId) (table : TableId) → CanDrop trail txn table → RunsWith trail txn 0
drop-runs trail txn table fits = (runs-by (state_at trail) table.0 (numbered (state_at trail).transactions txn.0) fits.0, fits.1)

module _ {D : Type 0} (told : D → Option Store) (faults : D → ℕ) (txn : TxnId) (table : TableId) where
  pub drop-late : (why : ActFault) (house : House D) → IsWhole told house → IsLate (trail_of house.trail) txn why → (RunsWith (trail_of house.trail) txn 0 → ⊥)
      → DropStep told faults (own_table txn table) house house (Err why)
  drop-late why house whole late not = record {
    keeps = whole-keeps told house whole;
    step = asked-late told faults (seen_of house) (trail_of house.trail) txn (Note (entry.Drop txn table)) why late;
    answers = why-of NoTest (trail_of house.trail) txn (CanDrop (trail_of house.trail) txn table) why late (λ fits. not (drop-runs (trail_of house.trail) txn table fits));
    leaves = late-leaves told faults (trail_of house.trail) txn why (seen_of house) (seen_of house) late whole.ready.kept.running;
  }

  pub drop-done : (at : ℕ) (before now : House D) → HasAtMost (trail_of before.trail) txn 0 → at ≡ length (book_of (trail_of before.trail))
      → EntryStep {T = Unit {0}} told faults (own_entry txn (entry.Drop txn table)) before now (Ok tt)
      → DropStep told faults (own_table txn table) before now (Ok at)
  drop-done at before now none place s = record {
    keeps = s.keeps;
    step = s.step;
    answers = ((s.answers.0, none), place);
    leaves = s.leaves;
  }

  pub drop-failed : (why : ActFault) (before now : House D) → EntryStep {T = Unit {0}} told faults (own_entry txn (entry.Drop txn table)) before now (Err why)
      → DropStep told faults (own_table txn table) before now (Err why)
  drop-failed why before now s = record {
    keeps = s.keeps;
    step = s.step;
    answers = why-for NoTest (trail_of before.trail) txn _ _ (λ fits. fits.0) why s.answers;
    leaves = s.leaves;
  }
