-- A table that is made by an act.
use Rattle.std.proofs.Common.{◌≡◌, ℕ, Option, Some, None, Ok, Err, List, length}
use Rattle.std.specs.Prelude.{IsSomeAnd}
use Rattle.hv_base.specs.declared.ids.TxnId.{TxnId}
use Rattle.hv_base.specs.declared.ids.TableId.{TableId}
use Rattle.hv_shelf.specs.Disk.{Store}
use Rattle.hv_history.specs.declared.entry.Entry.TheVariants as entry
use Rattle.hv_history.specs.declared.state.Transaction.{Transaction}
use Rattle.hv_history.specs.State.{State, numbered}
use Rattle.hv_history.specs.Legal.{IsRunning, CreateFits}
use Rattle.hv_trail.specs.declared.trail.TrailItem.{TrailItem}
use Rattle.hv_trail.specs.Trail.{book_of, state_at}
use Rattle.hv_trail.specs.Kept.{trail_of}
use Rattle.hv_trail.specs.Steps.{Note}
use Rattle.hv_telling.specs.hv_house.specs.declared.house.House.{House}
use Rattle.hv_telling.specs.hv_house.specs.Steps.{seen_of}
use Rattle.hv_telling.specs.Telling.{IsWhole}
use Rattle.hv_acts.specs.declared.fault.ActFault.{ActFault}
use Rattle.hv_acts.specs.Answers.{next_table, NoTest, IsLate, own_entry, EntryStep}
use Rattle.hv_acts.specs.Meant.{HasAtMost, RunsWith}
use Rattle.hv_acts.specs.Making.{MakeFits, MakeStep}
use Rattle.hv_acts.proofs.Steps.{whole-keeps}
use Rattle.hv_acts.proofs.Leaves.{late-leaves}
use Rattle.hv_acts.proofs.Notes.{why-of, why-for, asked-late}

runs-by : (state : State) (table : ℕ) (o : Option Transaction) → IsSomeAnd o (CreateFits state table) → IsSomeAnd o IsRunning
runs-by state table None fits = fits
runs-by state table (Some t) fits = fits.running

-- what makes a table runs
make-runs : (trail : List TrailItem) (txn : TxnId) → MakeFits trail txn → RunsWith trail txn 0
make-runs trail txn fits = (runs-by (state_at trail) (next_table trail).0 (numbered (state_at trail).transactions txn.0) fits.0, fits.1)

module _ {D : Type 0} (told : D → Option Store) (faults : D → ℕ) (txn : TxnId) where
  pub make-late : (why : ActFault) (house : House D) → IsWhole told house → IsLate (trail_of house.trail) txn why → (RunsWith (trail_of house.trail) txn 0 → ⊥)
      → MakeStep told faults txn house house (Err why)
  make-late why house whole late not = record {
    keeps = whole-keeps told house whole;
    step = asked-late told faults (seen_of house) (trail_of house.trail) txn (Note (entry.Create txn (next_table (trail_of house.trail)))) why late;
    answers = why-of NoTest (trail_of house.trail) txn (MakeFits (trail_of house.trail) txn) why late (λ fits. not (make-runs (trail_of house.trail) txn fits));
    leaves = late-leaves told faults (trail_of house.trail) txn why (seen_of house) (seen_of house) late whole.ready.kept.running;
  }

  pub make-done : (table : TableId) (at : ℕ) (before now : House D) → HasAtMost (trail_of before.trail) txn 0 → table ≡ next_table (trail_of before.trail)
      → at ≡ length (book_of (trail_of before.trail))
      → EntryStep {T = Unit {0}} told faults (own_entry txn (entry.Create txn (next_table (trail_of before.trail)))) before now (Ok tt)
      → MakeStep told faults txn before now (Ok (record { table = table; at = at }))
  make-done table at before now none next place s = record {
    keeps = s.keeps;
    step = s.step;
    answers = ((s.answers.0, none), record { table = next; place = place });
    leaves = s.leaves;
  }

  pub make-failed : (why : ActFault) (before now : House D)
      → EntryStep {T = Unit {0}} told faults (own_entry txn (entry.Create txn (next_table (trail_of before.trail)))) before now (Err why)
      → MakeStep told faults txn before now (Err why)
  make-failed why before now s = record {
    keeps = s.keeps;
    step = s.step;
    answers = why-for NoTest (trail_of before.trail) txn _ _ (λ fits. fits.0) why s.answers;
    leaves = s.leaves;
  }
