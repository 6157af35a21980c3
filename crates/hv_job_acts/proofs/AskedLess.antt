-- Where an act asks for nothing: nothing is due, a text is too long, or memory lacked.
use Rattle.std.proofs.Common.{◌≡◌, ◌<◌, ℕ, Option, None, Result, Ok, Err, List, length, sym, subst}
use Rattle.hv_base.specs.declared.ids.TableId.{TableId}
use Rattle.hv_shelf.specs.Disk.{Store}
use Rattle.hv_history.specs.declared.entry.Entry.{Entry}
use Rattle.hv_history.specs.State.{state_of}
use Rattle.hv_history.specs.Jobs.{due}
use Rattle.hv_trail.specs.Kept.{trail_of}
use Rattle.hv_trail.specs.Trail.{book_of}
use Rattle.hv_trail.specs.Steps.{Note}
use Rattle.hv_acts.specs.hv_telling.specs.hv_house.specs.declared.house.House.{House}
use Rattle.hv_acts.specs.hv_telling.specs.hv_house.specs.declared.fault.HouseFault.TheVariants as house_fault
use Rattle.hv_acts.specs.hv_telling.specs.hv_house.specs.House.{entries_of}
use Rattle.hv_acts.specs.hv_telling.specs.hv_house.specs.Steps.{seen_of}
use Rattle.hv_acts.specs.hv_telling.specs.Telling.{IsWhole}
use Rattle.hv_job_calls.specs.declared.fault.JobFault.TheVariants as fault
use Rattle.hv_acts.proofs.Steps.{book-is, whole-keeps, lacked as lacked-note}
use Rattle.hv_job_acts.specs.declared.fault.JobActFault.{JobActFault}
use Rattle.hv_job_acts.specs.declared.fault.JobActFault.TheVariants as act
use Rattle.hv_job_acts.specs.declared.noting.AskedJob.{AskedJob}
use Rattle.hv_job_acts.specs.Answers.{ActStep}
use Rattle.hv_job_acts.specs.Asking.{most_text, asked_due, call_to_ask, DuesSo}
use Rattle.hv_job_acts.proofs.Passed.{unfit-step, asked-done}
use Rattle.std.proofs.Common.{le_refl}

module _ {D : Type 0} (told : D → Option Store) (faults : D → ℕ) (house : House D) (was : IsWhole told house) (table : TableId) (partition : List ℕ) where
  abbrev Trailed : List Entry
  Trailed = book_of (trail_of house.trail)

  abbrev StepOf : Result (Option AskedJob) JobActFault → Type 0
  StepOf result = ActStep told faults (call_to_ask Trailed table partition result) house house (DuesSo Trailed table partition) result

  pub none-due : due (state_of (entries_of house)) table.0 partition ≡ None → StepOf (Ok None)
  none-due none =
      asked-done told faults None (DuesSo Trailed table partition) house was
      (subst (λ (book : List Entry). due (state_of book) table.0 partition ≡ None) (sym (book-is house)) none)

  pub too-long : most_text < length partition → StepOf (Err act.Unfit)
  too-long long = unfit-step told faults (Note (asked_due Trailed table partition)) (DuesSo Trailed table partition) house was long

  pub lacked : StepOf (Err (act.Call (fault.House house_fault.NoMemory)))
  lacked = record {
    keeps = whole-keeps told house was;
    step = lacked-note told faults (seen_of house) (asked_due Trailed table partition) was.ready.kept.running;
    does = record { answers = λ open_. tt; leaves = was.ready.kept.running; up = le_refl (faults house.shelf) };
  }
