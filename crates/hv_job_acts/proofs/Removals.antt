-- Directories that acts take away.
use Rattle.std.proofs.Common.{◌≡◌, ◌↔◌, ℕ, false, Option, None, Result, sym, subst}
use Rattle.std.specs.Prelude.{IfOk, IfErr, IsErrOf}
use Rattle.hv_base.specs.declared.ids.JobId.{JobId}
use Rattle.hv_base.specs.declared.ids.TableId.{TableId}
use Rattle.hv_shelf.specs.declared.place.DirAt.{DirAt}
use Rattle.hv_shelf.specs.Disk.{Store}
use Rattle.hv_history.specs.State.{State, state_of}
use Rattle.hv_trail.specs.Kept.{trail_of}
use Rattle.hv_trail.specs.Trail.{state_at}
use Rattle.hv_trail.specs.Steps.{Remove}
use Rattle.hv_acts.specs.hv_telling.specs.hv_house.specs.declared.house.House.{House}
use Rattle.hv_acts.specs.hv_telling.specs.hv_house.specs.House.{entries_of}
use Rattle.hv_acts.specs.hv_telling.specs.Telling.{IsWhole}
use Rattle.hv_job_calls.specs.declared.fault.JobFault.{JobFault}
use Rattle.hv_job_calls.specs.declared.fault.JobFault.TheVariants as fault
use Rattle.hv_job_calls.specs.Refusals.{is_live_in, HasGoneJob, IsHeldBy, IsWorkingStage}
use Rattle.hv_job_calls.specs.Steps.{JobStep, job_call}
use Rattle.hv_job_calls.specs.Tests.{IsGoneOrHouse, RemovesOrHouse, SweepsOrHouse}
use Rattle.hv_job_acts.specs.declared.fault.JobActFault.{JobActFault}
use Rattle.hv_job_acts.specs.Answers.{in_act, answer_call, ActStep}
use Rattle.hv_job_acts.specs.Doing.{RemovesSo, OwnGoesSo, SweepsSo}
use Rattle.hv_job_acts.proofs.Passed.{at-trail, act-step}
use Rattle.hv_job_acts.proofs.Refusing.{refused-as, refused-if, others-in, ok-in}

module _ {D : Type 0} (told : D → Option Store) (faults : D → ℕ) (dir : DirAt) (before now : House D) (r : Result (Unit {0}) JobFault)
    (answer : Result (Unit {0}) JobActFault) (is : answer ≡ in_act r) (was : IsWhole told before)
    (step : JobStep told faults (job_call (Remove None dir) r) before now r) where
  abbrev Book : State
  Book = state_of (entries_of before)

  abbrev Then : State
  Then = state_at (trail_of before.trail)

  passes : (P : JobFault → Type 0) (Answers : Result (Unit {0}) JobActFault → Type 0) → IfErr r P → (P fault.NotFound → ⊥) → Answers (in_act r)
      → ActStep told faults (answer_call (Remove None dir) answer) before now Answers answer
  passes P Answers others never so =
      subst (λ (x : Result (Unit {0}) JobActFault). ActStep told faults (answer_call (Remove None dir) x) before now Answers x) (sym is)
      (act-step told faults (Remove None dir) before now was P Answers r step others never so)

  pub removes : (job : JobId) → IsErrOf r fault.Gone ↔ HasGoneJob Book job.0
      → ((txn : ℕ) → IsErrOf r (fault.Needed (record { 0 = txn })) ↔ IsHeldBy Book job.0 txn) → IfErr r RemovesOrHouse
      → ActStep told faults (answer_call (Remove None dir) answer) before now (RemovesSo Then job) answer
  removes job gone needed others =
      passes RemovesOrHouse (RemovesSo Then job) others (λ no_. no_)
      (at-trail before (λ (state : State). RemovesSo state job (in_act r)) (record {
        gone = refused-as r fault.Gone (HasGoneJob Book job.0) gone;
        needed = λ txn. refused-as r (fault.Needed (record { 0 = txn })) (IsHeldBy Book job.0 txn) (needed txn);
        others = others-in r RemovesOrHouse others;
      }))

  pub own-goes : (table : TableId) → IsErrOf r fault.Gone ↔ (is_live_in Book table.0 ≡ false) → IfErr r IsGoneOrHouse
      → ActStep told faults (answer_call (Remove None dir) answer) before now (OwnGoesSo Then table) answer
  own-goes table gone others =
      passes IsGoneOrHouse (OwnGoesSo Then table) others (λ no_. no_)
      (at-trail before (λ (state : State). OwnGoesSo state table (in_act r)) (record {
        gone = refused-as r fault.Gone (is_live_in Book table.0 ≡ false) gone;
        others = others-in r IsGoneOrHouse others;
      }))

  pub sweeps : ((number : ℕ) → IsErrOf r (fault.Working (record { 0 = number })) → IsWorkingStage Book dir number)
      → ((number : ℕ) → IsWorkingStage Book dir number → IfOk r (λ done. ⊥)) → IfErr r SweepsOrHouse
      → ActStep told faults (answer_call (Remove None dir) answer) before now (SweepsSo Then dir) answer
  sweeps working idle others =
      passes SweepsOrHouse (SweepsSo Then dir) others (λ no_. no_)
      (at-trail before (λ (state : State). SweepsSo state dir (in_act r)) (record {
        working = λ number. refused-if r (fault.Working (record { 0 = number })) (IsWorkingStage Book dir number) (working number);
        idle = λ number staged. ok-in r (λ done. ⊥) (idle number staged);
        others = others-in r SweepsOrHouse others;
      }))
