-- How acts end a compaction without directories.
use Rattle.std.proofs.Common.{◌≡◌, ◌↔◌, ℕ, Bool, true, false, true≢false, Option, Some, None, Result, Err, List, sym, ◌∙◌, subst}
use Rattle.std.specs.Prelude.{IfErr, IsErrOf, IsTrue, IsSomeAnd}
use Rattle.hv_base.specs.declared.ids.JobId.{JobId}
use Rattle.hv_shelf.specs.Disk.{Store}
use Rattle.hv_history.specs.declared.entry.Entry.{Entry}
use Rattle.hv_history.specs.declared.entry.Entry.TheVariants as entry
use Rattle.hv_history.specs.declared.entry.JobCause.{JobCause}
use Rattle.hv_history.specs.declared.entry.JobCause.TheVariants as cause
use Rattle.hv_history.specs.State.{State, Job, numbered, state_of}
use Rattle.hv_history.specs.Jobs.{pieces_for, is_empty_of}
use Rattle.hv_history.specs.JobsFit.{OfJob, is_live_job, EmptyFits, FailedFits}
use Rattle.hv_history.specs.Load.{is_working}
use Rattle.hv_trail.specs.Kept.{trail_of}
use Rattle.hv_trail.specs.Trail.{state_at}
use Rattle.hv_trail.specs.Steps.{Note}
use Rattle.hv_acts.specs.hv_telling.specs.hv_house.specs.declared.house.House.{House}
use Rattle.hv_acts.specs.hv_telling.specs.hv_house.specs.House.{entries_of}
use Rattle.hv_acts.specs.hv_telling.specs.hv_house.specs.Steps.{IsMarked}
use Rattle.hv_acts.specs.hv_telling.specs.Telling.{IsWhole}
use Rattle.hv_job_calls.specs.declared.fault.JobFault.{JobFault}
use Rattle.hv_job_calls.specs.declared.fault.JobFault.TheVariants as fault
use Rattle.hv_job_calls.specs.Refusals.{WorksAt, HasGoneJob, IfLive}
use Rattle.hv_job_calls.specs.Steps.{JobStep, job_call}
use Rattle.hv_job_calls.specs.Tests.{IsHouse, IsGoneOrHouse}
use Rattle.hv_job_acts.specs.declared.fault.JobActFault.{JobActFault}
use Rattle.hv_job_acts.specs.declared.fault.JobActFault.TheVariants as act
use Rattle.hv_job_acts.specs.Answers.{in_act, answer_call, ActStep}
use Rattle.hv_job_acts.specs.Doing.{EmptySo, GivesUpSo}
use Rattle.hv_job_acts.specs.Marked.{HasJobMark}
use Rattle.hv_job_acts.proofs.Passed.{at-trail, act-step, unfit-step}
use Rattle.hv_job_acts.proofs.Refusing.{refused-if, others-or, always-ok, never-unfit}

pub of-more : (o : Option Job) (P Q : Job → Type 0) → ((j : Job) → P j → Q j) → IsSomeAnd o P → IsSomeAnd o Q
of-more None P Q f is = absurd is
of-more (Some j) P Q f is = f j is

-- of the house's book
pub on-book : (entries book : List Entry) (job : ℕ) (P : State → Job → Type 0) → entries ≡ book → OfJob (state_of entries) job (P (state_of entries))
    → OfJob (state_of book) job (P (state_of book))
on-book entries book job P are is = subst (λ (es : List Entry). OfJob (state_of es) job (P (state_of es))) are is

pub empty-works : (state : State) (job : ℕ) → OfJob state job (EmptyFits state) → WorksAt state job
empty-works state job = of-more (numbered state.jobs job) (EmptyFits state) (λ (j : Job). IsTrue (is_working j)) (λ j fits. fits.working)

pub empty-has : (state : State) (job : ℕ) → OfJob state job (EmptyFits state)
    → IfLive state job (λ (j : Job). IsTrue (is_empty_of j.kind (pieces_for state j)))
empty-has state job = of-more (numbered state.jobs job) (EmptyFits state)
    (λ (j : Job). is_live_job state j ≡ true → IsTrue (is_empty_of j.kind (pieces_for state j))) (λ j fits live. fits.nothing)

no-so : (b : Bool) → b ≡ false → IsTrue b → ⊥
no-so b is so = true≢false (sym so ∙ is)

-- a test over the house's book
module _ {D : Type 0} (house : House D) (job : ℕ) (P : State → Job → Type 0) (entries : List Entry) (b : Bool) (are : entries ≡ entries_of house)
    (tests : IsTrue b ↔ OfJob (state_of entries) job (P (state_of entries))) where
  pub test-so : b ≡ true → OfJob (state_of (entries_of house)) job (P (state_of (entries_of house)))
  test-so so = on-book entries (entries_of house) job P are (tests.0 so)

  pub test-not : b ≡ false → OfJob (state_of (entries_of house)) job (P (state_of (entries_of house))) → ⊥
  test-not so is = no-so b so (tests.1 (on-book (entries_of house) entries job P (sym are) is))

module _ {D : Type 0} (told : D → Option Store) (faults : D → ℕ) (before now : House D) (was : IsWhole told before) (job : JobId) where
  abbrev Book : State
  Book = state_of (entries_of before)

  abbrev Then : State
  Then = state_at (trail_of before.trail)

  -- ---- nothing to merge

  pub unempty : (OfJob Book job.0 (EmptyFits Book) → ⊥)
      → ActStep told faults (answer_call {T = Unit {0}} (Note (entry.Empty job)) (Err act.Unfit)) before before (EmptySo Then job) (Err act.Unfit)
  unempty not = unfit-step told faults (Note (entry.Empty job)) (EmptySo Then job) before was
      (at-trail before (λ (state : State). EmptySo state job (Err act.Unfit)) (record {
        fits = tt;
        gone = λ e. let same : act.Unfit ≡ act.Call fault.Gone = cc in absurd (cc);
        unfit = λ e fits. not fits;
        others = tt;
      }))

  pub emptied : (r : Result (Unit {0}) JobFault) (answer : Result (Unit {0}) JobActFault) → answer ≡ in_act r
      → JobStep told faults (job_call (Note (entry.Empty job)) r) before now r → OfJob Book job.0 (EmptyFits Book)
      → IsErrOf r fault.Gone ↔ HasGoneJob Book job.0 → IfErr r IsGoneOrHouse
      → ActStep told faults (answer_call (Note (entry.Empty job)) answer) before now (EmptySo Then job) answer
  emptied r answer is step fits gone others =
      subst (λ (x : Result (Unit {0}) JobActFault). ActStep told faults (answer_call (Note (entry.Empty job)) x) before now (EmptySo Then job) x) (sym is)
      (act-step told faults (Note (entry.Empty job)) before now was IsGoneOrHouse (EmptySo Then job) r step others (λ no_. no_)
      (at-trail before (λ (state : State). EmptySo state job (in_act r)) (record {
        fits = always-ok r (OfJob Book job.0 (EmptyFits Book)) fits;
        gone = refused-if r fault.Gone (HasGoneJob Book job.0) gone.0;
        unfit = λ e fits_. never-unfit r ⊥ e;
        others = others-or r IsGoneOrHouse others;
      })))

  -- ---- given up

  module _ (why : JobCause) where
    pub not-given : (OfJob Book job.0 (FailedFits Book why) → ⊥)
        → ActStep told faults (answer_call {T = Unit {0}} (Note (entry.Failed job why)) (Err act.Unfit)) before before (GivesUpSo Then job why) (Err act.Unfit)
    not-given not = unfit-step told faults (Note (entry.Failed job why)) (GivesUpSo Then job why) before was
        (at-trail before (λ (state : State). GivesUpSo state job why (Err act.Unfit)) (record {
          fits = tt;
          unfit = λ e fits. not fits;
          others = tt;
        }))

    pub given-up : (r : Result (Unit {0}) JobFault) (answer : Result (Unit {0}) JobActFault) → answer ≡ in_act r
        → JobStep told faults (job_call (Note (entry.Failed job why)) r) before now r → OfJob Book job.0 (FailedFits Book why) → IfErr r IsHouse
        → ActStep told faults (answer_call (Note (entry.Failed job why)) answer) before now (GivesUpSo Then job why) answer
    given-up r answer is step fits others =
        subst (λ (x : Result (Unit {0}) JobActFault). ActStep told faults (answer_call (Note (entry.Failed job why)) x) before now (GivesUpSo Then job why) x) (sym is)
        (act-step told faults (Note (entry.Failed job why)) before now was IsHouse (GivesUpSo Then job why) r step others (λ no_. no_)
        (at-trail before (λ (state : State). GivesUpSo state job why (in_act r)) (record {
          fits = always-ok r (OfJob Book job.0 (FailedFits Book why)) fits;
          unfit = λ e fits_. never-unfit r ⊥ e;
          others = others-or r IsHouse others;
        })))

-- its mark is there
pub marked-so : {D : Type 0} (house : House D) (job : JobId) (why : JobCause) → HasJobMark (trail_of house.trail) job why → IsMarked house (entry.Failed job why)
marked-so house job (cause.ReadFault count) has = has
marked-so house job (cause.WriteFault count) has = has
marked-so house job (cause.Damaged place) has = tt
marked-so house job cause.Gone has = tt
marked-so house job cause.Memory has = tt
marked-so house job cause.Lost has = tt
