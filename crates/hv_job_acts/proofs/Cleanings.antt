-- How an act notes that a job was cleaned.
use Rattle.std.proofs.Common.{◌≡◌, ◌↔◌, ℕ, Bool, true, false, true≢false, Option, Some, None, Result, Ok, Err, List, refl, sym, ◌∙◌, subst}
use Rattle.std.specs.Prelude.{IfOk, IfErr, IsErrOf, IsTrue, IsSomeAnd}
use Rattle.hv_base.specs.declared.ids.JobId.{JobId}
use Rattle.hv_shelf.specs.Disk.{Store}
use Rattle.hv_history.specs.declared.entry.Entry.{Entry}
use Rattle.hv_history.specs.declared.entry.Entry.TheVariants as entry
use Rattle.hv_history.specs.State.{State, Job, numbered, state_of}
use Rattle.hv_history.specs.Legal.{profile, HasRoom}
use Rattle.hv_history.specs.Jobs.{is_ready}
use Rattle.hv_history.specs.JobsFit.{OfJob, is_live_job}
use Rattle.hv_law_work.specs.Work.{AreGone}
use Rattle.hv_trail.specs.declared.trail.TrailItem.{TrailItem}
use Rattle.hv_trail.specs.Kept.{trail_of}
use Rattle.hv_trail.specs.Steps.{Call, Note}
use Rattle.hv_acts.specs.hv_telling.specs.hv_house.specs.Calls.{LacksRoom}
use Rattle.hv_acts.specs.hv_telling.specs.hv_house.specs.declared.fault.HouseFault.TheVariants as house_fault
use Rattle.hv_acts.specs.hv_telling.specs.hv_house.specs.declared.house.House.{House}
use Rattle.hv_acts.specs.hv_telling.specs.hv_house.specs.House.{entries_of}
use Rattle.hv_acts.specs.hv_telling.specs.Telling.{IsWhole}
use Rattle.hv_job_calls.specs.declared.fault.JobFault.{JobFault}
use Rattle.hv_job_calls.specs.declared.fault.JobFault.TheVariants as fault
use Rattle.hv_job_calls.specs.Refusals.{HasGoneJob, HasLiveJob, IfLive, IsHeldBy}
use Rattle.hv_job_calls.specs.Steps.{JobStep, job_call}
use Rattle.hv_job_calls.specs.Tests.{CleansOrHouse}
use Rattle.hv_job_calls.proofs.Steps.{lacked-note}
use Rattle.hv_acts.proofs.Steps.{book-is}
use Rattle.hv_job_acts.specs.declared.fault.JobActFault.{JobActFault}
use Rattle.hv_job_acts.specs.declared.fault.JobActFault.TheVariants as act
use Rattle.hv_job_acts.specs.Answers.{in_act, answer_call, ActStep}
use Rattle.hv_job_acts.specs.Covering.{AreNamesOf}
use Rattle.hv_job_acts.specs.Doing.{CleansSo}
use Rattle.hv_job_acts.proofs.Passed.{at-trail, act-step, unfit-step}
use Rattle.hv_job_acts.proofs.Refusing.{refused-if, others-or, never-unfit}

-- ---- of the job that is there

module _ (state : State) (job : ℕ) (trail : List TrailItem) where
  pub if-may : OfJob state job (λ (j : Job). IsTrue (is_ready j))
      → ((j : Job) → numbered state.jobs job ≡ Some j → is_live_job state j ≡ true → AreGone trail state j) → IfLive state job (AreGone trail state)
  if-may = by (numbered state.jobs job) refl
    where
      by : (o : Option Job) → numbered state.jobs job ≡ o → IsSomeAnd o (λ (j : Job). IsTrue (is_ready j))
          → ((j : Job) → numbered state.jobs job ≡ Some j → is_live_job state j ≡ true → AreGone trail state j)
          → IsSomeAnd o (λ (j : Job). is_live_job state j ≡ true → AreGone trail state j)
      by None e ready each = absurd ready
      by (Some j) e ready each = λ live. each j e live

  pub left-out : ((j : Job) → numbered state.jobs job ≡ Some j → AreNamesOf state j → (is_live_job state j ≡ true) × (AreGone trail state j → ⊥))
      → OfJob state job (AreNamesOf state) → IfLive state job (AreGone trail state) → ⊥
  left-out = by (numbered state.jobs job) refl
    where
      by : (o : Option Job) → numbered state.jobs job ≡ o
          → ((j : Job) → numbered state.jobs job ≡ Some j → AreNamesOf state j → (is_live_job state j ≡ true) × (AreGone trail state j → ⊥))
          → IsSomeAnd o (AreNamesOf state) → IsSomeAnd o (λ (j : Job). is_live_job state j ≡ true → AreGone trail state j) → ⊥
      by None e each names gone = names
      by (Some j) e each names gone = let left = each j e names in left.1 (gone left.0)

-- a test over the house's book
pub ready-now : {D : Type 0} (house : House D) (job : ℕ) (entries : List Entry) (b : Bool) → entries ≡ entries_of house
    → IsTrue b ↔ OfJob (state_of entries) job (λ (j : Job). IsTrue (is_ready j)) → b ≡ true
    → OfJob (state_of (entries_of house)) job (λ (j : Job). IsTrue (is_ready j))
ready-now house job entries b are tests so =
    subst (λ (book : List Entry). OfJob (state_of book) job (λ (j : Job). IsTrue (is_ready j))) are (tests.0 so)

pub unready-now : {D : Type 0} (house : House D) (job : ℕ) (entries : List Entry) (b : Bool) → entries ≡ entries_of house
    → IsTrue b ↔ OfJob (state_of entries) job (λ (j : Job). IsTrue (is_ready j)) → b ≡ false
    → OfJob (state_of (entries_of house)) job (λ (j : Job). IsTrue (is_ready j)) → ⊥
unready-now house job entries b are tests so is =
    true≢false (sym (tests.1 (subst (λ (book : List Entry). OfJob (state_of book) job (λ (j : Job). IsTrue (is_ready j))) (sym are) is)) ∙ so)

-- ---- what is promised of it

module _ {D : Type 0} (told : D → Option Store) (faults : D → ℕ) (before now : House D) (was : IsWhole told before) (job : JobId) where
  abbrev Book : State
  Book = state_of (entries_of before)

  abbrev Trail : List TrailItem
  Trail = trail_of before.trail

  abbrev its_call : Call
  its_call = Note (entry.Cleaned job)

  abbrev Doing : House D → Result (Unit {0}) JobActFault → Type 0
  Doing to answer = ActStep told faults (answer_call its_call answer) before to (CleansSo Trail job) answer

  -- it isn't to be noted
  pub uncleaned : (OfJob Book job.0 (λ (j : Job). IsTrue (is_ready j)) → OfJob Book job.0 (AreNamesOf Book) → IfLive Book job.0 (AreGone Trail Book) → ⊥)
      → Doing before (Err act.Unfit)
  uncleaned not = unfit-step told faults its_call (CleansSo Trail job) before was (record {
    ready = tt;
    marked = tt;
    unfit =
        at-trail before
        (λ (state : State). IsErrOf {T = Unit {0}} (Err act.Unfit) act.Unfit → OfJob state job.0 (λ (j : Job). IsTrue (is_ready j))
        → OfJob state job.0 (AreNamesOf state) → IfLive state job.0 (AreGone Trail state) → ⊥)
        (λ e ready names gone. not ready names gone);
    gone = λ e. let same : act.Unfit ≡ act.Call fault.Gone = cc in absurd (cc);
    full = λ count e. let same : act.Unfit ≡ act.Call (fault.Full count) = cc in absurd (cc);
    needed = λ txn e. let same : act.Unfit ≡ act.Call (fault.Needed (record { 0 = txn })) = cc in absurd (cc);
    others = tt;
  })

  -- the call was made
  by-call : (to : House D) (r : Result (Unit {0}) JobFault) → JobStep told faults (job_call its_call r) before to r
      → IfOk r (λ done. OfJob Book job.0 (λ (j : Job). IsTrue (is_ready j))) → IfOk r (λ done. IfLive Book job.0 (AreGone Trail Book))
      → (IsErrOf r fault.Gone → HasGoneJob Book job.0) → ((count : ℕ) → IsErrOf r (fault.Full count) → LacksRoom profile (entries_of before) 1 count)
      → ((txn : ℕ) → IsErrOf r (fault.Needed (record { 0 = txn })) → IsHeldBy Book job.0 txn) → IfErr r CleansOrHouse → Doing to (in_act r)
  by-call to r s ready marked gone full needed others =
      act-step told faults its_call before to was CleansOrHouse (CleansSo Trail job) r s others (λ no_. no_) (record {
        ready = at-trail before (λ (state : State). IfOk (in_act r) (λ done. OfJob state job.0 (λ (j : Job). IsTrue (is_ready j)))) (ok-same r (OfJob Book job.0 (λ (j : Job). IsTrue (is_ready j))) ready);
        marked = at-trail before (λ (state : State). IfOk (in_act r) (λ done. IfLive state job.0 (AreGone Trail state))) (ok-same r (IfLive Book job.0 (AreGone Trail Book)) marked);
        unfit = λ e ready_ names_ gone_. never-unfit r ⊥ e;
        gone =
            at-trail before (λ (state : State). IsErrOf (in_act r) (act.Call fault.Gone) → HasGoneJob state job.0)
            (refused-if r fault.Gone (HasGoneJob Book job.0) gone);
        full = λ count.
            subst (λ (book : List Entry). IsErrOf (in_act r) (act.Call (fault.Full count)) → LacksRoom profile book 1 count) (sym (book-is before))
            (refused-if r (fault.Full count) (LacksRoom profile (entries_of before) 1 count) (full count));
        needed = λ txn.
            at-trail before (λ (state : State). IsErrOf (in_act r) (act.Call (fault.Needed (record { 0 = txn }))) → IsHeldBy state job.0 txn)
            (refused-if r (fault.Needed (record { 0 = txn })) (IsHeldBy Book job.0 txn) (needed txn));
        others = others-or r CleansOrHouse others;
      })
    where
      ok-same : (x : Result (Unit {0}) JobFault) (P : Type 0) → IfOk x (λ done. P) → IfOk (in_act x) (λ done. P)
      ok-same (Ok done) P is = is
      ok-same (Err why) P is = tt

  pub cleaned-step : (r : Result (Unit {0}) JobFault) (answer : Result (Unit {0}) JobActFault) → answer ≡ in_act r
      → JobStep told faults (job_call its_call r) before now r → OfJob Book job.0 (λ (j : Job). IsTrue (is_ready j)) → IfLive Book job.0 (AreGone Trail Book)
      → IsErrOf r fault.Gone ↔ HasGoneJob Book job.0
      → ((count : ℕ) → IsErrOf r (fault.Full count) ↔ (HasLiveJob Book job.0 × LacksRoom profile (entries_of before) 1 count))
      → ((txn : ℕ) → IsErrOf r (fault.Needed (record { 0 = txn })) ↔ (HasRoom profile Book 1 × IsHeldBy Book job.0 txn)) → IfErr r CleansOrHouse
      → Doing now answer
  cleaned-step r answer said s ready marked gone full needed others =
      subst (λ (x : Result (Unit {0}) JobActFault). Doing now x) (sym said)
      (by-call now r s (held r (OfJob Book job.0 (λ (j : Job). IsTrue (is_ready j))) ready) (held r (IfLive Book job.0 (AreGone Trail Book)) marked) gone.0 (λ count e. ((full count).0 e).1) (λ txn e. ((needed txn).0 e).1) others)
    where
      held : (x : Result (Unit {0}) JobFault) (P : Type 0) → P → IfOk x (λ done. P)
      held (Ok done) P is = is
      held (Err why) P is = tt

  -- memory lacked for the names
  pub unnamed : Doing before (Err (act.Call (fault.House house_fault.NoMemory)))
  unnamed =
      by-call before (Err (fault.House house_fault.NoMemory)) (lacked-note told faults before (entry.Cleaned job) was) tt tt (λ e. cc) (λ count e. cc) (λ txn e. cc) tt
