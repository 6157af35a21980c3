-- How an act notes that an aborted write id is forgotten.
use Rattle.std.proofs.Common.{◌≡◌, ◌↔◌, ℕ, Bool, true, false, true≢false, Option, None, Result, Ok, Err, List, refl, sym, ◌∙◌, subst}
use Rattle.std.specs.Prelude.{IfErr, IsErrOf, IsTrue}
use Rattle.hv_base.specs.declared.ids.TableId.{TableId}
use Rattle.hv_base.specs.declared.ids.WriteId.{WriteId}
use Rattle.hv_shelf.specs.Disk.{Store}
use Rattle.hv_history.specs.declared.entry.Entry.{Entry}
use Rattle.hv_history.specs.declared.entry.Entry.TheVariants as entry
use Rattle.hv_history.specs.State.{State, state_of}
use Rattle.hv_history.specs.Legal.{profile}
use Rattle.hv_trail.specs.Kept.{trail_of}
use Rattle.hv_trail.specs.Steps.{Call, Note, Read}
use Rattle.hv_acts.specs.hv_telling.specs.hv_house.specs.Calls.{LacksRoom}
use Rattle.hv_acts.specs.hv_telling.specs.hv_house.specs.declared.fault.HouseFault.TheVariants as house_fault
use Rattle.hv_acts.specs.hv_telling.specs.hv_house.specs.declared.house.House.{House}
use Rattle.hv_acts.specs.hv_telling.specs.hv_house.specs.House.{entries_of}
use Rattle.hv_acts.specs.hv_telling.specs.Telling.{IsWhole}
use Rattle.hv_job_calls.specs.declared.fault.JobFault.{JobFault}
use Rattle.hv_job_calls.specs.declared.fault.JobFault.TheVariants as fault
use Rattle.hv_job_calls.specs.Forgetting.{forget_call}
use Rattle.hv_job_calls.specs.Refusals.{is_live_in, CanForget}
use Rattle.hv_job_calls.specs.Steps.{JobStep}
use Rattle.hv_job_calls.specs.Tests.{ForgetsOrHouse}
use Rattle.hv_acts.proofs.Steps.{book-is}
use Rattle.hv_job_acts.specs.declared.fault.JobActFault.{JobActFault}
use Rattle.hv_job_acts.specs.declared.fault.JobActFault.TheVariants as act
use Rattle.hv_job_acts.specs.Answers.{in_act, ActStep}
use Rattle.hv_job_acts.specs.Doing.{ForgetsSo}
use Rattle.hv_job_acts.specs.Forgetting.{call_to_forget}
use Rattle.hv_job_acts.proofs.Passed.{at-trail, act-step, unfit-step}
use Rattle.hv_job_acts.proofs.Refusing.{refused-as, refused-if, others-or, never-unfit}

-- ---- a test over the house's book

abbrev May : List Entry → TableId → WriteId → Type 0
May book table write = is_live_in (state_of book) table.0 ≡ true → CanForget (state_of book) table.0 write.0

module _ {D : Type 0} (house : House D) (table : TableId) (write : WriteId) (entries : List Entry) (b : Bool) (are : entries ≡ entries_of house)
    (tests : IsTrue b ↔ May entries table write) where
  pub may-now : b ≡ true → May (entries_of house) table write
  may-now so = subst (λ (book : List Entry). May book table write) are (tests.0 so)

  pub may-not : b ≡ false → May (entries_of house) table write → ⊥
  may-not so is = true≢false (sym (tests.1 (subst (λ (book : List Entry). May book table write) (sym are) is)) ∙ so)

-- ---- what is promised of it

module _ {D : Type 0} (told : D → Option Store) (faults : D → ℕ) (before now : House D) (was : IsWhole told before) (table : TableId) (write : WriteId) where
  abbrev Book : State
  Book = state_of (entries_of before)

  abbrev Says : Result (Unit {0}) JobActFault → Type 0
  Says answer = ForgetsSo (trail_of before.trail) table write answer

  abbrev Doing : House D → Result (Unit {0}) JobActFault → Type 0
  Doing to answer = ActStep told faults (call_to_forget table write answer) before to Says answer

  abbrev its_call : Call
  its_call = Note (entry.Forgot table write)

  -- of a table that isn't live it may be
  must-live : (May (entries_of before) table write → ⊥) → is_live_in Book table.0 ≡ true
  must-live not = by (is_live_in Book table.0) refl
    where
      by : (b : Bool) → is_live_in Book table.0 ≡ b → b ≡ true
      by true e = refl
      by false e = absurd (not (λ live. absurd (true≢false (sym live ∙ e))))

  pub unforgotten : (May (entries_of before) table write → ⊥) → Doing before (Err act.Unfit)
  unforgotten not = unfit-step told faults its_call Says before was (record {
    gone =
        at-trail before (λ (state : State). IsErrOf {T = Unit {0}} (Err act.Unfit) (act.Call fault.Gone) ↔ (is_live_in state table.0 ≡ false))
        (λ e. let same : act.Unfit ≡ act.Call fault.Gone = cc in absurd (cc), λ dead. absurd (true≢false (sym (must-live not) ∙ dead)));
    full = λ count e. let same : act.Unfit ≡ act.Call (fault.Full count) = cc in absurd (cc);
    unfit =
        at-trail before (λ (state : State). IsErrOf {T = Unit {0}} (Err act.Unfit) act.Unfit → CanForget state table.0 write.0 → ⊥)
        (λ e can. not (λ live_. can));
    others = tt;
  })

  -- where its listing failed it is a step of another call
  passes : (r : Result (Unit {0}) JobFault) → JobStep told faults (forget_call table write r) before now r → IfErr r ForgetsOrHouse → Says (in_act r)
      → Doing now (in_act r)
  passes (Ok done) s others is = act-step told faults its_call before now was ForgetsOrHouse Says (Ok done) s others (λ no_. no_) is
  passes (Err fault.Gone) s others is = act-step told faults its_call before now was ForgetsOrHouse Says (Err fault.Gone) s others (λ no_. no_) is
  passes (Err (fault.Full entries)) s others is =
      act-step told faults its_call before now was ForgetsOrHouse Says (Err (fault.Full entries)) s others (λ no_. no_) is
  passes (Err (fault.StillListed dir)) s others is =
      act-step told faults its_call before now was ForgetsOrHouse Says (Err (fault.StillListed dir)) s others (λ no_. no_) is
  passes (Err (fault.House house_fault.Store)) s others is =
      act-step told faults its_call before now was ForgetsOrHouse Says (Err (fault.House house_fault.Store)) s others (λ no_. no_) is
  passes (Err (fault.House house_fault.NoMemory)) s others is =
      act-step told faults its_call before now was ForgetsOrHouse Says (Err (fault.House house_fault.NoMemory)) s others (λ no_. no_) is
  passes (Err (fault.House (house_fault.Failed count))) s others is =
      act-step told faults (Read None) before now was ForgetsOrHouse Says (Err (fault.House (house_fault.Failed count))) s others (λ no_. no_) is
  passes (Err fault.NotFound) s others is = absurd others
  passes (Err (fault.Needed txn)) s others is = absurd others
  passes (Err (fault.Working job)) s others is = absurd others
  passes (Err fault.Starved) s others is = absurd others

  pub forgotten : (r : Result (Unit {0}) JobFault) (answer : Result (Unit {0}) JobActFault) → answer ≡ in_act r
      → JobStep told faults (forget_call table write r) before now r → IsErrOf r fault.Gone ↔ (is_live_in Book table.0 ≡ false)
      → ((count : ℕ) → IsErrOf r (fault.Full count) ↔ ((is_live_in Book table.0 ≡ true) × LacksRoom profile (entries_of before) 1 count))
      → IfErr r ForgetsOrHouse → Doing now answer
  forgotten r answer said s gone full others =
      subst (λ (x : Result (Unit {0}) JobActFault). Doing now x) (sym said)
      (passes r s others (record {
        gone =
            at-trail before (λ (state : State). IsErrOf (in_act r) (act.Call fault.Gone) ↔ (is_live_in state table.0 ≡ false))
            (refused-as r fault.Gone (is_live_in Book table.0 ≡ false) gone);
        full = λ count.
            subst (λ (book : List Entry). IsErrOf (in_act r) (act.Call (fault.Full count)) → LacksRoom profile book 1 count) (sym (book-is before))
            (refused-if r (fault.Full count) (LacksRoom profile (entries_of before) 1 count) (λ e. ((full count).0 e).1));
        unfit = λ e can. never-unfit r ⊥ e;
        others = others-or r ForgetsOrHouse others;
      }))
