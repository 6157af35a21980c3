-- Whether a job is at work, as it is asked of a house.
use Rattle.std.proofs.Common.{◌≡◌, ℕ, Bool, true, false, Some, List, sym, subst}
use Rattle.hv_history.specs.declared.entry.Entry.{Entry}
use Rattle.hv_history.specs.State.{Job, numbered, state_of}
use Rattle.hv_history.specs.JobsFit.{is_live_job}
use Rattle.hv_finals.specs.Finals.{works_at}
use Rattle.hv_acts.specs.hv_telling.specs.hv_house.specs.declared.house.House.{House}
use Rattle.hv_acts.specs.hv_telling.specs.hv_house.specs.House.{entries_of}
use Rattle.hv_job_calls.specs.Refusals.{WorksAt}
use Rattle.hv_job_acts.proofs.Refusing.{works-so, works-not}

module _ {D : Type 0} (house : House D) (job : ℕ) (entries : List Entry) (b : Bool) (are : entries ≡ entries_of house)
    (is : b ≡ works_at (numbered (state_of entries).jobs job)) where
  pub at-work-so : b ≡ true → WorksAt (state_of (entries_of house)) job
  at-work-so so = subst (λ (book : List Entry). WorksAt (state_of book) job) are (works-so (state_of entries) job b is so)

  pub at-work-not : b ≡ false → WorksAt (state_of (entries_of house)) job → ⊥
  at-work-not so works = works-not (state_of entries) job b is so (subst (λ (book : List Entry). WorksAt (state_of book) job) (sym are) works)

-- whether its table is live, as it is asked of a house
pub live-at : {D : Type 0} (house : House D) (job : ℕ) (entries : List Entry) (b : Bool) → entries ≡ entries_of house
    → ((j : Job) → numbered (state_of entries).jobs job ≡ Some j → b ≡ is_live_job (state_of entries) j)
    → (j : Job) → numbered (state_of (entries_of house)).jobs job ≡ Some j → b ≡ is_live_job (state_of (entries_of house)) j
live-at house job entries b are each =
    subst (λ (book : List Entry). (j : Job) → numbered (state_of book).jobs job ≡ Some j → b ≡ is_live_job (state_of book) j) are each
