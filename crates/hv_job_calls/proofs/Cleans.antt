-- Who holds what a job covers, and what may go.
use Rattle.std.proofs.Common.{◌≡◌, inl, ℕ, ◌==◌, true, false, true≢false, IsErrOf, Option, Some, None, Result, Err, List, refl, sym, ap, ◌∙◌, subst, eq-eqb}
use Rattle.std.specs.Prelude.{◌↔◌, nat_eq, is_none, IfErr, IsSomeAnd}
use Rattle.std.specs.Cmp.Lexicographic.{pointwise}
use Rattle.std.proofs.lemmas.Bool.{and_from}
use Rattle.hv_base.specs.declared.ids.JobId.{JobId}
use Rattle.hv_base.specs.declared.ids.TxnId.{TxnId}
use Rattle.hv_shelf.specs.declared.place.DirAt.{DirAt}
use Rattle.hv_dirs.specs.declared.names.DirName.{DirName}
use Rattle.hv_history.specs.declared.entry.JobKind.{JobKind}
use Rattle.hv_history.specs.State.{State, Job, numbered}
use Rattle.hv_history.specs.Jobs.{is_past_by}
use Rattle.hv_history.specs.JobsFit.{OfJob, is_live_job}
use Rattle.hv_jobs.specs.Covers.{covers_by}
use Rattle.hv_law_made.proofs.NamedLemmas.{text-same}
use Rattle.hv_telling.specs.hv_law_work.specs.Work.{AreGone}
use Rattle.hv_telling.specs.hv_law_work.specs.Marks.{MayGoNow}
use Rattle.hv_trail.specs.declared.trail.TrailItem.{TrailItem}
use Rattle.hv_telling.specs.Telling.{IsGoneFor}
use Rattle.hv_job_calls.specs.declared.fault.JobFault.{JobFault}
use Rattle.hv_job_calls.specs.declared.fault.JobFault.TheVariants as fault
use Rattle.hv_job_calls.specs.Refusals.{HasGoneJob, HasLiveJob, IfLive, IsHeldBy, IsCoveredDir, holder_by}
use Rattle.hv_job_calls.specs.Tests.{held_in}
use Rattle.hv_job_calls.proofs.Refused.{never}

same-needed : {T : Type 0} (a b : ℕ) → ◌≡◌ {A = Result T JobFault} (Err (fault.Needed (record { 0 = a }))) (Err (fault.Needed (record { 0 = b }))) → a ≡ b
same-needed {T = T} a b e =
    let ids : ◌≡◌ {A = TxnId} (record { 0 = a }) (record { 0 = b }) = cc in ap (λ (id : TxnId). id.0) ids

module _ (state : State) (number : ℕ) (held : Option ℕ) (is : held ≡ held_in state (numbered state.jobs number)) where
  -- this one holds it
  held-by : (txn : ℕ) → held ≡ Some txn → HasLiveJob state number → IsHeldBy state number txn
  held-by txn some live = by (numbered state.jobs number) refl live
    where
      by : (o : Option Job) → numbered state.jobs number ≡ o → IsSomeAnd o (λ (j : Job). is_live_job state j ≡ true) → IsHeldBy state number txn
      by None e live = absurd live
      by (Some j) e live =
          subst (λ o. IsSomeAnd o (λ (x : Job). (is_live_job state x ≡ true) × (holder_by state x.published ≡ Some txn))) (sym e)
          (live, sym (is ∙ ap (held_in state) e) ∙ some)

  -- whoever does is the one
  holds : (txn : ℕ) → IsHeldBy state number txn → held ≡ Some txn
  holds txn of = by (numbered state.jobs number) refl of
    where
      by : (o : Option Job) → numbered state.jobs number ≡ o → IsSomeAnd o (λ (x : Job). (is_live_job state x ≡ true) × (holder_by state x.published ≡ Some txn))
          → held ≡ Some txn
      by None e of = absurd of
      by (Some j) e of = is ∙ ap (held_in state) e ∙ of.1

  pub needed-so : {T : Type 0} (txn : ℕ) → held ≡ Some txn → HasLiveJob state number → (other : ℕ)
      → IsErrOf {T = T} (Err (fault.Needed (record { 0 = txn }))) (fault.Needed (record { 0 = other })) ↔ IsHeldBy state number other
  needed-so {T = T} txn some live other = (
    λ e. subst (IsHeldBy state number) (same-needed {T = T} txn other e) (held-by txn some live),
    λ of. let same : Some txn ≡ Some other = sym some ∙ holds other of in
        let one : txn ≡ other = cc in
        ap (λ (n : ℕ). Err (fault.Needed (record { 0 = n }))) one,
  )

  pub not-needed : {T : Type 0} (P : JobFault → Type 0) → ((txn : TxnId) → P (fault.Needed txn) → ⊥) → (r : Result T JobFault) → IfErr r P → held ≡ None
      → (other : ℕ) → IsErrOf r (fault.Needed (record { 0 = other })) ↔ IsHeldBy state number other
  not-needed P left_out r of none other = (
    λ e. absurd (left_out (record { 0 = other }) (never P r (fault.Needed (record { 0 = other })) of e)),
    λ holder. let never_ : None ≡ Some other = sym none ∙ holds other holder in cc,
  )

-- where the table isn't live nobody is asked
pub dead-holds : (state : State) (number txn : ℕ) → HasGoneJob state number → IsHeldBy state number txn → ⊥
dead-holds state number txn gone of = by (numbered state.jobs number) gone of
  where
    by : (o : Option Job) → IsSomeAnd o (λ (j : Job). is_live_job state j ≡ false)
        → IsSomeAnd o (λ (x : Job). (is_live_job state x ≡ true) × (holder_by state x.published ≡ Some txn)) → ⊥
    by None gone of = gone
    by (Some j) gone of = true≢false (sym of.0 ∙ gone)

-- ---- a covered directory may go

past-by : (state : State) (k : JobKind) (o : Option (ℕ × ℕ × ℕ)) (name : DirName) → covers_by k o name ≡ true → holder_by state o ≡ None → is_past_by state o ≡ true
past-by state k None name covered none = absurd (true≢false (sym covered))
past-by state k (Some range) name covered none = ap (λ (o : Option ℕ). is_none o) none

pub covered-goes : (state : State) (number : ℕ) (dir : DirAt) (held : Option ℕ)
    → held ≡ held_in state (numbered state.jobs number) → held ≡ None
    → OfJob state number (IsCoveredDir dir) → MayGoNow state dir
covered-goes state number dir held is none covered = by (numbered state.jobs number) refl covered
  where
    by : (o : Option Job) → numbered state.jobs number ≡ o → IsSomeAnd o (IsCoveredDir dir) → MayGoNow state dir
    by None e of = absurd of
    by (Some j) e of = inl (record {
      covered = record {
        number = number;
        job = j;
        is = e;
        here =
            and_from (j.table == dir.table.0) (pointwise nat_eq j.partition dir.partition) (eq-eqb j.table dir.table.0 (sym of.table_is))
            (text-same j.partition dir.partition (sym of.partition_is));
        name = of.name;
        named = of.named;
        text = of.text;
        covered = of.covered;
      };
      past = past-by state j.kind j.published of.name of.covered (sym (is ∙ ap (held_in state) e) ∙ none);
    })

-- all that it covers has gone
pub gone-for : (state : State) (trail : List TrailItem) (job : JobId) → HasLiveJob state job.0 → IfLive state job.0 (AreGone trail state) → IsGoneFor state trail job
gone-for state trail job live gone = by (numbered state.jobs job.0) refl live gone
  where
    by : (o : Option Job) → numbered state.jobs job.0 ≡ o → IsSomeAnd o (λ (j : Job). is_live_job state j ≡ true)
        → IsSomeAnd o (λ (j : Job). is_live_job state j ≡ true → AreGone trail state j) → IsGoneFor state trail job
    by None e live gone = absurd live
    by (Some j) e live gone = record { which = j; is = e; live = live; gone = gone live }
