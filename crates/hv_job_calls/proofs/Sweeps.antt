-- Which job stages in a directory, and what of it may go.
use Rattle.std.proofs.Common.{◌≡◌, inl, inr, ℕ, Bool, true, false, true≢false, Option, Some, None, Result, Ok, Err, IsErrOf, List, sym, ap, ◌∙◌, subst}
use Rattle.std.specs.Prelude.{◌↔◌, IfOk, IfErr, IsTrue, IsSomeAnd}
use Rattle.std.proofs.lemmas.Bool.{and_from, and_parts}
use Rattle.hv_base.specs.declared.ids.JobId.{JobId}
use Rattle.hv_shelf.specs.declared.place.DirAt.{DirAt}
use Rattle.hv_dirs.specs.declared.names.DirName.{DirName}
use Rattle.hv_dirs.specs.declared.names.DirName.TheVariants as dir_name
use Rattle.hv_dirs.specs.Names.{IsName, text_of}
use Rattle.hv_dirs.proofs.NameLemmas.{text-same}
use Rattle.hv_history.specs.State.{State, Job, numbered}
use Rattle.hv_history.specs.Legal.{is_working}
use Rattle.hv_history.specs.JobsFit.{is_live_job}
use Rattle.hv_telling.specs.hv_law_work.specs.Marks.{MayGoNow}
use Rattle.hv_job_calls.specs.declared.fault.JobFault.{JobFault}
use Rattle.hv_job_calls.specs.declared.fault.JobFault.TheVariants as fault
use Rattle.hv_job_calls.specs.Refusals.{IsStagedText, IsWorkingStage}
use Rattle.hv_job_calls.specs.Sweeping.{IsStagerOf, stager_named}
use Rattle.hv_job_calls.specs.Tests.{works_live}
use Rattle.hv_job_calls.proofs.Refused.{never}

-- ---- who stages there

abbrev job_in : DirName → ℕ → ℕ
job_in (dir_name.Base high) none = none
job_in (dir_name.Own deletes write statement) none = none
job_in (dir_name.Wide deletes low high) none = none
job_in (dir_name.Staged job name) none = job.0

-- one job stages in a directory
pub one-stager : (text : List ℕ) (m n : ℕ) → IsStagedText m text → IsStagedText n text → m ≡ n
one-stager text m n a b =
    ap (λ (name : DirName). job_in name 0)
    (text-same (dir_name.Staged (record { 0 = m }) a.name) (dir_name.Staged (record { 0 = n }) b.name) a.named b.named (sym a.is ∙ b.is))

same-name : (text : List ℕ) (name : DirName) → IsName name → text_of name ≡ text → (number : ℕ) (staged : IsStagedText number text)
    → name ≡ dir_name.Staged (record { 0 = number }) staged.name
same-name text name is e number staged = text-same name (dir_name.Staged (record { 0 = number }) staged.name) is staged.named (e ∙ staged.is)

pub stager-told : (text : List ℕ) (name : DirName) → IsName name → text_of name ≡ text → IsStagerOf text (stager_named name)
stager-told text (dir_name.Base high) is e = λ number staged.
    let never_ : dir_name.Base high ≡ dir_name.Staged (record { 0 = number }) staged.name = same-name text (dir_name.Base high) is e number staged in cc
stager-told text (dir_name.Own deletes write statement) is e = λ number staged.
    let never_ : dir_name.Own deletes write statement ≡ dir_name.Staged (record { 0 = number }) staged.name =
    same-name text (dir_name.Own deletes write statement) is e number staged in
    cc
stager-told text (dir_name.Wide deletes low high) is e = λ number staged.
    let never_ : dir_name.Wide deletes low high ≡ dir_name.Staged (record { 0 = number }) staged.name =
    same-name text (dir_name.Wide deletes low high) is e number staged in
    cc
stager-told text (dir_name.Staged job name) is e = record { name = name; named = is; is = sym e }

pub no-stager : (text : List ℕ) → ((name : DirName) → IsName name → text_of name ≡ text → None ≡ Some name) → IsStagerOf text None
no-stager text every = λ number staged.
    let never_ : None ≡ Some (dir_name.Staged (record { 0 = number }) staged.name) =
    every (dir_name.Staged (record { 0 = number }) staged.name) staged.named (sym staged.is) in
    cc

-- ---- whether it is at work

module _ (state : State) (dir : DirAt) (job : JobId) (staged : IsStagedText job.0 dir.dir) (works : Bool)
    (is : works ≡ works_live state (numbered state.jobs job.0)) where
  live-of : (o : Option Job) → works_live state o ≡ true → IsSomeAnd o (λ (j : Job). IsTrue (is_working j) × (is_live_job state j ≡ true))
  live-of None e = absurd (true≢false (sym e))
  live-of (Some j) e = let both = and_parts (is_working j) (is_live_job state j) e in (both.0, both.1)

  of-live : (o : Option Job) → IsSomeAnd o (λ (j : Job). IsTrue (is_working j) × (is_live_job state j ≡ true)) → works_live state o ≡ true
  of-live None of = absurd of
  of-live (Some j) of = and_from (is_working j) (is_live_job state j) of.0 of.1

  working : works ≡ true → IsWorkingStage state dir job.0
  working e = record { staged = staged; works = live-of (numbered state.jobs job.0) (sym is ∙ e) }

  works-then : (number : ℕ) → IsWorkingStage state dir number → works ≡ true
  works-then number of =
      let same = one-stager dir.dir number job.0 of.staged staged in
      is ∙ of-live (numbered state.jobs job.0)
      (subst (λ (n : ℕ). IsSomeAnd (numbered state.jobs n) (λ (j : Job). IsTrue (is_working j) × (is_live_job state j ≡ true))) same of.works)

  same-job : {T : Type 0} (a b : JobId) → ◌≡◌ {A = Result T JobFault} (Err (fault.Working a)) (Err (fault.Working b)) → a ≡ b
  same-job a b e = cc

  -- it is, and it alone
  pub working-so : {T : Type 0} → works ≡ true → (number : ℕ)
      → IsErrOf {T = T} (Err (fault.Working job)) (fault.Working (record { 0 = number })) ↔ IsWorkingStage state dir number
  working-so {T = T} e number = (
    λ same. subst (λ (n : ℕ). IsWorkingStage state dir n) (ap (λ (j : JobId). j.0) (same-job {T = T} job (record { 0 = number }) same)) (working e),
    λ of. let one : job.0 ≡ number = one-stager dir.dir job.0 number staged of.staged in
        ap (λ (n : ℕ). Err (fault.Working (record { 0 = n }))) one,
  )

  -- or it isn't
  pub not-working : {T : Type 0} (P : JobFault → Type 0) → ((j : JobId) → P (fault.Working j) → ⊥) → (r : Result T JobFault) → IfErr r P → works ≡ false
      → (number : ℕ) → IsErrOf r (fault.Working (record { 0 = number })) ↔ IsWorkingStage state dir number
  not-working P left_out r of e number = (
    λ same. absurd (left_out (record { 0 = number }) (never P r (fault.Working (record { 0 = number })) of same)),
    λ works_. absurd (true≢false (sym (works-then number works_) ∙ e)),
  )

  pub idle-goes : works ≡ false → MayGoNow state dir
  idle-goes e = inr (inr (inl (record {
    stage = record { number = job.0; name = staged.name; named = staged.named; text = staged.is };
    idle = λ j at at_work live.
        true≢false (sym (of-live (numbered state.jobs job.0)
        (subst (λ o. IsSomeAnd o (λ (x : Job). IsTrue (is_working x) × (is_live_job state x ≡ true))) (sym at) (at_work, live)))
        ∙ sym is ∙ e);
  })))

-- nobody stages there
pub none-works : {T : Type 0} (state : State) (dir : DirAt) (P : JobFault → Type 0) → ((j : JobId) → P (fault.Working j) → ⊥) → (r : Result T JobFault) → IfErr r P
    → IsStagerOf dir.dir None → (number : ℕ) → IsErrOf r (fault.Working (record { 0 = number })) ↔ IsWorkingStage state dir number
none-works state dir P left_out r of none number = (
  λ same. absurd (left_out (record { 0 = number }) (never P r (fault.Working (record { 0 = number })) of same)),
  λ works_. absurd (none number works_.staged),
)

-- where it was refused nothing was done
pub err-so : {T : Type 0} {why : JobFault} (r : Result T JobFault) → IsErrOf r why → IfOk r (λ _. ⊥)
err-so {why = why} (Ok x) e = cc
err-so (Err other) e = tt
