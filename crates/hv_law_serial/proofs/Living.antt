-- A job that was taken up is of a live table, so that it isn't given up for a dropped one.
use Rattle.std.proofs.Common.{◌≡◌, ℕ, zero, suc, ◌+◌, ◌≤◌, Bool, true, false, true≢false, Option, Some, None, List, [], ◌∷◌, sym, ◌∙◌, subst, refl, arith}
use Rattle.std.specs.Prelude.{if◌then◌else◌, ◌&&◌, IsSomeAnd}
use Rattle.std.specs.List.{slice_get}
use Rattle.std.proofs.lemmas.Bool.{and_parts}
use Rattle.hv_base.specs.declared.ids.JobId.{JobId}
use Rattle.hv_base.specs.declared.ids.WriteId.{WriteId}
use Rattle.hv_history.specs.declared.entry.Entry.TheVariants as entry
use Rattle.hv_history.specs.declared.entry.JobCause.TheVariants as job_cause
use Rattle.hv_history.specs.State.{State, Job, numbered, picked, acted, after}
use Rattle.hv_history.specs.Jobs.{is_initiated}
use Rattle.hv_history.specs.JobsFit.{first_initiated, is_live_job, PickedFits, FailedFits}
use Rattle.hv_history.specs.Legal.{Fits, profile}
use Rattle.hv_stands.proofs.Numbers.{found, changed-here}

-- the job of that number is there, and of a live table
abbrev pub IsAlive : State → ℕ → Type 0
IsAlive s number = IsSomeAnd (numbered s.jobs number) (λ (j : Job). is_live_job s j ≡ true)

least : (s : State) (k : ℕ) (jobs : List Job) (n : ℕ) → first_initiated s k jobs ≡ Some n → k ≤ n
least s k [] n is = cc
least s k (job ∷ jobs) n is = by (least s (k + 1) jobs n) (is_initiated job && is_live_job s job) is
  where
    by : (first_initiated s (k + 1) jobs ≡ Some n → k + 1 ≤ n) → (b : Bool) → (if b then Some k else first_initiated s (k + 1) jobs) ≡ Some n → k ≤ n
    by rest true e = let some : Some k ≡ Some n = e in let same : k ≡ n = cc in omega (arith, same)
    by rest false e = let more = rest e in omega (arith, more)

lives-at : (s : State) (jobs : List Job) (k n i : ℕ) (job : Job) → first_initiated s k jobs ≡ Some n → n ≡ k + i → slice_get jobs i ≡ Some job
    → is_live_job s job ≡ true
lives-at s [] k n i job is at there = cc
lives-at s (j ∷ jobs) k n zero job is at there = by (is_initiated j && is_live_job s j) refl is
  where
    by : (b : Bool) → (is_initiated j && is_live_job s j) ≡ b → (if b then Some k else first_initiated s (k + 1) jobs) ≡ Some n → is_live_job s job ≡ true
    by true both e =
        let same : j ≡ job = cc in
        subst (λ (x : Job). is_live_job s x ≡ true) same (and_parts (is_initiated j) (is_live_job s j) both).1
    by false both e = let more = least s (k + 1) jobs n e in absurd (omega (arith, more, at))
lives-at s (j ∷ jobs) k n (suc i) job is at there =
    by (λ e. lives-at s jobs (k + 1) n i job e (omega (arith, at)) there) (is_initiated j && is_live_job s j) is
  where
    by : (first_initiated s (k + 1) jobs ≡ Some n → is_live_job s job ≡ true) → (b : Bool)
        → (if b then Some k else first_initiated s (k + 1) jobs) ≡ Some n → is_live_job s job ≡ true
    by rest true e = let some : Some k ≡ Some n = e in let same : k ≡ n = cc in absurd (omega (arith, same, at))
    by rest false e = rest e

lives : (s : State) (n : ℕ) (job : Job) → first_initiated s 1 s.jobs ≡ Some n → numbered s.jobs n ≡ Some job → is_live_job s job ≡ true
lives s zero job is at = cc
lives s (suc n) job is at = lives-at s s.jobs 1 (suc n) n job is (omega arith) at

-- behind its Picked too
alive-behind : (s : State) (job : JobId) (watermark : WriteId) (j : Job) → numbered s.jobs job.0 ≡ Some j → is_live_job s j ≡ true
    → IsAlive (after s (entry.Picked job watermark)) job.0
unfolding acted
alive-behind s job watermark j at live =
    subst (λ (o : Option Job). IsSomeAnd o (λ (x : Job). is_live_job (after s (entry.Picked job watermark)) x ≡ true))
    (sym (changed-here (picked watermark.0) s.jobs job.0 j at)) live

pub picked-alive : (s : State) (job : JobId) (watermark : WriteId) → Fits profile s (entry.Picked job watermark)
    → IsAlive (after s (entry.Picked job watermark)) job.0
picked-alive s job watermark fits =
    let at = found (PickedFits profile s job.0 watermark.0) (numbered s.jobs job.0) fits in
    alive-behind s job watermark at.0 at.1 (lives s job.0 at.0 at.2.lowest at.1)

pub gone-never : (s : State) (o : Option Job) → IsSomeAnd o (FailedFits s job_cause.Gone) → IsSomeAnd o (λ (j : Job). is_live_job s j ≡ true) → ⊥
gone-never s None fits live = absurd fits
gone-never s (Some j) fits live = true≢false (sym live ∙ fits.gone.0 refl)
