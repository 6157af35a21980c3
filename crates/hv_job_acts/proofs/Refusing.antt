-- Refusals of calls, as acts answer them.
use Rattle.std.proofs.Common.{◌≡◌, ◌↔◌, ℕ, Bool, true, false, true≢false, Option, Some, None, Result, Ok, Err, sym, ap, ◌∙◌}
use Rattle.std.specs.Prelude.{IfOk, IfErr, IsErrOf, IsTrue, IsSomeAnd}
use Rattle.hv_history.specs.State.{State, Job, numbered}
use Rattle.hv_history.specs.Load.{is_working}
use Rattle.hv_finals.specs.Finals.{works_at}
use Rattle.hv_job_calls.specs.declared.fault.JobFault.{JobFault}
use Rattle.hv_job_calls.specs.Refusals.{WorksAt}
use Rattle.hv_job_acts.specs.declared.fault.JobActFault.TheVariants as act
use Rattle.hv_job_acts.specs.Answers.{in_act}
use Rattle.hv_job_acts.specs.Doing.{IfCall, IfCallOrUnfit}

pub err-in : {T : Type 0} (r : Result T JobFault) (why : JobFault) → IsErrOf (in_act r) (act.Call why) ↔ IsErrOf r why
err-in (Ok x) why = (λ e. cc, λ e. cc)
err-in (Err v) why = (
  λ e. let same : v ≡ why = cc in ap (λ (f : JobFault). Err f) same,
  λ e. let same : v ≡ why = cc in ap (λ (f : JobFault). Err (act.Call f)) same,
)

-- what comes just where a call is refused so
pub refused-as : {T : Type 0} (r : Result T JobFault) (why : JobFault) (P : Type 0) → IsErrOf r why ↔ P → IsErrOf (in_act r) (act.Call why) ↔ P
refused-as r why P iff = (λ e. iff.0 ((err-in r why).0 e), λ p. (err-in r why).1 (iff.1 p))

pub refused-if : {T : Type 0} (r : Result T JobFault) (why : JobFault) (P : Type 0) → (IsErrOf r why → P) → IsErrOf (in_act r) (act.Call why) → P
refused-if r why P f e = f ((err-in r why).0 e)

pub others-in : {T : Type 0} (r : Result T JobFault) (P : JobFault → Type 0) → IfErr r P → IfErr (in_act r) (IfCall P)
others-in (Ok x) P is = tt
others-in (Err why) P is = is

pub others-or : {T : Type 0} (r : Result T JobFault) (P : JobFault → Type 0) → IfErr r P → IfErr (in_act r) (IfCallOrUnfit P)
others-or (Ok x) P is = tt
others-or (Err why) P is = is

pub ok-in : {T : Type 0} (r : Result T JobFault) (P : T → Type 0) → IfOk r P → IfOk (in_act r) P
ok-in (Ok x) P is = is
ok-in (Err why) P is = tt

pub always-ok : {T : Type 0} (r : Result T JobFault) (P : Type 0) → P → IfOk (in_act r) (λ x. P)
always-ok (Ok x) P is = is
always-ok (Err why) P is = tt

-- no call is refused as unfit
pub never-unfit : {T : Type 0} (r : Result T JobFault) (P : Type 0) → IsErrOf (in_act r) act.Unfit → P
never-unfit (Ok x) P e = let never : Ok x ≡ Err act.Unfit = e in absurd (cc)
never-unfit (Err why) P e = let never : act.Call why ≡ act.Unfit = cc in absurd (cc)

-- ---- whether a job is at work

pub works-so : (state : State) (job : ℕ) (b : Bool) → b ≡ works_at (numbered state.jobs job) → b ≡ true → WorksAt state job
works-so state job b is so = by (numbered state.jobs job) (sym is ∙ so)
  where
    by : (o : Option Job) → works_at o ≡ true → IsSomeAnd o (λ (j : Job). IsTrue (is_working j))
    by None e = absurd (true≢false (sym e))
    by (Some j) e = e

pub works-not : (state : State) (job : ℕ) (b : Bool) → b ≡ works_at (numbered state.jobs job) → b ≡ false → WorksAt state job → ⊥
works-not state job b is so = by (numbered state.jobs job) (sym is ∙ so)
  where
    by : (o : Option Job) → works_at o ≡ false → IsSomeAnd o (λ (j : Job). IsTrue (is_working j)) → ⊥
    by None e some = some
    by (Some j) e some = true≢false (sym some ∙ e)
