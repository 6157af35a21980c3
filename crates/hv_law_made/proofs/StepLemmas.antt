-- A job's step that leaves what its directories are and whether it was published: it was picked, was empty, or failed. Then all stands on,
-- and so it does where its directories were removed and the entry says that.
use Rattle.std.proofs.Common.{refl, ◌≡◌, ◌⊎◌, inl, inr, ℕ, zero, suc, ◌&&◌, ◌||◌, nat_eq, Bool, true, false, cond, Option, Some, None, List, [], ◌∷◌, ◌++◌, filter, ap, ◌∙◌}
use Rattle.std.specs.Prelude.{◌==◌, is_none}
use Rattle.std.specs.Cmp.Lexicographic.{pointwise}
use Rattle.std.specs.List.{flat_map, list_any, slice_get}
use Rattle.hv_dirs.specs.declared.names.DirName.{DirName}
use Rattle.hv_stands.specs.hv_history.specs.declared.state.Transaction.{Transaction}
use Rattle.hv_stands.specs.hv_history.specs.State.{State, Job, numbered, changed, changed_at}
use Rattle.hv_stands.specs.hv_history.specs.Jobs.{is_job_of, jobs_of, first_open, if_below, is_past_by}
use Rattle.hv_jobs.specs.Covers.{names_by, job_names, covers_by, covers, frees, is_freed}
use Rattle.hv_law_visible.specs.Members.{IsIn}

-- ---- a list of which one element is changed, or to which one comes

module _ {A : Type 0} (p : A → Bool) (test now : A → Bool) (same : (x : A) → now x ≡ test x) where
  either-any : (b : Bool) (x y : A) (xs ys : List A) → now x ≡ test y → list_any now xs ≡ list_any test ys
      → list_any now (cond b (x ∷ xs) xs) ≡ list_any test (cond b (y ∷ ys) ys)
  either-any true x y xs ys e es = λ i. e i || es i
  either-any false x y xs ys e es = es

  any-same : (xs : List A) → list_any now (filter p xs) ≡ list_any test (filter p xs)
  any-same [] = refl
  any-same (x ∷ xs) = either-any (p x) x x (filter p xs) (filter p xs) (same x) (any-same xs)

  any-end : (b : Bool) (x : A) → now x ≡ false → list_any now (cond b (x ∷ []) []) ≡ false
  any-end true x e = λ i. e i || false
  any-end false x e = refl

  pub any-more : (xs : List A) (last : A) → now last ≡ false → list_any now (filter p (xs ++ last ∷ [])) ≡ list_any test (filter p xs)
  any-more [] last e = any-end (p last) last e
  any-more (x ∷ xs) last e = either-any (p x) x x (filter p (xs ++ last ∷ [])) (filter p xs) (same x) (any-more xs last e)

  module _ (f : A → A) (keeps : (x : A) → p (f x) ≡ p x) (step : (x : A) → now (f x) ≡ test x) where
    any-at : (xs : List A) (n : ℕ) → list_any now (filter p (changed_at f xs n)) ≡ list_any test (filter p xs)
    any-at [] n = refl
    any-at (x ∷ xs) zero =
        ap (λ b. list_any now (cond b (f x ∷ filter p xs) (filter p xs))) (keeps x)
        ∙ either-any (p x) (f x) x (filter p xs) (filter p xs) (step x) (any-same xs)
    any-at (x ∷ xs) (suc n) = either-any (p x) x x (filter p (changed_at f xs n)) (filter p xs) (same x) (any-at xs n)

    pub any-changed : (xs : List A) (n : ℕ) → list_any now (filter p (changed f xs n)) ≡ list_any test (filter p xs)
    any-changed xs zero = any-same xs
    any-changed xs (suc n) = any-at xs n

module _ {A B : Type 0} (p : A → Bool) (g : A → List B) where
  either-flat : (b : Bool) (x y : A) (xs ys : List A) → g x ≡ g y → flat_map g xs ≡ flat_map g ys → flat_map g (cond b (x ∷ xs) xs) ≡ flat_map g (cond b (y ∷ ys) ys)
  either-flat true x y xs ys e es = λ i. e i ++ es i
  either-flat false x y xs ys e es = es

  flat-end : (b : Bool) (x : A) → g x ≡ [] → flat_map g (cond b (x ∷ []) []) ≡ []
  flat-end true x e = λ i. e i ++ []
  flat-end false x e = refl

  pub flat-more : (xs : List A) (last : A) → g last ≡ [] → flat_map g (filter p (xs ++ last ∷ [])) ≡ flat_map g (filter p xs)
  flat-more [] last e = flat-end (p last) last e
  flat-more (x ∷ xs) last e = either-flat (p x) x x (filter p (xs ++ last ∷ [])) (filter p xs) refl (flat-more xs last e)

  module _ (f : A → A) (keeps : (x : A) → p (f x) ≡ p x) (step : (x : A) → g (f x) ≡ g x) where
    flat-at : (xs : List A) (n : ℕ) → flat_map g (filter p (changed_at f xs n)) ≡ flat_map g (filter p xs)
    flat-at [] n = refl
    flat-at (x ∷ xs) zero =
        ap (λ b. flat_map g (cond b (f x ∷ filter p xs) (filter p xs))) (keeps x) ∙ either-flat (p x) (f x) x (filter p xs) (filter p xs) (step x) refl
    flat-at (x ∷ xs) (suc n) = either-flat (p x) x x (filter p (changed_at f xs n)) (filter p xs) refl (flat-at xs n)

    pub flat-changed : (xs : List A) (n : ℕ) → flat_map g (filter p (changed f xs n)) ≡ flat_map g (filter p xs)
    flat-changed xs zero = refl
    flat-changed xs (suc n) = flat-at xs n

slice-changed : {A : Type 0} (f : A → A) (xs : List A) (n : ℕ) (x : A) → IsIn x (changed_at f xs n) → IsIn x xs ⊎ ((y : A) × (slice_get xs n ≡ Some y) × (f y ≡ x))
slice-changed f [] n x at = inl at
slice-changed f (y ∷ xs) zero x (inl e) = inr (y, refl, e)
slice-changed f (y ∷ xs) zero x (inr at) = inl (inr at)
slice-changed f (y ∷ xs) (suc n) x (inl e) = inl (inl e)
slice-changed f (y ∷ xs) (suc n) x (inr at) = elim (slice-changed f xs n x at) [ inl was ↦ inl (inr was) | inr is ↦ inr is ]

slice-in : {A : Type 0} (xs : List A) (n : ℕ) (x : A) → slice_get xs n ≡ Some x → IsIn x xs
slice-in [] n x e = cc
slice-in (y ∷ xs) zero x e = inl cc
slice-in (y ∷ xs) (suc n) x e = inr (slice-in xs n x e)

pub numbered-in : {A : Type 0} (xs : List A) (n : ℕ) (x : A) → numbered xs n ≡ Some x → IsIn x xs
numbered-in xs zero x e = cc
numbered-in xs (suc n) x e = slice-in xs n x e

-- what is in the list then was there, or is the one that was changed
pub from-changed : {A : Type 0} (f : A → A) (xs : List A) (n : ℕ) (x : A) → IsIn x (changed f xs n) → IsIn x xs ⊎ ((y : A) × (numbered xs n ≡ Some y) × (f y ≡ x))
from-changed f xs zero x at = inl at
from-changed f xs (suc n) x at = slice-changed f xs n x at

slice-kept : {A : Type 0} (f : A → A) (xs : List A) (n : ℕ) (x : A) → IsIn x xs → IsIn x (changed_at f xs n) ⊎ (slice_get xs n ≡ Some x)
slice-kept f [] n x at = inl at
slice-kept f (y ∷ xs) zero x (inl e) = inr (ap Some e)
slice-kept f (y ∷ xs) zero x (inr at) = inl (inr at)
slice-kept f (y ∷ xs) (suc n) x (inl e) = inl (inl e)
slice-kept f (y ∷ xs) (suc n) x (inr at) = elim (slice-kept f xs n x at) [ inl still ↦ inl (inr still) | inr is ↦ inr is ]

-- what was in it still is, or is that one
pub kept-changed : {A : Type 0} (f : A → A) (xs : List A) (n : ℕ) (x : A) → IsIn x xs → IsIn x (changed f xs n) ⊎ (numbered xs n ≡ Some x)
kept-changed f xs zero x at = inl at
kept-changed f xs (suc n) x at = slice-kept f xs n x at

-- ---- such a step

pub record IsSameJob (after before : Job) : Type 0 where
  pub table : after.table ≡ before.table
  pub partition : after.partition ≡ before.partition
  pub kind : after.kind ≡ before.kind
  pub published : after.published ≡ before.published

-- of the job of that number
pub record IsStep (state now : State) (f : Job → Job) (number : ℕ) : Type 0 where
  pub tables : now.tables ≡ state.tables
  pub transactions : now.transactions ≡ state.transactions
  pub jobs : now.jobs ≡ changed f state.jobs number
  pub same : (job : Job) → IsSameJob (f job) job

-- who is past hangs on the transactions alone
module _ (state now : State) (transactions_same : now.transactions ≡ state.transactions) where
  pub past-at : (o : Option (ℕ × ℕ × ℕ)) → is_past_by now o ≡ is_past_by state o
  past-at None = refl
  past-at (Some range) = ap (λ (transactions : List Transaction). is_none (if_below range.2 (first_open 1 transactions))) transactions_same

  pub frees-same : (name : DirName) (job : Job) → frees now name job ≡ frees state name job
  frees-same name job = ap (λ b. b && covers job name) (past-at job.published)

module _ (state now : State) (f : Job → Job) (number : ℕ) (step : IsStep state now f number) where
  pub job-of-same : (table : ℕ) (partition : List ℕ) (job : Job) → is_job_of table partition (f job) ≡ is_job_of table partition job
  job-of-same table partition job = λ i. ((step.same job).table i == table) && pointwise nat_eq ((step.same job).partition i) partition

  pub covers-same : (name : DirName) (job : Job) → covers (f job) name ≡ covers job name
  covers-same name job = λ i. covers_by ((step.same job).kind i) ((step.same job).published i) name

  -- the directories that are made are the same, in the same order
  pub names-same : (table : ℕ) (partition : List ℕ) → flat_map job_names (jobs_of table partition now.jobs) ≡ flat_map job_names (jobs_of table partition state.jobs)
  names-same table partition =
      ap (λ jobs. flat_map job_names (jobs_of table partition jobs)) step.jobs
      ∙ flat-changed (is_job_of table partition) job_names f (job-of-same table partition)
      (λ job i. names_by ((step.same job).kind i) ((step.same job).published i)) state.jobs number

  frees-step : (name : DirName) (job : Job) → frees now name (f job) ≡ frees state name job
  frees-step name job = frees-same state now step.transactions name (f job) ∙ (λ i. is_past_by state ((step.same job).published i) && covers-same name job i)

  -- and so are those that are freed
  pub freed-same : (table : ℕ) (partition : List ℕ) (name : DirName)
      → is_freed now (jobs_of table partition now.jobs) name ≡ is_freed state (jobs_of table partition state.jobs) name
  freed-same table partition name =
      ap (λ jobs. is_freed now (jobs_of table partition jobs) name) step.jobs
      ∙ any-changed (is_job_of table partition) (frees state name) (frees now name) (frees-same state now step.transactions name) f (job-of-same table partition) (frees-step name)
      state.jobs number
