-- Jobs in the order in which they were asked for: what holds of two of them by their numbers, and of all where one is changed or one comes behind.
use Rattle.std.proofs.Common.{◌≡◌, ℕ, zero, suc, ◌+◌, ◌<◌, ◌≤◌, Bool, true, false, Some, List, [], ◌∷◌, ◌++◌, length, filter, nat_eq, refl, sym, ◌∙◌, subst, arith, true≢false, eqb-true}
use Rattle.std.specs.Prelude.{if◌then◌else◌, ◌==◌}
use Rattle.std.specs.Cmp.Lexicographic.{pointwise}
use Rattle.std.specs.List.{slice_get, AllByRecursion}
use Rattle.std.proofs.lemmas.Bool.{and_parts, and_from, eq-eqb}
use Rattle.std.proofs.lemmas.Slice.Eq.{bytes_eq-Decides}
use Rattle.hv_history.specs.State.{Job, numbered, changed, changed_at}
use Rattle.hv_history.specs.Jobs.{is_job_of}
use Rattle.hv_law_jobs.specs.Sound.{IsFollowed, IsFollowedIn, AreInOrder}

pub some-same : {A : Type 0} (x y : A) → Some x ≡ Some y → x ≡ y
some-same x y e = cc

-- ---- members by their numbers

pub get-all : {A : Type 0} (P : A → Type 0) (xs : List A) (n : ℕ) (x : A) → AllByRecursion P xs → slice_get xs n ≡ Some x → P x
get-all P [] n x all is = cc
get-all P (y ∷ xs) zero x all is = let same : y ≡ x = cc in subst P same all.0
get-all P (y ∷ xs) (suc n) x all is = get-all P xs n x all.1 is

pub numbered-all : {A : Type 0} (P : A → Type 0) (xs : List A) (n : ℕ) (x : A) → AllByRecursion P xs → numbered xs n ≡ Some x → P x
numbered-all P xs zero x all is = cc
numbered-all P xs (suc n) x all is = get-all P xs n x all is

pub all-numbers : {A : Type 0} (P : A → Type 0) (xs : List A) → ((n : ℕ) (x : A) → numbered xs n ≡ Some x → P x) → AllByRecursion P xs
all-numbers {A = A} P [] each = tt
all-numbers {A = A} P (x ∷ xs) each = (each 1 x refl, all-numbers P xs (λ n y is. each (suc n) y (later n y is)))
  where
    later : (n : ℕ) (y : A) → numbered xs n ≡ Some y → numbered (x ∷ xs) (suc n) ≡ Some y
    later zero y is = cc
    later (suc n) y is = is

pub all-filter : {A : Type 0} (P : A → Type 0) (q : A → Bool) (xs : List A) → AllByRecursion (λ x. q x ≡ true → P x) xs → AllByRecursion P (filter q xs)
all-filter P q [] all = tt
all-filter P q (x ∷ xs) all = by (q x) refl (all-filter P q xs all.1)
  where
    by : (b : Bool) → q x ≡ b → AllByRecursion P (filter q xs) → AllByRecursion P (if b then x ∷ filter q xs else filter q xs)
    by true is rest = (all.0 is, rest)
    by false is rest = rest

pub filtered-all : {A : Type 0} (P : A → Type 0) (q : A → Bool) (xs : List A) → AllByRecursion P (filter q xs) → AllByRecursion (λ x. q x ≡ true → P x) xs
filtered-all P q [] all = tt
filtered-all P q (x ∷ xs) all = by (filtered-all P q xs) (q x) refl all
  where
    by : (AllByRecursion P (filter q xs) → AllByRecursion (λ y. q y ≡ true → P y) xs) → (b : Bool) → q x ≡ b → AllByRecursion P (if b then x ∷ filter q xs else filter q xs)
        → (q x ≡ true → P x) × AllByRecursion (λ y. q y ≡ true → P y) xs
    by rest true is all = (λ e. all.0, rest all.1)
    by rest false is all = (λ e. absurd (true≢false (sym e ∙ is)), rest all)

pub within : {A : Type 0} (xs : List A) (n : ℕ) (x : A) → slice_get xs n ≡ Some x → n < length xs
within [] n x e = cc
within (y ∷ xs) zero x e = omega arith
within (y ∷ xs) (suc n) x e = omega (arith, within xs n x e)

pub number-there : {A : Type 0} (xs : List A) (n : ℕ) (x : A) → numbered xs n ≡ Some x → (1 ≤ n) × (n ≤ length xs)
number-there xs zero x e = cc
number-there xs (suc n) x e = (omega arith, omega (arith, within xs n x e))

pub all-more : {A : Type 0} (P Q : A → Type 0) → ((x : A) → P x → Q x) → (xs : List A) → AllByRecursion P xs → AllByRecursion Q xs
all-more P Q step [] all = tt
all-more P Q step (x ∷ xs) all = (step x all.0, all-more P Q step xs all.1)

pub all-append : {A : Type 0} (P : A → Type 0) (xs ys : List A) → AllByRecursion P xs → AllByRecursion P ys → AllByRecursion P (xs ++ ys)
all-append P [] ys all more = more
all-append P (x ∷ xs) ys all more = (all.0, all-append P xs ys all.1 more)

all-changed-at : {A : Type 0} (P : A → Type 0) (f : A → A) → ((x : A) → P x → P (f x)) → (xs : List A) (n : ℕ) → AllByRecursion P xs → AllByRecursion P (changed_at f xs n)
all-changed-at P f step [] n all = tt
all-changed-at P f step (x ∷ xs) zero all = (step x all.0, all.1)
all-changed-at P f step (x ∷ xs) (suc n) all = (all.0, all-changed-at P f step xs n all.1)

pub all-changed : {A : Type 0} (P : A → Type 0) (f : A → A) → ((x : A) → P x → P (f x)) → (xs : List A) (n : ℕ) → AllByRecursion P xs → AllByRecursion P (changed f xs n)
all-changed P f step xs zero all = all
all-changed P f step xs (suc n) all = all-changed-at P f step xs n all

-- ---- of one partition

pub job-of-is : (table : ℕ) (partition : List ℕ) (job : Job) → is_job_of table partition job ≡ true → (job.table ≡ table) × (job.partition ≡ partition)
job-of-is table partition job e =
    let both = and_parts (job.table == table) (pointwise nat_eq job.partition partition) e in
    (eqb-true job.table table both.0, (bytes_eq-Decides job.partition partition).0 both.1)

pub job-of-from : (table : ℕ) (partition : List ℕ) (job : Job) → job.table ≡ table → job.partition ≡ partition → is_job_of table partition job ≡ true
job-of-from table partition job t p =
    and_from (job.table == table) (pointwise nat_eq job.partition partition) (eq-eqb job.table table t) ((bytes_eq-Decides job.partition partition).1 p)

pub job-of-back : (a b : Job) → is_job_of a.table a.partition b ≡ true → is_job_of b.table b.partition a ≡ true
job-of-back a b e = let is = job-of-is a.table a.partition b e in job-of-from b.table b.partition a (sym is.0) (sym is.1)

-- ---- two of them

pub in-order-get : (jobs : List Job) (m n : ℕ) (a b : Job) → AreInOrder jobs → m < n → slice_get jobs m ≡ Some a → slice_get jobs n ≡ Some b → IsFollowedIn a b
in-order-get [] m n a b order less is next = cc
in-order-get (job ∷ jobs) zero zero a b order less is next = absurd (omega (arith, less))
in-order-get (job ∷ jobs) zero (suc n) a b order less is next =
    let same : job ≡ a = cc in
    subst (λ (j : Job). IsFollowedIn j b) same (get-all (IsFollowedIn job) jobs n b order.0 next)
in-order-get (job ∷ jobs) (suc m) zero a b order less is next = absurd (omega (arith, less))
in-order-get (job ∷ jobs) (suc m) (suc n) a b order less is next = in-order-get jobs m n a b order.1 (omega (arith, less)) is next

pub in-order : (jobs : List Job) (m n : ℕ) (a b : Job) → AreInOrder jobs → m < n → numbered jobs m ≡ Some a → numbered jobs n ≡ Some b → IsFollowedIn a b
in-order jobs zero n a b order less is next = cc
in-order jobs (suc m) zero a b order less is next = absurd (omega (arith, less))
in-order jobs (suc m) (suc n) a b order less is next = in-order-get jobs m n a b order (omega (arith, less)) is next

-- ---- one is changed

pub all-changed-here : {A : Type 0} (P Q : A → Type 0) (f : A → A) → ((x : A) → P x → Q x) → (xs : List A) (n : ℕ) (here : A) → numbered xs n ≡ Some here
    → (P here → Q (f here)) → AllByRecursion P xs → AllByRecursion Q (changed f xs n)
all-changed-here {A = A} P Q f keep xs zero here is step all = cc
all-changed-here {A = A} P Q f keep xs (suc n) here is step all = at xs n is all
  where
    rest : (ys : List A) → AllByRecursion P ys → AllByRecursion Q ys
    rest [] all = tt
    rest (y ∷ ys) all = (keep y all.0, rest ys all.1)

    at : (ys : List A) (k : ℕ) → slice_get ys k ≡ Some here → AllByRecursion P ys → AllByRecursion Q (changed_at f ys k)
    at [] k is all = cc
    at (y ∷ ys) zero is all = let same : y ≡ here = cc in (subst (λ (z : A). Q (f z)) (sym same) (step (subst P same all.0)), rest ys all.1)
    at (y ∷ ys) (suc k) is all = (keep y all.0, at ys k is all.1)

-- where the changed one still follows what is before it, and is still followed
module _ (f : Job → Job) (here : Job) (P : Job → Type 0) (same : (j : Job) → (is_job_of j.table j.partition (f here) ≡ true → is_job_of j.table j.partition here ≡ true))
    (earlier : (j : Job) → P j → IsFollowed j here → is_job_of j.table j.partition here ≡ true → IsFollowed j (f here))
    (later : (j : Job) → P j → IsFollowedIn here j → IsFollowedIn (f here) j) where
  still-follows : (j : Job) → P j → IsFollowedIn j here → IsFollowedIn j (f here)
  still-follows j p follows e = earlier j p (follows (same j e)) (same j e)

  follow-changed : (j : Job) → P j → (jobs : List Job) (n : ℕ) → slice_get jobs n ≡ Some here → AllByRecursion (IsFollowedIn j) jobs → AllByRecursion (IsFollowedIn j) (changed_at f jobs n)
  follow-changed j p [] n is all = cc
  follow-changed j p (k ∷ jobs) zero is all =
      let it : k ≡ here = cc in
      (subst (λ (x : Job). IsFollowedIn j (f x)) (sym it) (still-follows j p (subst (IsFollowedIn j) it all.0)), all.1)
  follow-changed j p (k ∷ jobs) (suc n) is all = (all.0, follow-changed j p jobs n is all.1)

  followed-changed : (jobs : List Job) → AllByRecursion P jobs → AllByRecursion (IsFollowedIn here) jobs → AllByRecursion (IsFollowedIn (f here)) jobs
  followed-changed [] ps all = tt
  followed-changed (j ∷ jobs) ps all = (later j ps.0 all.0, followed-changed jobs ps.1 all.1)

  order-at : (jobs : List Job) (n : ℕ) → slice_get jobs n ≡ Some here → AllByRecursion P jobs → AreInOrder jobs → AreInOrder (changed_at f jobs n)
  order-at [] n is ps order = cc
  order-at (j ∷ jobs) zero is ps order =
      let it : j ≡ here = cc in
      (subst (λ (x : Job). AllByRecursion (IsFollowedIn (f x)) jobs) (sym it) (followed-changed jobs ps.1 (subst (λ (x : Job). AllByRecursion (IsFollowedIn x) jobs) it order.0)), order.1)
  order-at (j ∷ jobs) (suc n) is ps order = (follow-changed j ps.0 jobs n is order.0, order-at jobs n is ps.1 order.1)

  pub order-changed : (jobs : List Job) (n : ℕ) → numbered jobs n ≡ Some here → AllByRecursion P jobs → AreInOrder jobs → AreInOrder (changed f jobs n)
  order-changed jobs zero is ps order = cc
  order-changed jobs (suc n) is ps order = order-at jobs n is ps order

-- ---- one comes behind

pub order-more : (jobs : List Job) (job : Job) → AllByRecursion (λ (j : Job). IsFollowedIn j job) jobs → AreInOrder jobs → AreInOrder (jobs ++ job ∷ [])
order-more [] job all order = (tt, tt)
order-more (j ∷ jobs) job all order = (behind jobs order.0, order-more jobs job all.1 order.1)
  where
    behind : (ks : List Job) → AllByRecursion (IsFollowedIn j) ks → AllByRecursion (IsFollowedIn j) (ks ++ job ∷ [])
    behind [] rest = (all.0, tt)
    behind (k ∷ ks) rest = (rest.0, behind ks rest.1)
