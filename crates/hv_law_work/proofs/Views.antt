-- What a job would merge hangs on the kinds and ranges of its partition's jobs: a step that leaves those leaves that.
use Rattle.std.proofs.Common.{◌≡◌, ℕ, zero, suc, Bool, true, false, cond, List, [], ◌∷◌, ◌++◌, filter, fold, map, refl, sym, ap, ◌∙◌}
use Rattle.std.specs.Prelude.{if◌then◌else◌, nat_lt}
use Rattle.hv_history.specs.declared.entry.JobKind.{JobKind}
use Rattle.hv_history.specs.declared.entry.JobKind.TheVariants as kind
use Rattle.hv_history.specs.State.{Job, changed, changed_at}
use Rattle.hv_history.specs.Jobs.{Events, inserts, deletes, is_kind, high_of, high_by, larger, greatest, base_high, any_high, first_above, low_by, low_after, low_for, pieces_of, write_of, pieces_among}

abbrev pub AreAlike : List Job → List Job → Type 0
AreAlike [] [] = Unit {0}
AreAlike (x ∷ xs) (y ∷ ys) = (x.kind ≡ y.kind) × (x.published ≡ y.published) × AreAlike xs ys
AreAlike xs ys = ⊥

any-same : (xs ys : List Job) → AreAlike xs ys → any_high xs ≡ any_high ys
any-same [] [] alike = refl
any-same [] (y ∷ ys) alike = absurd alike
any-same (x ∷ xs) [] alike = absurd alike
any-same (x ∷ xs) (y ∷ ys) alike = λ i. larger (high_by (alike.1 i)) (any-same xs ys alike.2 i)

-- the majors alone
abbrev majors : List Job → List ℕ
majors jobs = map high_of (filter (λ (job : Job). is_kind kind.Major job.kind) jobs)

if-major : (b : Bool) (x : Job) (xs : List Job) → map high_of (cond b (x ∷ xs) xs) ≡ cond b (high_of x ∷ map high_of xs) (map high_of xs)
if-major true x xs = refl
if-major false x xs = refl

majors-same : (xs ys : List Job) → AreAlike xs ys → majors xs ≡ majors ys
majors-same [] [] alike = refl
majors-same [] (y ∷ ys) alike = absurd alike
majors-same (x ∷ xs) [] alike = absurd alike
majors-same (x ∷ xs) (y ∷ ys) alike =
    if-major (is_kind kind.Major x.kind) x (filter (λ (job : Job). is_kind kind.Major job.kind) xs)
    ∙ (λ i. cond (is_kind kind.Major (alike.0 i)) (high_by (alike.1 i) ∷ majors-same xs ys alike.2 i) (majors-same xs ys alike.2 i))
    ∙ sym (if-major (is_kind kind.Major y.kind) y (filter (λ (job : Job). is_kind kind.Major job.kind) ys))

base-same : (xs ys : List Job) → AreAlike xs ys → base_high xs ≡ base_high ys
base-same xs ys alike = ap greatest (majors-same xs ys alike)

after-same : (base low : ℕ) (x y : Job) → x.kind ≡ y.kind → x.published ≡ y.published → low_after base low x ≡ low_after base low y
after-same base low x y kinds ranges = λ i. if is_kind kind.Minor (kinds i) then low_by base low (ranges i) else low

low-same : (base low : ℕ) (xs ys : List Job) → AreAlike xs ys → fold (low_after base) low xs ≡ fold (low_after base) low ys
low-same base low [] [] alike = refl
low-same base low [] (y ∷ ys) alike = absurd alike
low-same base low (x ∷ xs) [] alike = absurd alike
low-same base low (x ∷ xs) (y ∷ ys) alike =
    ap (λ n. fold (low_after base) n xs) (after-same base low x y alike.0 alike.1)
    ∙ low-same base (low_after base low y) xs ys alike.2

low-for-same : (k : JobKind) (ids : List Events) (xs ys : List Job) → AreAlike xs ys → low_for k (base_high xs) xs ids ≡ low_for k (base_high ys) ys ids
low-for-same kind.Minor ids xs ys alike =
    low-same (base_high xs) (first_above (base_high xs) ids) xs ys alike
    ∙ ap (λ base. fold (low_after base) (first_above base ids) ys) (base-same xs ys alike)
low-for-same kind.Major ids xs ys alike = refl

pub pieces-alike : (k : JobKind) (ids : List Events) (xs ys : List Job) → AreAlike xs ys → pieces_among k xs ids ≡ pieces_among k ys ids
pieces-alike k ids xs ys alike = λ i. record {
  ins = pieces_of inserts (base-same xs ys alike i) (any-same xs ys alike i) ids;
  del = pieces_of deletes (base-same xs ys alike i) (any-same xs ys alike i) ids;
  base = nat_lt 0 (base-same xs ys alike i);
  low = low-for-same k ids xs ys alike i;
  high = greatest (map write_of ids);
}

-- ---- where one is changed that keeps both

alike-refl : (xs : List Job) → AreAlike xs xs
alike-refl [] = tt
alike-refl (x ∷ xs) = (refl, refl, alike-refl xs)

module _ (p : Job → Bool) (f : Job → Job) (passes : (j : Job) → p (f j) ≡ p j) (kinds : (j : Job) → (f j).kind ≡ j.kind)
    (ranges : (j : Job) → (f j).published ≡ j.published) where
  here-alike : (b c : Bool) → b ≡ c → (j : Job) (xs : List Job) → AreAlike (cond b (f j ∷ xs) xs) (cond c (j ∷ xs) xs)
  here-alike true true e j xs = (kinds j, ranges j, alike-refl xs)
  here-alike false false e j xs = alike-refl xs
  here-alike true false e j xs = cc
  here-alike false true e j xs = cc

  more-alike : (b : Bool) (j : Job) (xs ys : List Job) → AreAlike xs ys → AreAlike (cond b (j ∷ xs) xs) (cond b (j ∷ ys) ys)
  more-alike true j xs ys alike = (refl, refl, alike)
  more-alike false j xs ys alike = alike

  at-alike : (xs : List Job) (n : ℕ) → AreAlike (filter p (changed_at f xs n)) (filter p xs)
  at-alike [] n = tt
  at-alike (x ∷ xs) zero = here-alike (p (f x)) (p x) (passes x) x (filter p xs)
  at-alike (x ∷ xs) (suc n) = more-alike (p x) x (filter p (changed_at f xs n)) (filter p xs) (at-alike xs n)

  pub changed-alike : (xs : List Job) (n : ℕ) → AreAlike (filter p (changed f xs n)) (filter p xs)
  changed-alike xs zero = alike-refl (filter p xs)
  changed-alike xs (suc n) = at-alike xs n

-- one more that isn't among them
pub filter-last : {A : Type 0} (p : A → Bool) (xs : List A) (y : A) → p y ≡ false → filter p (xs ++ y ∷ []) ≡ filter p xs
filter-last p [] y fails = ap (λ b. cond b (y ∷ []) []) fails
filter-last p (x ∷ xs) y fails = ap (λ zs. cond (p x) (x ∷ zs) zs) (filter-last p xs y fails)
