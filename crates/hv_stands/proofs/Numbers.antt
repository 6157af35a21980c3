-- The one of a number, where one is changed and where one is added.
use Rattle.std.proofs.Common.{refl, ◌≡◌, ℕ, zero, suc, ◌+◌, ◌<◌, ◌≤◌, ◌==◌, ◌⊎◌, inl, inr, Bool, true, false, cond, Option, Some, None, List, [], ◌∷◌, ◌++◌, length, map, sym, ap, ◌∙◌, arith, eq-eqb}
use Rattle.std.specs.Prelude.{IsSomeAnd}
use Rattle.std.proofs.Math.Dec.{eqb-suc-zero, eqb-zero-suc, eqb-suc-suc}
use Rattle.std.specs.List.{slice_get}
use Rattle.std.specs.Option.{option_map}
use Rattle.hv_history.specs.State.{numbered, changed, changed_at}
use Rattle.hv_history.specs.hv_meaning.proofs.Meanings.{get-mapped as get-map}

pub one_value : {A : Type 0} (x y : A) → Some x ≡ Some y → x ≡ y
one_value x y e = cc

pub same_one : {A : Type 0} (o : Option A) (x y : A) → o ≡ Some x → o ≡ Some y → x ≡ y
same_one o x y e f = one_value x y (sym e ∙ f)

pub none_is : {A : Type 0} (o : Option A) (x : A) → o ≡ None → o ≡ Some x → ⊥
none_is o x e f = cc

-- the one that is there
pub found : {A : Type 0} (P : A → Type 0) (o : Option A) → IsSomeAnd o P → (x : A) × (o ≡ Some x) × P x
found P None h = absurd h
found P (Some x) h = (x, refl, h)

pub either : (b : Bool) → (b ≡ true) ⊎ (b ≡ false)
either true = inl refl
either false = inr refl

-- ---- a change

changed-slice : {A : Type 0} (f : A → A) (xs : List A) (n k : ℕ) (x : A) → slice_get xs n ≡ Some x
    → slice_get (changed_at f xs n) k ≡ cond (k == n) (Some (f x)) (slice_get xs k)
changed-slice f [] n k x e = cc
changed-slice f (y ∷ xs) zero zero x e = let is : y ≡ x = cc in ap (λ z. Some (f z)) is
changed-slice f (y ∷ xs) zero (suc k) x e = ap (λ b. cond b (Some (f x)) (slice_get xs k)) (sym (eqb-suc-zero k))
changed-slice f (y ∷ xs) (suc n) zero x e = ap (λ b. cond b (Some (f x)) (Some y)) (sym (eqb-zero-suc n))
changed-slice f (y ∷ xs) (suc n) (suc k) x e =
    changed-slice f xs n k x e ∙ ap (λ b. cond b (Some (f x)) (slice_get xs k)) (sym (eqb-suc-suc k n))

pub numbered-changed : {A : Type 0} (f : A → A) (xs : List A) (n k : ℕ) (x : A) → numbered xs n ≡ Some x
    → numbered (changed f xs n) k ≡ cond (k == n) (Some (f x)) (numbered xs k)
numbered-changed f xs zero k x e = cc
numbered-changed f xs (suc n) zero x e = ap (λ b. cond b (Some (f x)) None) (sym (eqb-zero-suc n))
numbered-changed f xs (suc n) (suc k) x e =
    changed-slice f xs n k x e ∙ ap (λ b. cond b (Some (f x)) (slice_get xs k)) (sym (eqb-suc-suc k n))

pub changed-here : {A : Type 0} (f : A → A) (xs : List A) (n : ℕ) (x : A) → numbered xs n ≡ Some x → numbered (changed f xs n) n ≡ Some (f x)
changed-here f xs n x e = numbered-changed f xs n n x e ∙ ap (λ b. cond b (Some (f x)) (numbered xs n)) (eq-eqb n n refl)

-- ---- through a map

pub numbered-map : {A B : Type 0} (f : A → B) (xs : List A) (n : ℕ) → numbered (map f xs) n ≡ option_map f (numbered xs n)
numbered-map f xs zero = refl
numbered-map f xs (suc n) = get-map f xs n

map-cond : {A B : Type 0} (f : A → B) (b : Bool) (x : A) (o : Option A) → option_map f (cond b (Some x) o) ≡ cond b (Some (f x)) (option_map f o)
map-cond f true x o = refl
map-cond f false x o = refl

pub map-changed : {A B : Type 0} (f : A → B) (g : A → A) (xs : List A) (n k : ℕ) (x : A) → numbered xs n ≡ Some x
    → numbered (map f (changed g xs n)) k ≡ cond (k == n) (Some (f (g x))) (numbered (map f xs) k)
map-changed f g xs n k x e =
    numbered-map f (changed g xs n) k
    ∙ ap (option_map f) (numbered-changed g xs n k x e)
    ∙ map-cond f (k == n) (g x) (numbered xs k)
    ∙ ap (λ o. cond (k == n) (Some (f (g x))) o) (sym (numbered-map f xs k))

pub map-more : {A B : Type 0} (f : A → B) (xs : List A) (x : A) → map f (xs ++ x ∷ []) ≡ map f xs ++ f x ∷ []
map-more f [] x = refl
map-more f (y ∷ xs) x = ap (λ ys. f y ∷ ys) (map-more f xs x)

-- ---- one more

more-slice : {A : Type 0} (xs : List A) (x : A) (n : ℕ) (y : A) → slice_get xs n ≡ Some y → slice_get (xs ++ x ∷ []) n ≡ Some y
more-slice [] x n y e = cc
more-slice (z ∷ xs) x zero y e = e
more-slice (z ∷ xs) x (suc n) y e = more-slice xs x n y e

pub numbered-more : {A : Type 0} (xs : List A) (x : A) (n : ℕ) (y : A) → numbered xs n ≡ Some y → numbered (xs ++ x ∷ []) n ≡ Some y
numbered-more xs x zero y e = cc
numbered-more xs x (suc n) y e = more-slice xs x n y e

last-slice : {A : Type 0} (xs : List A) (x : A) (n : ℕ) (y : A) → slice_get (xs ++ x ∷ []) n ≡ Some y
    → (slice_get xs n ≡ Some y) ⊎ ((n ≡ length xs) × (y ≡ x))
last-slice [] x zero y e = inr (refl, sym (one_value x y e))
last-slice [] x (suc n) y e = cc
last-slice (z ∷ xs) x zero y e = inl e
last-slice (z ∷ xs) x (suc n) y e = by (last-slice xs x n y e)
  where
    by : (slice_get xs n ≡ Some y) ⊎ ((n ≡ length xs) × (y ≡ x)) → (slice_get xs n ≡ Some y) ⊎ ((suc n ≡ length (z ∷ xs)) × (y ≡ x))
    by (inl h) = inl h
    by (inr h) = let at : n ≡ length xs = h.0 in inr (omega arith, h.1)

-- what is found behind one more was there, or is the new one
pub numbered-or-last : {A : Type 0} (xs : List A) (x : A) (n : ℕ) (y : A) → numbered (xs ++ x ∷ []) n ≡ Some y
    → (numbered xs n ≡ Some y) ⊎ ((n ≡ length xs + 1) × (y ≡ x))
numbered-or-last xs x zero y e = cc
numbered-or-last xs x (suc n) y e = by (last-slice xs x n y e)
  where
    by : (slice_get xs n ≡ Some y) ⊎ ((n ≡ length xs) × (y ≡ x)) → (slice_get xs n ≡ Some y) ⊎ ((suc n ≡ length xs + 1) × (y ≡ x))
    by (inl h) = inl h
    by (inr h) = let at : n ≡ length xs = h.0 in inr (omega arith, h.1)

-- a number is within the list, and above 0
slice-within : {A : Type 0} (xs : List A) (n : ℕ) (x : A) → slice_get xs n ≡ Some x → n < length xs
slice-within [] n x e = cc
slice-within (y ∷ xs) zero x e = omega arith
slice-within (y ∷ xs) (suc n) x e = let h = slice-within xs n x e in omega (arith, h)

pub numbered-within : {A : Type 0} (xs : List A) (n : ℕ) (x : A) → numbered xs n ≡ Some x → (1 ≤ n) × (n ≤ length xs)
numbered-within xs zero x e = cc
numbered-within xs (suc n) x e = let h = slice-within xs n x e in (omega arith, omega (arith, h))

slice_get-last : {A : Type 0} (xs : List A) (x : A) → numbered (xs ++ x ∷ []) (suc (length xs)) ≡ Some x
slice_get-last [] x = refl
slice_get-last (y ∷ xs) x = slice_get-last xs x

pub numbered-last : {A : Type 0} (xs : List A) (x : A) → numbered (xs ++ x ∷ []) (length xs + 1) ≡ Some x
numbered-last xs x =
    let next : length xs + 1 ≡ suc (length xs) = omega arith in
    ap (numbered (xs ++ x ∷ [])) next ∙ slice_get-last xs x
