-- What stands in joined, mapped and filtered lists.
use Rattle.std.proofs.Common.{refl, ◌≡◌, ◌⊎◌, inl, inr, Bool, true, false, cond, List, [], ◌∷◌, ◌++◌, map, filter, sym, ap, ◌∙◌, subst, true≢false}
use Rattle.std.proofs.lemmas.Bool.{or_cases, or_left, or_right}
use Rattle.std.specs.List.{flat_map, list_any}
use Rattle.hv_law_visible.specs.Members.{IsIn}

pub in-left : {A : Type 0} (x : A) (xs ys : List A) → IsIn x xs → IsIn x (xs ++ ys)
in-left x [] ys at = absurd at
in-left x (y ∷ xs) ys (inl e) = inl e
in-left x (y ∷ xs) ys (inr at) = inr (in-left x xs ys at)

pub in-right : {A : Type 0} (x : A) (xs ys : List A) → IsIn x ys → IsIn x (xs ++ ys)
in-right x [] ys at = at
in-right x (y ∷ xs) ys at = inr (in-right x xs ys at)

in-either-more : {A : Type 0} (x y : A) (xs ys : List A) → IsIn x xs ⊎ IsIn x ys → IsIn x (y ∷ xs) ⊎ IsIn x ys
in-either-more x y xs ys (inl at) = inl (inr at)
in-either-more x y xs ys (inr at) = inr at

pub in-either : {A : Type 0} (x : A) (xs ys : List A) → IsIn x (xs ++ ys) → IsIn x xs ⊎ IsIn x ys
in-either x [] ys at = inr at
in-either x (y ∷ xs) ys (inl e) = inl (inl e)
in-either x (y ∷ xs) ys (inr at) = in-either-more x y xs ys (in-either x xs ys at)

pub in-flat : {A B : Type 0} (f : A → List B) (x : A) (y : B) (xs : List A) → IsIn x xs → IsIn y (f x) → IsIn y (flat_map f xs)
in-flat f x y [] at has = absurd at
in-flat f x y (z ∷ xs) (inl e) has = in-left y (f z) (flat_map f xs) (subst (λ w. IsIn y (f w)) (sym e) has)
in-flat f x y (z ∷ xs) (inr at) has = in-right y (f z) (flat_map f xs) (in-flat f x y xs at has)

-- where it comes from
pub From : {A B : Type 0} → (A → List B) → B → List A → Type 0
From {A} f y xs = (x : A) × IsIn x xs × IsIn y (f x)

pub from-flat : {A B : Type 0} (f : A → List B) (y : B) (xs : List A) → IsIn y (flat_map f xs) → (x : A) × IsIn x xs × IsIn y (f x)
from-flat f y [] at = absurd at
from-flat f y (z ∷ xs) at = elim (in-either y (f z) (flat_map f xs) at) [
  | inl here ↦ (z, inl refl, here)
  | inr there ↦ let h = from-flat f y xs there in (h.0, inr h.1, h.2)
]

pub in-map : {A B : Type 0} (f : A → B) (x : A) (xs : List A) → IsIn x xs → IsIn (f x) (map f xs)
in-map f x [] at = absurd at
in-map f x (y ∷ xs) (inl e) = inl (ap f e)
in-map f x (y ∷ xs) (inr at) = inr (in-map f x xs at)

pub from-map : {A B : Type 0} (f : A → B) (y : B) (xs : List A) → IsIn y (map f xs) → (x : A) × IsIn x xs × (f x ≡ y)
from-map f y [] at = absurd at
from-map f y (x ∷ xs) (inl e) = (x, inl refl, e)
from-map f y (x ∷ xs) (inr at) = let h = from-map f y xs at in (h.0, inr h.1, h.2)

in-kept : {A : Type 0} (b : Bool) (x y : A) (ys kept : List A) → IsIn x kept → IsIn x (cond b (y ∷ kept) kept)
in-kept true x y ys kept at = inr at
in-kept false x y ys kept at = at

in-kept-here : {A : Type 0} (b : Bool) (x y : A) (kept : List A) → b ≡ true → y ≡ x → IsIn x (cond b (y ∷ kept) kept)
in-kept-here true x y kept is e = inl e
in-kept-here false x y kept is e = absurd (true≢false (sym is))

pub in-filter : {A : Type 0} (p : A → Bool) (x : A) (xs : List A) → IsIn x xs → p x ≡ true → IsIn x (filter p xs)
in-filter p x [] at is = absurd at
in-filter p x (y ∷ xs) (inl e) is = in-kept-here (p y) x y (filter p xs) (ap p e ∙ is) e
in-filter p x (y ∷ xs) (inr at) is = in-kept (p y) x y xs (filter p xs) (in-filter p x xs at is)

from-kept : {A : Type 0} (p : A → Bool) (b : Bool) (x y : A) (ys kept : List A) → p y ≡ b → (IsIn x kept → IsIn x ys × (p x ≡ true))
    → IsIn x (cond b (y ∷ kept) kept) → IsIn x (y ∷ ys) × (p x ≡ true)
from-kept p true x y ys kept is later (inl e) = (inl e, ap p (sym e) ∙ is)
from-kept p true x y ys kept is later (inr at) = let h = later at in (inr h.0, h.1)
from-kept p false x y ys kept is later at = let h = later at in (inr h.0, h.1)

pub from-filter : {A : Type 0} (p : A → Bool) (x : A) (xs : List A) → IsIn x (filter p xs) → IsIn x xs × (p x ≡ true)
from-filter p x [] at = absurd at
from-filter p x (y ∷ xs) at = from-kept p (p y) x y xs (filter p xs) refl (from-filter p x xs) at

pub any-in : {A : Type 0} (p : A → Bool) (x : A) (xs : List A) → IsIn x xs → p x ≡ true → list_any p xs ≡ true
any-in p x [] at is = absurd at
any-in p x (y ∷ xs) (inl e) is = or_left (p y) (list_any p xs) (ap p e ∙ is)
any-in p x (y ∷ xs) (inr at) is = or_right (p y) (list_any p xs) (any-in p x xs at is)

pub in-any : {A : Type 0} (p : A → Bool) (xs : List A) → list_any p xs ≡ true → (x : A) × IsIn x xs × (p x ≡ true)
in-any p [] is = absurd (true≢false (sym is))
in-any p (y ∷ xs) is = elim (or_cases (p y) (list_any p xs) is) [
  | inl here ↦ (y, inl refl, here)
  | inr there ↦ let h = in-any p xs there in (h.0, inr h.1, h.2)
]

-- no element passes
pub none-any : {A : Type 0} (p : A → Bool) (xs : List A) → ((x : A) → IsIn x xs → p x ≡ true → ⊥) → list_any p xs ≡ false
none-any p xs h = Rattle.std.proofs.lemmas.Bool.false_from_ne_true (list_any p xs) (λ is. let w = in-any p xs is in h w.0 w.1 w.2)
