-- Equal texts, and what holds of all items of a list.
use Rattle.std.proofs.Common.{◌≡◌, ℕ, Bool, true, false, List, [], ◌∷◌, ◌++◌, refl}
use Rattle.std.specs.Prelude.{nat_eq}
use Rattle.std.specs.Cmp.Lexicographic.{pointwise}
use Rattle.std.specs.List.{AllByRecursion}
use Rattle.std.proofs.lemmas.Slice.Eq.{bytes_eq-Decides}

-- ---- equal names

pub not-true : (b : Bool) → (b ≡ true → ⊥) → b ≡ false
not-true true never = absurd (never refl)
not-true false never = refl

pub same-text : (x y : List ℕ) → pointwise nat_eq x y ≡ true → x ≡ y
same-text x y e = (bytes_eq-Decides x y).0 e

pub text-same : (x y : List ℕ) → x ≡ y → pointwise nat_eq x y ≡ true
text-same x y e = (bytes_eq-Decides x y).1 e

module _ {X : Type 0} (P : X → Type 0) where
  pub all-append : (xs ys : List X) → AllByRecursion P xs → AllByRecursion P ys → AllByRecursion P (xs ++ ys)
  all-append [] ys h g = g
  all-append (x ∷ xs) ys h g = (h.0, all-append xs ys h.1 g)

  pub all-parts : (xs ys : List X) → AllByRecursion P (xs ++ ys) → AllByRecursion P xs × AllByRecursion P ys
  all-parts [] ys h = (tt, h)
  all-parts (x ∷ xs) ys h = let parts = all-parts xs ys h.1 in ((h.0, parts.0), parts.1)
