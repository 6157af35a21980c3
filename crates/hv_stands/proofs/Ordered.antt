-- Lists that rise strictly by an order: what is kept of them, lists beside each other, and a sort of items of which no two tie.
use Rattle.std.proofs.Common.{◌≡◌, Bool, true, false, cond, List, [], ◌∷◌, ◌++◌, filter, refl, sym, ap, ◌∙◌}
use Rattle.std.specs.declared.cmp.Ordering.{Ordering}
use Rattle.std.specs.declared.cmp.Ordering.TheVariants.{Less, Equal, Greater}
use Rattle.std.specs.Ordering.{ordering_reverse}
use Rattle.std.specs.Cmp.{IsTotalOrder}
use Rattle.std.specs.List.{AllByRecursion}
use Rattle.std.specs.List.Sorted.{IsStrictlySortedBy}
use Rattle.hv_base.specs.Sorting.{placed_by, put_by, sorted_by}
use Rattle.hv_stands.proofs.Soundness.{all-mapped}

module _ {X : Type 0} where
  pub all-kept : (P : X → Type 0) (keep : X → Bool) (xs : List X) → AllByRecursion P xs → AllByRecursion P (filter keep xs)
  all-kept P keep [] h = tt
  all-kept P keep (x ∷ xs) h = by (keep x) (all-kept P keep xs h.1)
    where
      by : (b : Bool) → AllByRecursion P (filter keep xs) → AllByRecursion P (cond b (x ∷ filter keep xs) (filter keep xs))
      by true rest = (h.0, rest)
      by false rest = rest

  pub all-joined : (P : X → Type 0) (xs ys : List X) → AllByRecursion P xs → AllByRecursion P ys → AllByRecursion P (xs ++ ys)
  all-joined P [] ys a b = b
  all-joined P (x ∷ xs) ys a b = (a.0, all-joined P xs ys a.1 b)

module _ {X : Type 0} (R : X → X → Ordering) where
  abbrev pub IsBefore : X → List X → Type 0
  IsBefore x ys = AllByRecursion (λ y. R x y ≡ Less) ys

  pub rises-kept : (keep : X → Bool) (xs : List X) → IsStrictlySortedBy R xs → IsStrictlySortedBy R (filter keep xs)
  unfolding IsStrictlySortedBy
  rises-kept keep [] up = tt
  rises-kept keep (x ∷ xs) up = by (keep x) (rises-kept keep xs up.1)
    where
      by : (b : Bool) → IsStrictlySortedBy R (filter keep xs) → IsStrictlySortedBy R (cond b (x ∷ filter keep xs) (filter keep xs))
      by true rest = (all-kept (λ y. R x y ≡ Less) keep xs up.0, rest)
      by false rest = rest

  -- ---- no two of these tie

  abbrev pub NoTie : X → X → Type 0
  NoTie x y = R x y ≡ Equal → ⊥

  abbrev pub AreTold : List X → Type 0
  AreTold [] = Unit {0}
  AreTold (x ∷ xs) = AllByRecursion (NoTie x) xs × AreTold xs

  less-told : (x y : X) → R x y ≡ Less → NoTie x y
  less-told x y less tie = let never : Less ≡ Equal = sym less ∙ tie in cc

  pub rising-told : (xs : List X) → IsStrictlySortedBy R xs → AreTold xs
  unfolding IsStrictlySortedBy
  rising-told [] up = tt
  rising-told (x ∷ xs) up = (all-mapped (λ y. R x y ≡ Less) (NoTie x) (less-told x) xs up.0, rising-told xs up.1)

  pub told-kept : (keep : X → Bool) (xs : List X) → AreTold xs → AreTold (filter keep xs)
  told-kept keep [] h = tt
  told-kept keep (x ∷ xs) h = by (keep x) (told-kept keep xs h.1)
    where
      by : (b : Bool) → AreTold (filter keep xs) → AreTold (cond b (x ∷ filter keep xs) (filter keep xs))
      by true rest = (all-kept (NoTie x) keep xs h.0, rest)
      by false rest = rest

  pub told-joined : (xs ys : List X) → AreTold xs → AreTold ys → AllByRecursion (λ x. AllByRecursion (NoTie x) ys) xs → AreTold (xs ++ ys)
  told-joined [] ys a b h = b
  told-joined (x ∷ xs) ys a b h = (all-joined (NoTie x) xs ys a.0 h.0, told-joined xs ys a.1 b h.1)

  -- ---- a sort of such items

  all-put : (P : X → Type 0) (x : X) (ys : List X) → P x → AllByRecursion P ys → AllByRecursion P (put_by R x ys)
  all-put P x [] px h = (px, tt)
  all-put P x (y ∷ ys) px h = by (R x y) (all-put P x ys px h.1)
    where
      by : (o : Ordering) → AllByRecursion P (put_by R x ys) → AllByRecursion P (placed_by R o x y ys (put_by R x ys))
      by Less rest = (px, h)
      by Equal rest = (px, h)
      by Greater rest = (h.0, rest)

  pub all-sorted : (P : X → Type 0) (xs : List X) → AllByRecursion P xs → AllByRecursion P (sorted_by R xs)
  all-sorted P [] h = tt
  all-sorted P (x ∷ xs) h = all-put P x (sorted_by R xs) h.0 (all-sorted P xs h.1)

  module _ (total : IsTotalOrder R) where
    before-all : (x y : X) (ys : List X) → R x y ≡ Less → IsBefore y ys → IsBefore x ys
    before-all x y [] less h = tt
    before-all x y (z ∷ ys) less h = (total.trans x y z less h.0, before-all x y ys less h.1)

    turned : (x y : X) → R x y ≡ Greater → R y x ≡ Less
    turned x y greater = total.antisymm y x ∙ ap ordering_reverse greater

    put-rises : (x : X) (ys : List X) → AllByRecursion (NoTie x) ys → IsStrictlySortedBy R ys → IsStrictlySortedBy R (put_by R x ys)
    unfolding IsStrictlySortedBy
    put-rises x [] told up = (tt, tt)
    put-rises x (y ∷ ys) told up = by (R x y) refl (put-rises x ys told.1 up.1)
      where
        by : (o : Ordering) → R x y ≡ o → IsStrictlySortedBy R (put_by R x ys) → IsStrictlySortedBy R (placed_by R o x y ys (put_by R x ys))
        by Less is rest = ((is, before-all x y ys is up.0), up)
        by Equal is rest = absurd (told.0 is)
        by Greater is rest = (all-put (λ z. R y z ≡ Less) x ys (turned x y is) up.0, rest)

    pub sorted-rises : (xs : List X) → AreTold xs → IsStrictlySortedBy R (sorted_by R xs)
    unfolding IsStrictlySortedBy
    sorted-rises [] told = tt
    sorted-rises (x ∷ xs) told = put-rises x (sorted_by R xs) (all-sorted (NoTie x) xs told.0) (sorted-rises xs told.1)
