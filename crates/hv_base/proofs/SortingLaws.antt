-- Under a total order that tells all values apart there is one sorted list with the same members, counted; and the
-- list sorted by insertion is one.
use Rattle.std.proofs.Common.{◌≡◌, ℕ, zero, suc, ◌+◌, ◌<◌, Bool, true, false, List, [], ◌∷◌, length, get_or, refl, sym, ap, ◌∙◌, subst, arith, IsPermutation, IsSorted, sum_by}
use Rattle.std.specs.declared.cmp.Ordering.{Ordering}
use Rattle.std.specs.declared.cmp.Ordering.TheVariants.{Less, Equal, Greater}
use Rattle.std.specs.Ordering.{is_lt, ordering_reverse}
use Rattle.std.specs.Cmp.{IsTotalOrder, tied_itself}
use Rattle.std.specs.FinMap.{IsAntisymmetric}
use Rattle.std.proofs.lemmas.List.Sums.{sum_by-cons}
use Rattle.std.proofs.lemmas.List.Sorted.{IsPermutation-refl, IsPermutation-sym, IsPermutation-cons, IsPermutation-middle, IsPermutation-trans, sum_by-IsPermutation, ranks_by, sorted_far}
use Rattle.hv_base.specs.Sorting.{placed_by, put_by, sorted_by}

module _ {X : Type 0} (R : X → X → Ordering) where
  -- no member of the list comes before x
  abbrev pub Leads : X → List X → Type 0
  Leads x [] = Unit {0}
  Leads x (y ∷ ys) = (is_lt (R y x) ≡ false) × Leads x ys

  abbrev pub Rises : List X → Type 0
  Rises [] = Unit {0}
  Rises (x ∷ xs) = Leads x xs × Rises xs

module _ {X : Type 0} {R : X → X → Ordering} (total : IsTotalOrder R) where
  leads_from : (x : X) (ys : List X) → ((j : ℕ) → j < length ys → is_lt (R (get_or ys j x) x) ≡ false) → Leads R x ys
  leads_from x [] h = tt
  leads_from x (y ∷ ys) h = (h 0 (omega arith), leads_from x ys (λ j p. h (suc j) (omega arith)))

  pub rises_from : (xs : List X) → IsSorted R xs → Rises R xs
  rises_from [] up = tt
  rises_from (x ∷ xs) up = (
    leads_from x xs (λ j p. sorted_far (λ y z. is_lt (R y z)) (ranks_by total (λ z. z)) (x ∷ xs) up 0 (suc j) x (omega arith) (omega arith)),
    rises_from xs (λ k d low high. next k d (up (suc k) d (omega arith) (omega arith))),
  )
    where
      next : (k : ℕ) (d : X) → is_lt (R (get_or (x ∷ xs) (suc k + 1) d) (get_or xs k d)) ≡ false → is_lt (R (get_or xs (k + 1) d) (get_or xs k d)) ≡ false
      next k d h = let e : suc k + 1 ≡ suc (k + 1) = omega arith in subst (λ n. is_lt (R (get_or (x ∷ xs) n d) (get_or xs k d)) ≡ false) e h

module _ {X : Type 0} {R : X → X → Ordering} (total : IsTotalOrder R) (same : IsAntisymmetric R) where
  -- 1 for a member that comes before x
  one_if : Bool → ℕ
  one_if true = 1
  one_if false = 0

  before : X → X → ℕ
  before x y = one_if (is_lt (R y x))

  none_before : (x : X) (ys : List X) → Leads R x ys → sum_by (before x) ys ≡ 0
  unfolding before one_if
  none_before x [] h = refl
  none_before x (y ∷ ys) h =
      let first : before x y ≡ 0 = ap one_if h.0 in
      let rest = none_before x ys h.1 in
      omega (arith, sum_by-cons (before x) y ys, first, rest)

  SameCounts : List X → List X → Type 0
  SameCounts xs ys = (f : X → ℕ) → sum_by f ys ≡ sum_by f xs

  not_before : (x y : X) → before x y ≡ 0 → is_lt (R y x) ≡ false
  unfolding before one_if
  not_before x y h = by (is_lt (R y x)) h
    where
      by : (b : Bool) → one_if b ≡ 0 → b ≡ false
      by true e = absurd (omega arith)
      by false e = refl

  neither : (r : Ordering) → is_lt r ≡ false → is_lt (ordering_reverse r) ≡ false → r ≡ Equal
  neither Less p q = cc
  neither Equal p q = refl
  neither Greater p q = cc

  -- the first of a sorted list comes after no member of a list with the same members
  first_leads : (x y : X) (xs ys : List X) → Rises R (x ∷ xs) → SameCounts (x ∷ xs) (y ∷ ys) → is_lt (R y x) ≡ false
  unfolding SameCounts
  first_leads x y xs ys up counts =
      let own : is_lt (R x x) ≡ false = ap is_lt (tied_itself total x) in
      let none : sum_by (before x) (x ∷ xs) ≡ 0 = none_before x (x ∷ xs) (own, up.0) in
      not_before x y (omega (arith, counts (before x), none, sum_by-cons (before x) y ys))

  first_same : (x y : X) (xs ys : List X) → Rises R (x ∷ xs) → Rises R (y ∷ ys) → SameCounts (x ∷ xs) (y ∷ ys) → x ≡ y
  unfolding SameCounts
  first_same x y xs ys up up' counts =
      let back = first_leads y x ys xs up' (λ f. sym (counts f)) in
      let ahead = first_leads x y xs ys up counts in
      same x y (neither (R x y) back (ap is_lt (sym (total.antisymm y x)) ∙ ahead))

  rest_counts : (x y : X) (xs ys : List X) → x ≡ y → SameCounts (x ∷ xs) (y ∷ ys) → SameCounts xs ys
  unfolding SameCounts
  rest_counts x y xs ys e counts f =
      omega (arith, counts f, sum_by-cons f x xs, sum_by-cons f y ys, ap f e)

  rising_same : (xs ys : List X) → Rises R xs → Rises R ys → SameCounts xs ys → xs ≡ ys
  unfolding SameCounts
  rising_same [] [] up up' counts = refl
  rising_same [] (y ∷ ys) up up' counts = absurd (omega (arith, counts (λ _. 1), sum_by-cons (λ (_ : X). 1) y ys))
  rising_same (x ∷ xs) [] up up' counts = absurd (omega (arith, counts (λ _. 1), sum_by-cons (λ (_ : X). 1) x xs))
  rising_same (x ∷ xs) (y ∷ ys) up up' counts =
      let first = first_same x y xs ys up up' counts in
      let rest = rising_same xs ys up.1 up'.1 (rest_counts x y xs ys first counts) in
      λ i. first i ∷ rest i

  pub rises-permuted : (xs ys : List X) → Rises R xs → Rises R ys → IsPermutation xs ys → xs ≡ ys
  unfolding SameCounts
  rises-permuted xs ys up up' permuted = rising_same xs ys up up' (λ f. sum_by-IsPermutation f xs ys permuted)

-- two sorted lists with the same members are one list
pub sorted_same : {X : Type 0} {R : X → X → Ordering} → IsTotalOrder R → IsAntisymmetric R → (xs ys : List X) → IsSorted R xs → IsSorted R ys
    → IsPermutation xs ys → xs ≡ ys
sorted_same total same xs ys up up' permuted = rises-permuted total same xs ys (rises_from total xs up) (rises_from total ys up') permuted

module _ {X : Type 0} (R : X → X → Ordering) where
  -- no item comes before the one in front of it
  Rising : List X → Type 0
  Rising [] = Unit {0}
  Rising (x ∷ []) = Unit {0}
  Rising (x ∷ y ∷ ys) = (is_lt (R y x) ≡ false) × Rising (y ∷ ys)

  rising-sorted : (xs : List X) → Rising xs → IsSorted R xs
  unfolding Rising
  rising-sorted [] h k d p q = absurd (omega arith)
  rising-sorted (x ∷ []) h k d p q = absurd (omega arith)
  rising-sorted (x ∷ y ∷ ys) h zero d p q = h.0
  rising-sorted (x ∷ y ∷ ys) h (suc k) d p q =
      let e : suc (k + 1) ≡ suc k + 1 = omega arith in
      subst (λ n. is_lt (R (get_or (x ∷ y ∷ ys) n d) (get_or (y ∷ ys) k d)) ≡ false) e (rising-sorted (y ∷ ys) h.1 k d (omega arith) (omega arith))

  -- y stays first of what x was put into
  rising-front : (o : Ordering) (x y z : X) (zs put : List X) → is_lt (R x y) ≡ false → is_lt (R z y) ≡ false
      → Rising (placed_by R o x z zs put) → Rising (y ∷ placed_by R o x z zs put)
  unfolding Rising
  rising-front Less x y z zs put a b h = (a, h)
  rising-front Equal x y z zs put a b h = (a, h)
  rising-front Greater x y z zs put a b h = (b, h)

  rising-behind : (x y : X) (ys : List X) → is_lt (R x y) ≡ false → Rising (y ∷ ys) → Rising (put_by R x ys) → Rising (y ∷ put_by R x ys)
  unfolding Rising
  rising-behind x y [] a up h = (a, tt)
  rising-behind x y (z ∷ zs) a up h = rising-front (R x z) x y z zs (put_by R x zs) a up.0 h

  rising-tail : (y : X) (ys : List X) → Rising (y ∷ ys) → Rising ys
  unfolding Rising
  rising-tail y [] h = tt
  rising-tail y (z ∷ zs) h = h.1

  module _ (total : IsTotalOrder R) where
    -- what x isn't less than, or comes before
    not_less : (x y : X) → R x y ≡ Greater → is_lt (R x y) ≡ false
    not_less x y e = ap is_lt e

    back : (x y : X) (o : Ordering) → R x y ≡ o → is_lt (ordering_reverse o) ≡ false → is_lt (R y x) ≡ false
    back x y o e h = ap is_lt (total.antisymm y x ∙ ap ordering_reverse e) ∙ h

    rising-put-by : (o : Ordering) (x y : X) (ys : List X) → R x y ≡ o → Rising (y ∷ ys) → Rising (put_by R x ys) → Rising (placed_by R o x y ys (put_by R x ys))
    unfolding Rising
    rising-put-by Less x y ys e up h = (back x y Less e refl, up)
    rising-put-by Equal x y ys e up h = (back x y Equal e refl, up)
    rising-put-by Greater x y ys e up h = rising-behind x y ys (not_less x y e) up h

    rising-put : (x : X) (ys : List X) → Rising ys → Rising (put_by R x ys)
    unfolding Rising
    rising-put x [] up = tt
    rising-put x (y ∷ ys) up = rising-put-by (R x y) x y ys refl up (rising-put x ys (rising-tail y ys up))

    rising-sorted_by : (xs : List X) → Rising (sorted_by R xs)
    unfolding Rising
    rising-sorted_by [] = tt
    rising-sorted_by (x ∷ xs) = rising-put x (sorted_by R xs) (rising-sorted_by xs)

  permuted-by : (o : Ordering) (x y : X) (ys put : List X) → IsPermutation (x ∷ ys) put → IsPermutation (x ∷ y ∷ ys) (placed_by R o x y ys put)
  permuted-by Less x y ys put h = IsPermutation-refl (x ∷ y ∷ ys)
  permuted-by Equal x y ys put h = IsPermutation-refl (x ∷ y ∷ ys)
  permuted-by Greater x y ys put h =
      IsPermutation-trans (x ∷ y ∷ ys) (y ∷ x ∷ ys) (y ∷ put) (IsPermutation-middle (x ∷ []) y ys) (IsPermutation-cons y (x ∷ ys) put h)

  permuted-put : (x : X) (ys : List X) → IsPermutation (x ∷ ys) (put_by R x ys)
  permuted-put x [] = IsPermutation-refl (x ∷ [])
  permuted-put x (y ∷ ys) = permuted-by (R x y) x y ys (put_by R x ys) (permuted-put x ys)

  pub permuted-sorted_by : (xs : List X) → IsPermutation xs (sorted_by R xs)
  permuted-sorted_by [] = IsPermutation-refl []
  permuted-sorted_by (x ∷ xs) =
      IsPermutation-trans (x ∷ xs) (x ∷ sorted_by R xs) (put_by R x (sorted_by R xs))
      (IsPermutation-cons x xs (sorted_by R xs) (permuted-sorted_by xs)) (permuted-put x (sorted_by R xs))

pub sorted-sorted_by : {X : Type 0} {R : X → X → Ordering} → IsTotalOrder R → (xs : List X) → IsSorted R (sorted_by R xs)
sorted-sorted_by {R = R} total xs = rising-sorted R (sorted_by R xs) (rising-sorted_by R total xs)

-- a sorted list with the same members is the list sorted by insertion
pub sorted_is : {X : Type 0} {R : X → X → Ordering} → IsTotalOrder R → IsAntisymmetric R → (xs ys : List X) → IsPermutation xs ys → IsSorted R ys
    → ys ≡ sorted_by R xs
sorted_is {R = R} total same xs ys permuted up =
    sorted_same total same ys (sorted_by R xs) up (sorted-sorted_by total xs)
    (IsPermutation-trans ys xs (sorted_by R xs) (IsPermutation-sym xs ys permuted) (permuted-sorted_by R xs))

-- lists with the same members, counted, are sorted to one list
pub sorted-permuted : {X : Type 0} {R : X → X → Ordering} → IsTotalOrder R → IsAntisymmetric R → (xs ys : List X) → IsPermutation xs ys
    → sorted_by R xs ≡ sorted_by R ys
sorted-permuted {R = R} total same xs ys permuted =
    sorted_is total same ys (sorted_by R xs)
    (IsPermutation-trans ys xs (sorted_by R xs) (IsPermutation-sym xs ys permuted) (permuted-sorted_by R xs)) (sorted-sorted_by total xs)
