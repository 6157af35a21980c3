-- A list of exceptions that is sorted and one that rises are one list, where every weight adds up to the same over both.
use Rattle.std.proofs.Common.{◌≡◌, ℕ, suc, ◌+◌, ◌<◌, ◌≤◌, Bool, true, false, List, [], ◌∷◌, length, get_or, refl, sym, ap, ◌∙◌, arith}
use Rattle.std.specs.Prelude.{◌==◌, nat_lt}
use Rattle.std.specs.List.{sum_by, AllByRecursion}
use Rattle.std.specs.List.Sorted.{IsNonDecreasingBy, IsPermutation}
use Rattle.std.proofs.lemmas.List.Sums.{sum_by-cons}
use Rattle.std.proofs.lemmas.List.Sorted.{sum_by-IsPermutation}
use Rattle.std.proofs.lemmas.Bool.{eq-eqb, le-ltb, ltb-false}
use Rattle.hv_meta.specs.hv_book.specs.Past.{total, only_if}
use Rattle.hv_meta.specs.hv_book.proofs.NoteLaws.{differ}
use Rattle.hv_wids.specs.declared.list.Exception.{Exception}
use Rattle.hv_wids.specs.WriteIds.{ids_of}
use Rattle.hv_earlier.specs.Places.{write_of}
use Rattle.hv_earlier.proofs.ListLemmas.{RisesFrom}

abbrev NotBelow : ℕ → Exception → Type 0
NotBelow low e = low ≤ e.write.0

-- none comes before one of a lower id
abbrev NotFalling : List Exception → Type 0
NotFalling [] = Unit {0}
NotFalling (x ∷ xs) = AllByRecursion (NotBelow x.write.0) xs × NotFalling xs

leads-from : (x : Exception) (ys : List Exception) → ((j : ℕ) → j < length ys → write_of x ≤ write_of (get_or ys j x)) → AllByRecursion (NotBelow x.write.0) ys
leads-from x [] h = tt
leads-from x (y ∷ ys) h = (h 0 (omega arith), leads-from x ys (λ j p. h (suc j) (omega (arith, p))))

not-falling : (xs : List Exception) → IsNonDecreasingBy write_of xs → NotFalling xs
not-falling [] up = tt
not-falling (x ∷ xs) up = (
  leads-from x xs (λ j p. up 0 (suc j) x (omega arith) (omega (arith, p))),
  not-falling xs (λ i j d le lt. up (suc i) (suc j) d (omega (arith, le)) (omega (arith, lt))),
)

above-all : (low : ℕ) (ys : List Exception) → RisesFrom low (ids_of ys) → AllByRecursion (NotBelow low) ys
above-all low [] h = tt
above-all low (y ∷ ys) h = let first : low ≤ y.write.0 = h.0 in (first, more ys (above-all (y.write.0 + 1) ys h.1))
  where
    more : (zs : List Exception) → AllByRecursion (NotBelow (y.write.0 + 1)) zs → AllByRecursion (NotBelow low) zs
    more [] k = tt
    more (z ∷ zs) k =
        let first : low ≤ y.write.0 = h.0 in
        let next : y.write.0 + 1 ≤ z.write.0 = k.0 in
        (omega (arith, first, next), more zs k.1)

-- 1 for one of a lower id
below : ℕ → Exception → ℕ
below low e = only_if (nat_lt e.write.0 low) 1

none-below : (low : ℕ) (xs : List Exception) → AllByRecursion (NotBelow low) xs → total (below low) xs ≡ 0
unfolding below
none-below low [] h = refl
none-below low (x ∷ xs) h =
    let first : only_if (nat_lt x.write.0 low) 1 ≡ 0 = ap (λ b. only_if b 1) (le-ltb x.write.0 low h.0) in
    omega (arith, first, none-below low xs h.1)

not-below : (low : ℕ) (e : Exception) → below low e ≡ 0 → low ≤ e.write.0
unfolding below
not-below low e h = by (nat_lt e.write.0 low) refl h
  where
    by : (b : Bool) → nat_lt e.write.0 low ≡ b → only_if b 1 ≡ 0 → low ≤ e.write.0
    by true is zero_one = absurd (omega (arith, zero_one))
    by false is none = ltb-false e.write.0 low is

SameTotals : List Exception → List Exception → Type 0
SameTotals xs ys = (f : Exception → ℕ) → total f xs ≡ total f ys

-- the first of the one is not above the first of the other
first-least : (x y : Exception) (xs ys : List Exception) → AllByRecursion (NotBelow x.write.0) xs → total (below x.write.0) (x ∷ xs) ≡ total (below x.write.0) (y ∷ ys)
    → x.write.0 ≤ y.write.0
first-least x y xs ys h same =
    let none : total (below x.write.0) (x ∷ xs) ≡ 0 = none-below x.write.0 (x ∷ xs) (omega arith, h) in
    not-below x.write.0 y (omega (arith, none, same))

-- the weight of those of one id
at_id : ℕ → (Exception → ℕ) → Exception → ℕ
at_id write f e = only_if (e.write.0 == write) (f e)

none-at : (write : ℕ) (f : Exception → ℕ) (ys : List Exception) → AllByRecursion (NotBelow (write + 1)) ys → total (at_id write f) ys ≡ 0
unfolding at_id
none-at write f [] h = refl
none-at write f (y ∷ ys) h =
    let above : write + 1 ≤ y.write.0 = h.0 in
    let first : only_if (y.write.0 == write) (f y) ≡ 0 = ap (λ b. only_if b (f y)) (differ y.write.0 write (λ e. absurd (omega (arith, e, above)))) in
    omega (arith, first, none-at write f ys h.1)

agree : Bool → Bool → Bool
agree true true = true
agree true false = false
agree false true = false
agree false false = true

agree-same : (a : Bool) → agree a a ≡ true
unfolding agree
agree-same true = refl
agree-same false = refl

agree-true : (a b : Bool) → 1 ≤ only_if (agree a b) 1 → a ≡ b
unfolding agree
agree-true true true h = refl
agree-true true false h = absurd (omega (arith, h))
agree-true false true h = absurd (omega (arith, h))
agree-true false false h = refl

agrees : Bool → Exception → ℕ
agrees aborted e = only_if (agree aborted e.aborted) 1

first-same : (x y : Exception) (xs ys : List Exception) → x.write.0 ≡ y.write.0 → AllByRecursion (NotBelow (y.write.0 + 1)) ys → SameTotals (x ∷ xs) (y ∷ ys) → x ≡ y
unfolding SameTotals at_id agrees
first-same x y xs ys same above totals =
    let none = none-at y.write.0 (agrees x.aborted) ys above in
    let left : only_if (x.write.0 == y.write.0) (agrees x.aborted x) ≡ 1 =
    ap (λ b. only_if b (agrees x.aborted x)) (eq-eqb x.write.0 y.write.0 same) ∙ ap (λ b. only_if b 1) (agree-same x.aborted)
    in
    let right : only_if (y.write.0 == y.write.0) (agrees x.aborted y) ≡ only_if (agree x.aborted y.aborted) 1 =
    ap (λ b. only_if b (agrees x.aborted y)) (eq-eqb y.write.0 y.write.0 refl)
    in
    let both = totals (at_id y.write.0 (agrees x.aborted)) in
    let flags : x.aborted ≡ y.aborted = agree-true x.aborted y.aborted (omega (arith, none, left, right, both)) in
    λ i. record { write = record { 0 = same i }; aborted = flags i }

same-lists : (low : ℕ) (xs ys : List Exception) → NotFalling xs → RisesFrom low (ids_of ys) → SameTotals xs ys → xs ≡ ys
unfolding SameTotals
same-lists low [] [] up rise totals = refl
same-lists low [] (y ∷ ys) up rise totals = let one = totals (λ e. 1) in absurd (omega (arith, one))
same-lists low (x ∷ xs) [] up rise totals = let one = totals (λ e. 1) in absurd (omega (arith, one))
same-lists low (x ∷ xs) (y ∷ ys) up rise totals =
    let above = above-all (y.write.0 + 1) ys rise.1 in
    let not_above : x.write.0 ≤ y.write.0 = first-least x y xs ys up.0 (totals (below x.write.0)) in
    let not_under : y.write.0 ≤ x.write.0 = first-least y x ys xs (weaker ys above) (sym (totals (below y.write.0))) in
    let first : x ≡ y = first-same x y xs ys (omega (arith, not_above, not_under)) above totals in
    let rest = same-lists (y.write.0 + 1) xs ys up.1 rise.1 (λ f. let both = totals f in let one : f x ≡ f y = ap f first in omega (arith, both, one)) in
    λ i. first i ∷ rest i
  where
    weaker : (zs : List Exception) → AllByRecursion (NotBelow (y.write.0 + 1)) zs → AllByRecursion (NotBelow y.write.0) zs
    weaker [] k = tt
    weaker (z ∷ zs) k = let next : y.write.0 + 1 ≤ z.write.0 = k.0 in (omega (arith, next), weaker zs k.1)

pub sorted-list : (xs ys : List Exception) → IsNonDecreasingBy write_of xs → RisesFrom 1 (ids_of ys) → ((f : Exception → ℕ) → total f xs ≡ total f ys) → xs ≡ ys
unfolding SameTotals
sorted-list xs ys up rise totals = same-lists 1 xs ys (not-falling xs up) rise totals

-- ---- a sort keeps totals

pub total-sum : {A : Type 0} (f : A → ℕ) (xs : List A) → total f xs ≡ sum_by f xs
total-sum f [] = refl
total-sum f (x ∷ xs) = omega (arith, total-sum f xs, sum_by-cons f x xs)

pub total-permuted : {A : Type 0} (f : A → ℕ) (xs ys : List A) → IsPermutation xs ys → total f ys ≡ total f xs
total-permuted f xs ys same = total-sum f ys ∙ sum_by-IsPermutation f xs ys same ∙ sym (total-sum f xs)
