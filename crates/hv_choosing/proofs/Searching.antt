-- A search in a sorted list finds whether an item is there.
use Rattle.std.proofs.Common.{◌≡◌, ℕ, zero, suc, ◌<◌, ◌||◌, ◌⊎◌, inl, inr, Bool, true, false, Result, Ok, Err, List, [], ◌∷◌, length, refl, sym, ap, ◌∙◌, subst, arith, IsSorted}
use Rattle.std.specs.declared.cmp.Ordering.{Ordering}
use Rattle.std.specs.declared.cmp.Ordering.TheVariants.{Less, Equal, Greater}
use Rattle.std.specs.Result.{is_ok}
use Rattle.std.specs.Ordering.{is_eq, nat_cmp, ordering_reverse}
use Rattle.std.specs.Cmp.{IsTotalOrder}
use Rattle.std.specs.Cmp.Lexicographic.{slice_cmp, nat_list_cmp_total}
use Rattle.std.specs.FinMap.{nat_cmp-IsAntisymmetric, slice_cmp-IsAntisymmetric}
use Rattle.std.specs.List.{list_any, slice_index_or}
use Rattle.std.specs.List.Sorted.{IsSearchInRange, IsBinarySearchResult}
use Rattle.std.proofs.Math.Dec.{ltb}
use Rattle.std.proofs.lemmas.Bool.{ltb-true, ltb-false}
use Rattle.std.proofs.lemmas.List.Sorted.{searchable_from_sorted}

or-true : (b : Bool) → b || true ≡ true
or-true true = refl
or-true false = refl

either : (b : Bool) → (b ≡ true) ⊎ (b ≡ false)
either true = inl refl
either false = inr refl

module _ {X : Type 0} (p : X → Bool) where
  any-at : (xs : List X) (i : ℕ) → i < length xs → ((d : X) → p (slice_index_or xs i d) ≡ true) → list_any p xs ≡ true
  any-at [] i low h = absurd (omega (arith, low))
  any-at (x ∷ xs) zero low h = ap (λ b. b || list_any p xs) (h x)
  any-at (x ∷ xs) (suc i) low h = ap (λ b. p x || b) (any-at xs i (omega (arith, low)) h) ∙ or-true (p x)

  none-at : (xs : List X) → ((i : ℕ) (d : X) → i < length xs → p (slice_index_or xs i d) ≡ false) → list_any p xs ≡ false
  none-at [] h = refl
  none-at (x ∷ xs) h = λ i. h 0 x (omega arith) i || none-at xs (λ k d low. h (suc k) d (omega (arith, low))) i

pub searched : {X : Type 0} {cmp : X → X → Ordering} → IsTotalOrder cmp → (xs : List X) (x : X) (r : Result ℕ ℕ) → IsSorted cmp xs → IsSearchInRange r (length xs)
    → IsBinarySearchResult (λ y. cmp y x) xs r → is_ok r ≡ list_any (λ other. is_eq (cmp other x)) xs
searched {cmp = cmp} total xs x (Ok i) sorted range found =
    sym (any-at (λ other. is_eq (cmp other x)) xs i range (λ d. ap is_eq (found d)))
searched {X = X} {cmp = cmp} total xs x (Err at) sorted range parted =
    sym (none-at (λ other. is_eq (cmp other x)) xs (λ k d low. by k d low (either (ltb k at))))
  where
    by : (k : ℕ) (d : X) → k < length xs → (ltb k at ≡ true) ⊎ (ltb k at ≡ false) → is_eq (cmp (slice_index_or xs k d) x) ≡ false
    by k d low (inl before) =
        ap is_eq ((parted (searchable_from_sorted total (λ (y : X). y) xs x sorted)).0 k d (omega arith) (ltb-true k at before))
    by k d low (inr behind) =
        ap is_eq ((parted (searchable_from_sorted total (λ (y : X). y) xs x sorted)).1 k d (ltb-false k at behind) low)

-- ---- what ties

tied-by : (o : Ordering) → o ≡ ordering_reverse o → is_eq o ≡ true
tied-by Less e = cc
tied-by Equal e = refl
tied-by Greater e = cc

pub tied : {K : Type 0} {R : K → K → Ordering} → IsTotalOrder R → (x : K) → is_eq (R x x) ≡ true
tied {R = R} total x = tied-by (R x x) (total.antisymm x x)

equal-by : (o : Ordering) → is_eq o ≡ true → o ≡ Equal
equal-by Less e = cc
equal-by Equal e = refl
equal-by Greater e = cc

pub same-text : (a b : List ℕ) → is_eq (slice_cmp nat_cmp a b) ≡ true → a ≡ b
same-text a b e = slice_cmp-IsAntisymmetric nat_cmp-IsAntisymmetric a b (equal-by (slice_cmp nat_cmp a b) e)

pub text-tied : (a b : List ℕ) → a ≡ b → is_eq (slice_cmp nat_cmp a b) ≡ true
text-tied a b e = subst (λ t. is_eq (slice_cmp nat_cmp a t) ≡ true) e (tied nat_list_cmp_total a)
