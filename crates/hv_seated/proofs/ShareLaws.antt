-- Shares of a trail: sums over lists of which each place counts once.
use Rattle.std.proofs.Common.{◌≡◌, ◌≢◌, ℕ, zero, suc, ◌+◌, ◌≤◌, ◌<◌, nat_le, true, false, Option, Some, None, List, [], ◌∷◌, ◌++◌, length, ⊎_elim, refl, sym, ap, ◌∙◌, subst, arith}
use Rattle.std.specs.Prelude.{slice_get}
use Rattle.std.specs.Option.{option_to_list}
use Rattle.std.specs.List.{AllByRecursion}
use mathlib.Core.Logic.{dite}
use native.Mathlib.Decide.{ℕ_discrete}
use Rattle.std.proofs.lemmas.Bool.Decides.{nat_tests, leb_tells}
use Rattle.hv_trail.specs.declared.trail.TrailItem.{TrailItem}
use Rattle.hv_trail.specs.Own.{items_at}
use Rattle.hv_turn.specs.Counts.{total, same, times, within}
use Rattle.hv_turn.proofs.CountLemmas.{times-append, within_one_at_most, within_there}
use Rattle.hv_seated.specs.Shares.{IsShared, SharesDivide, SharesAreApart, SharesLieWithin, ItemsAreOfShares}

-- ---- sums

not-none : {A : Type 0} (x : A) → None ≡ Some x → ⊥
not-none x e = let never : None ≡ Some x = e in cc

some-same : {A : Type 0} (a b : A) → Some a ≡ Some b → a ≡ b
some-same a b e = let both : Some a ≡ Some b = e in cc

module _ {A : Type 0} (f : A → ℕ) where
  one-of : (l : List A) (i : ℕ) (a : A) → slice_get l i ≡ Some a → f a ≤ total f l
  one-of [] i a at = absurd (not-none a at)
  one-of (x ∷ xs) zero a at = let e = ap f (some-same x a at) in omega (arith, e)
  one-of (x ∷ xs) (suc i) a at = let h = one-of xs i a at in omega (arith, h)

  two-of : (l : List A) (i j : ℕ) (a b : A) → slice_get l i ≡ Some a → slice_get l j ≡ Some b → i ≢ j → f a + f b ≤ total f l
  two-of [] i j a b at bt apart = absurd (not-none a at)
  two-of (x ∷ xs) zero zero a b at bt apart = absurd (apart refl)
  two-of (x ∷ xs) zero (suc j) a b at bt apart =
      let e = ap f (some-same x a at) in
      let h = one-of xs j b bt in omega (arith, e, h)
  two-of (x ∷ xs) (suc i) zero a b at bt apart =
      let e = ap f (some-same x b bt) in
      let h = one-of xs i a at in omega (arith, e, h)
  two-of (x ∷ xs) (suc i) (suc j) a b at bt apart =
      let h = two-of xs i j a b at bt (λ e. apart (ap suc e)) in omega (arith, h)

-- ---- the laws

pub shares-divide : SharesDivide
shares-divide from trail one other shares shared = record {
  once = λ place.
      let both = times-append place one other in
      let is = shared.once place in
      omega (arith, both, is);
}

pub shares-apart : SharesAreApart
shares-apart from trail shares shared i j one other apart at bt place here there =
    let both = two-of (times place) shares i j one other at bt apart in
    let is = shared.once place in
    let most = within_one_at_most from (length trail) place in
    absurd (omega (arith, both, is, most, here, there))

lies-from : (low high n : ℕ) → 1 ≤ within low high n → low ≤ n
lies-from low high n one = grind (arith, nat_tests)

pub shares-within : SharesLieWithin
shares-within from trail shares shared i share at place here =
    let one = one-of (times place) shares i share at in
    let is = shared.once place in
    let counts : 1 ≤ within from (length trail) place = omega (arith, one, is, here) in
    (lies-from from (length trail) place counts, within_there from (length trail) place counts)

-- ---- items

in-trail : (trail : List TrailItem) (place : ℕ) (item : TrailItem) → slice_get trail place ≡ Some item → place < length trail
in-trail [] place item at = absurd (not-none item at)
in-trail (x ∷ xs) zero item at = omega arith
in-trail (x ∷ xs) (suc place) item at = let h = in-trail xs place item at in omega (arith, h)

within-counts : (low high n : ℕ) → low ≤ n → n < high → within low high n ≡ 1
within-counts low high n from below = grind (arith, nat_tests)

module _ (P : TrailItem → Type 0) (trail : List TrailItem) (place : ℕ) (item : TrailItem) (at : slice_get trail place ≡ Some item) where
  head-of : (o : Option TrailItem) (more : List TrailItem) → o ≡ Some item → AllByRecursion P (option_to_list o ++ more) → P item
  head-of None more e all = absurd (not-none item e)
  head-of (Some x) more e all = subst P (some-same x item e) all.0

  rest-of : (o : Option TrailItem) (more : List TrailItem) → AllByRecursion P (option_to_list o ++ more) → AllByRecursion P more
  rest-of None more all = all
  rest-of (Some x) more all = all.1

  -- an item at a place of the share is one of those for which it is so
  of-share : (share : List ℕ) → 1 ≤ times place share → AllByRecursion P (items_at share trail) → P item
  of-share [] here all = absurd (omega (arith, here))
  of-share (p ∷ ps) here all =
      dite (ℕ_discrete place p)
      (λ (is : place ≡ p).
      head-of (slice_get trail p) (items_at ps trail) (ap (λ (n : ℕ). slice_get trail n) (sym is) ∙ at) all)
      (λ (isnt : place ≢ p).
      let none : same place p ≡ 0 = grind (arith, nat_tests) in
      of-share ps (omega (arith, here, none)) (rest-of (slice_get trail p) (items_at ps trail) all))

  -- one of the shares has it
  of-shares : (shares : List (List ℕ)) → 1 ≤ total (times place) shares
      → AllByRecursion (λ (share : List ℕ). AllByRecursion P (items_at share trail)) shares → P item
  of-shares [] here all = absurd (omega (arith, here))
  of-shares (share ∷ shares) here all =
      ⊎_elim (λ (t : (nat_le 1 (times place share) ≡ true) × (1 ≤ times place share)). of-share share t.1 all.0)
      (λ (t : (nat_le 1 (times place share) ≡ false) × (times place share < 1)).
      let fewer = t.1 in of-shares shares (omega (arith, here, fewer)) all.1)
      (leb_tells 1 (times place share))

-- what is true of the items of each share is true of every item from the start on
pub items-of-shares : (P : TrailItem → Type 0) (from : ℕ) (trail : List TrailItem) (shares : List (List ℕ)) → IsShared from trail shares
    → AllByRecursion (λ (share : List ℕ). AllByRecursion P (items_at share trail)) shares
    → (place : ℕ) (item : TrailItem) → from ≤ place → slice_get trail place ≡ Some item → P item
items-of-shares P from trail shares shared all place item behind at =
    let once = shared.once place in
    let counts = within-counts from (length trail) place behind (in-trail trail place item at) in
    of-shares P trail place item at shares (omega (arith, once, counts)) all

pub items-are-of-shares : ItemsAreOfShares
items-are-of-shares from trail shares test shared all place item behind at =
    items-of-shares (λ (x : TrailItem). test x ≡ true) from trail shares shared all place item behind at
