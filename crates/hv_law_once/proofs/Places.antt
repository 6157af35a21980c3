-- Two places of a share whose items pass a test count twice.
use Rattle.std.proofs.Common.{◌≡◌, ◌≢◌, ℕ, zero, suc, ◌+◌, ◌≤◌, ◌<◌, Bool, true, Option, Some, None, List, [], ◌∷◌, ◌++◌, length, refl, sym, ap, ◌∙◌, append_assoc, arith}
use Rattle.std.specs.Prelude.{slice_get}
use Rattle.std.specs.Option.{option_to_list}
use mathlib.Core.Logic.{dite}
use native.Mathlib.Decide.{ℕ_discrete}
use Rattle.std.proofs.lemmas.Bool.Decides.{nat_tests}
use Rattle.hv_trail.specs.declared.trail.TrailItem.{TrailItem}
use Rattle.hv_trail.specs.Own.{items_at}
use Rattle.hv_turn.specs.Counts.{total, same, times, within}
use Rattle.hv_seated.specs.Shares.{IsShared}
use Rattle.hv_law_once.specs.Once.{one_if, passing, ItemsGoTogether, ItemsStandOnce}

not-none : {A : Type 0} (x : A) → None ≡ Some x → ⊥
not-none x e = let never : None ≡ Some x = e in cc

some-same : {A : Type 0} (a b : A) → Some a ≡ Some b → a ≡ b
some-same a b e = let both : Some a ≡ Some b = e in cc

pub items-together : ItemsGoTogether
items-together trail [] other = refl
items-together trail (place ∷ one) other =
    ap (λ (rest : List TrailItem). option_to_list (slice_get trail place) ++ rest) (items-together trail one other)
    ∙ sym (append_assoc (option_to_list (slice_get trail place)) (items_at one trail) (items_at other trail))

module _ (test : TrailItem → Bool) (trail : List TrailItem) where
  -- one item more counts no less
  head-more : (o : Option TrailItem) (more : List TrailItem) → passing test more ≤ passing test (option_to_list o ++ more)
  head-more None more = omega arith
  head-more (Some x) more = omega arith

  -- and one that passes counts one
  head-one : (o : Option TrailItem) (more : List TrailItem) (x : TrailItem) → o ≡ Some x → test x ≡ true
      → 1 + passing test more ≤ passing test (option_to_list o ++ more)
  head-one None more x e is = absurd (not-none x e)
  head-one (Some y) more x e is =
      let one : one_if (test y) ≡ 1 = ap (λ (z : TrailItem). one_if (test z)) (some-same y x e) ∙ ap one_if is in omega (arith, one)

  one-at : (share : List ℕ) (place : ℕ) (x : TrailItem) → 1 ≤ times place share → slice_get trail place ≡ Some x → test x ≡ true
      → 1 ≤ passing test (items_at share trail)
  one-at [] place x here at is = absurd (omega (arith, here))
  one-at (p ∷ ps) place x here at is =
      dite (ℕ_discrete place p)
      (λ (e : place ≡ p).
      let h = head-one (slice_get trail p) (items_at ps trail) x (ap (λ (n : ℕ). slice_get trail n) (sym e) ∙ at) is in omega (arith, h))
      (λ (isnt : place ≢ p).
      let none : same place p ≡ 0 = grind (arith, nat_tests) in
      let h = one-at ps place x (omega (arith, here, none)) at is in
      let m = head-more (slice_get trail p) (items_at ps trail) in omega (arith, h, m))

  two-at : (share : List ℕ) (place there : ℕ) (x y : TrailItem) → place ≢ there → 1 ≤ times place share → 1 ≤ times there share
      → slice_get trail place ≡ Some x → slice_get trail there ≡ Some y → test x ≡ true → test y ≡ true
      → 2 ≤ passing test (items_at share trail)
  two-at [] place there x y apart here too at bt is so = absurd (omega (arith, here))
  two-at (p ∷ ps) place there x y apart here too at bt is so =
      dite (ℕ_discrete place p)
      (λ (e : place ≡ p).
      let isnt : there ≢ p = λ f. apart (e ∙ sym f) in
      let none : same there p ≡ 0 = grind (arith, nat_tests) in
      let h = head-one (slice_get trail p) (items_at ps trail) x (ap (λ (n : ℕ). slice_get trail n) (sym e) ∙ at) is in
      let k = one-at ps there y (omega (arith, too, none)) bt so in omega (arith, h, k))
      (λ (isnt : place ≢ p).
      let none : same place p ≡ 0 = grind (arith, nat_tests) in
      dite (ℕ_discrete there p)
      (λ (f : there ≡ p).
      let h = head-one (slice_get trail p) (items_at ps trail) y (ap (λ (n : ℕ). slice_get trail n) (sym f) ∙ bt) so in
      let k = one-at ps place x (omega (arith, here, none)) at is in omega (arith, h, k))
      (λ (arent : there ≢ p).
      let nor : same there p ≡ 0 = grind (arith, nat_tests) in
      let h = two-at ps place there x y apart (omega (arith, here, none)) (omega (arith, too, nor)) at bt is so in
      let m = head-more (slice_get trail p) (items_at ps trail) in omega (arith, h, m)))

in-trail : (trail : List TrailItem) (place : ℕ) (item : TrailItem) → slice_get trail place ≡ Some item → place < length trail
in-trail [] place item at = absurd (not-none item at)
in-trail (x ∷ xs) zero item at = omega arith
in-trail (x ∷ xs) (suc place) item at = let h = in-trail xs place item at in omega (arith, h)

within-counts : (low high n : ℕ) → low ≤ n → n < high → within low high n ≡ 1
within-counts low high n from below = grind (arith, nat_tests)

-- a place from there on is of the only share
of-it : (from : ℕ) (trail : List TrailItem) (share : List ℕ) → IsShared from trail (share ∷ [])
    → (place : ℕ) (item : TrailItem) → from ≤ place → slice_get trail place ≡ Some item → 1 ≤ times place share
of-it from trail share shared place item behind at =
    let once = shared.once place in
    let counts = within-counts from (length trail) place behind (in-trail trail place item at) in omega (arith, once, counts)

pub items-once : ItemsStandOnce
items-once from trail share test shared few place there item other behind too at bt is so =
    dite (ℕ_discrete place there) (λ (e : place ≡ there). e)
    (λ (apart : place ≢ there).
    let here = of-it from trail share shared place item behind at in
    let there_too = of-it from trail share shared there other too bt in
    let two = two-at test trail share place there item other apart here there_too at bt is so in absurd (omega (arith, two, few)))
