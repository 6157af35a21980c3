-- Sums over lists, in both orders; and that a tree has each place once.
use Rattle.std.proofs.Common.{◌≡◌, ℕ, ◌+◌, ◌≤◌, ◌&&◌, inl, inr, Bool, true, false, cond, T, List, [], ◌∷◌, filter, take, drop, length, refl, sym, ap, ◌∙◌, arith}
use Rattle.std.specs.declared.cmp.Ordering.{Ordering}
use Rattle.std.specs.declared.cmp.Ordering.TheVariants.{Less, Equal, Greater}
use Rattle.std.specs.Ordering.{is_eq, is_lt, eq_by_cmp}
use Rattle.std.specs.FinMap as tree
use Rattle.std.specs.FinMap.Entries.{below_all}
use Rattle.std.proofs.lemmas.List.{take-append-drop}
use Rattle.hv_shelf.specs.declared.place.Place.{Place}
use Rattle.hv_shelf.specs.Places.{place_cmp, place_antisymmetric}
use Rattle.hv_shelf.specs.Disk.{Tree}
use Rattle.hv_law_visible.specs.Members.{IsIn}
use Rattle.hv_book.specs.Past.{total, only_if}
use Rattle.hv_law_dues.proofs.Totals.{total-append, total-map, total-none}

module _ {A : Type 0} where
  pub total-plus : (f g : A → ℕ) (xs : List A) → total (λ x. f x + g x) xs ≡ total f xs + total g xs
  total-plus f g [] = refl
  total-plus f g (x ∷ xs) = let rest = total-plus f g xs in omega (arith, rest)

  pub total-only : (b : Bool) (f : A → ℕ) (xs : List A) → only_if b (total f xs) ≡ total (λ x. only_if b (f x)) xs
  total-only true f xs = refl
  total-only false f xs = sym (total-none (λ (x : A). 0) (λ x. refl) xs)

  -- the same of each that is in the list
  pub total-among : (f g : A → ℕ) (xs : List A) → ((x : A) → IsIn x xs → f x ≡ g x) → total f xs ≡ total g xs
  total-among f g [] same = refl
  total-among f g (x ∷ xs) same = λ i. same x (inl refl) i + total-among f g xs (λ y h. same y (inr h)) i

  pub total-most : (f g : A → ℕ) (xs : List A) → ((x : A) → IsIn x xs → f x ≤ g x) → total f xs ≤ total g xs
  total-most f g [] most = omega arith
  total-most f g (x ∷ xs) most =
      let head = most x (inl refl) in
      let rest = total-most f g xs (λ y h. most y (inr h)) in
      omega (arith, head, rest)

  pub total-one : (f : A → ℕ) (x : A) (xs : List A) → IsIn x xs → f x ≤ total f xs
  total-one f x [] h = absurd h
  total-one f x (y ∷ xs) (inl e) = let same = ap f e in omega (arith, same)
  total-one f x (y ∷ xs) (inr h) = let rest = total-one f x xs h in omega (arith, rest)

  pub total-kept : (f : A → ℕ) (p : A → Bool) (xs : List A) → total f (filter p xs) ≤ total f xs
  total-kept f p [] = omega arith
  total-kept f p (x ∷ xs) = by (p x) (total-kept f p xs)
    where
      by : (b : Bool) → total f (filter p xs) ≤ total f xs → total f (cond b (x ∷ filter p xs) (filter p xs)) ≤ f x + total f xs
      by true rest = omega (arith, rest)
      by false rest = omega (arith, rest)

  pub total-parts : (f : A → ℕ) (n : ℕ) (xs : List A) → total f (take n xs) + total f (drop n xs) ≡ total f xs
  total-parts f n xs = sym (total-append f (take n xs) (drop n xs)) ∙ ap (total f) (take-append-drop n xs)

  -- how many are left
  pub kept-count : (p : A → Bool) (xs : List A) → length (filter p xs) ≡ total (λ x. only_if (p x) 1) xs
  kept-count p [] = refl
  kept-count p (x ∷ xs) = by (p x) (kept-count p xs)
    where
      by : (b : Bool) → length (filter p xs) ≡ total (λ y. only_if (p y) 1) xs
          → length (cond b (x ∷ filter p xs) (filter p xs)) ≡ only_if b 1 + total (λ y. only_if (p y) 1) xs
      by true rest = omega (arith, rest)
      by false rest = omega (arith, rest)

-- over both lists, in either order
pub total-turned : {A B : Type 0} (test : A → Bool) (f : A → B → ℕ) (xs : List A) (ys : List B)
    → total (λ x. only_if (test x) (total (f x) ys)) xs ≡ total (λ y. total (λ x. only_if (test x) (f x y)) xs) ys
total-turned {B = B} test f [] ys = sym (total-none (λ (y : B). 0) (λ y. refl) ys)
total-turned test f (x ∷ xs) ys =
    (λ i. total-only (test x) (f x) ys i + total-turned test f xs ys i)
    ∙ sym (total-plus (λ y. only_if (test x) (f x y)) (λ y. total (λ z. only_if (test z) (f z y)) xs) ys)

-- ---- a tree has each place once

abbrev Files : Type 0
Files = List (Place × List ℕ)

abbrev is_place : Place → Place → Bool
is_place place other = eq_by_cmp place_cmp place other

abbrev pub at_place : Place → Place → ℕ
at_place place other = only_if (is_place place other) 1

parts : (a b : Bool) → T (a && b) → T a × T b
parts true b h = (tt, h)
parts false b h = absurd h

less-apart : (o : Ordering) → T (is_lt o) → is_eq o ≡ false
less-apart Less h = refl
less-apart Equal h = absurd h
less-apart Greater h = absurd h

equal-is : (o : Ordering) → is_eq o ≡ true → o ≡ Equal
equal-is Less e = cc
equal-is Equal e = refl
equal-is Greater e = cc

none-below : (place : Place) (es : Files) → T (below_all place_cmp place es) → total (λ e. at_place place e.0) es ≡ 0
none-below place [] h = refl
none-below place (e ∷ es) h =
    let both = parts (is_lt (place_cmp place e.0)) (below_all place_cmp place es) h in
    (λ i. only_if (less-apart (place_cmp place e.0) both.0 i) 1 + none-below place es both.1 i)

one-entry : (place : Place) (es : Files) → T (tree.is_sorted place_cmp es) → total (λ e. at_place place e.0) es ≤ 1
one-entry place [] h = omega arith
one-entry place (e ∷ es) h = by (is_place place e.0) refl (one-entry place es both.1)
  where
    both : T (below_all place_cmp e.0 es) × T (tree.is_sorted place_cmp es)
    both = parts (below_all place_cmp e.0 es) (tree.is_sorted place_cmp es) h

    by : (b : Bool) → is_place place e.0 ≡ b → total (λ f. at_place place f.0) es ≤ 1 → only_if b 1 + total (λ f. at_place place f.0) es ≤ 1
    by true is rest =
        let same : place ≡ e.0 = place_antisymmetric place e.0 (equal-is (place_cmp place e.0) is) in
        let none = ap (λ p. total (λ f. at_place p f.0) es) same ∙ none-below e.0 es both.0 in
        omega (arith, none)
    by false is rest = omega (arith, rest)

pub one-key : (place : Place) (files : Tree) → total (at_place place) (tree.keys files) ≤ 1
one-key place files =
    let one = one-entry place (tree.entries files) (tree.entries_sorted files) in
    let same = total-map (at_place place) (λ (e : Place × List ℕ). e.0) (tree.entries files) in
    omega (arith, one, same)
