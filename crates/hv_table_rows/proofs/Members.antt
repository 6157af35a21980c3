-- Members of lists, and that two lists that rise strictly with the same members are one.
use Rattle.std.proofs.Common.{◌≡◌, ◌||◌, ◌⊎◌, inl, inr, Bool, true, false, cond, List, [], ◌∷◌, ◌++◌, filter, map, refl, sym, ap, ◌∙◌, subst}
use Rattle.std.specs.declared.cmp.Ordering.{Ordering}
use Rattle.std.specs.declared.cmp.Ordering.TheVariants.{Less, Equal, Greater}
use Rattle.std.specs.Ordering.{is_eq, ordering_reverse}
use Rattle.std.specs.Cmp.{IsTotalOrder}
use Rattle.std.specs.List.{flat_map, list_any, AllByRecursion, Contains}
use Rattle.std.specs.List.Sorted.{IsStrictlySortedBy}
use Rattle.std.proofs.lemmas.List.Elements.{All-contains, All-from_recursion}
use Rattle.hv_law_visible.specs.Members.{IsIn}
use Rattle.hv_base.specs.Sorting.{placed_by, put_by, sorted_by}

module _ {X : Type 0} where
  abbrev pub In : X → List X → Type 0
  In x xs = IsIn x xs

  pub in-left : (x : X) (xs ys : List X) → In x xs → In x (xs ++ ys)
  in-left x [] ys h = absurd h
  in-left x (y ∷ xs) ys (inl e) = inl e
  in-left x (y ∷ xs) ys (inr h) = inr (in-left x xs ys h)

  pub in-right : (x : X) (xs ys : List X) → In x ys → In x (xs ++ ys)
  in-right x [] ys h = h
  in-right x (y ∷ xs) ys h = inr (in-right x xs ys h)

  pub in-parts : (x : X) (xs ys : List X) → In x (xs ++ ys) → In x xs ⊎ In x ys
  in-parts x [] ys h = inr h
  in-parts x (y ∷ xs) ys (inl e) = inl (inl e)
  in-parts x (y ∷ xs) ys (inr h) = by (in-parts x xs ys h)
    where
      by : In x xs ⊎ In x ys → In x (y ∷ xs) ⊎ In x ys
      by (inl a) = inl (inr a)
      by (inr b) = inr b

  pub all-in : (P : X → Type 0) (xs : List X) → AllByRecursion P xs → (x : X) → In x xs → P x
  all-in P [] h x is = absurd is
  all-in P (y ∷ xs) h x (inl e) = subst P e h.0
  all-in P (y ∷ xs) h x (inr is) = all-in P xs h.1 x is

  pub in-all : (P : X → Type 0) (xs : List X) → ((x : X) → In x xs → P x) → AllByRecursion P xs
  in-all P [] f = tt
  in-all P (y ∷ xs) f = (f y (inl refl), in-all P xs (λ x h. f x (inr h)))

  pub contained : (xs : List X) (x : X) → Contains xs x → In x xs
  contained xs x c = All-contains (λ y. In y xs) xs x (All-from_recursion (λ y. In y xs) xs (in-all (λ y. In y xs) xs (λ y h. h))) c

  pub in-kept : (p : X → Bool) (x : X) (xs : List X) → In x xs → p x ≡ true → In x (filter p xs)
  in-kept p x [] h e = absurd h
  in-kept p x (y ∷ xs) (inl same) e = subst (λ b. In x (cond b (y ∷ filter p xs) (filter p xs))) (sym (ap p same ∙ e)) (inl same)
  in-kept p x (y ∷ xs) (inr h) e = by (p y) (in-kept p x xs h e)
    where
      by : (b : Bool) → In x (filter p xs) → In x (cond b (y ∷ filter p xs) (filter p xs))
      by true rest = inr rest
      by false rest = rest

  pub kept-in : (p : X → Bool) (x : X) (xs : List X) → In x (filter p xs) → In x xs × (p x ≡ true)
  kept-in p x [] h = absurd h
  kept-in p x (y ∷ xs) h = by (p y) refl h (kept-in p x xs)
    where
      by : (b : Bool) → p y ≡ b → In x (cond b (y ∷ filter p xs) (filter p xs)) → (In x (filter p xs) → In x xs × (p x ≡ true)) → In x (y ∷ xs) × (p x ≡ true)
      by true e (inl same) rest = (inl same, ap p (sym same) ∙ e)
      by true e (inr h) rest = let both = rest h in (inr both.0, both.1)
      by false e h rest = let both = rest h in (inr both.0, both.1)

  pub any-in : (p : X → Bool) (xs : List X) → list_any p xs ≡ true → (x : X) × In x xs × (p x ≡ true)
  any-in p [] e = cc
  any-in p (y ∷ xs) e = by (p y) refl e (any-in p xs)
    where
      by : (b : Bool) → p y ≡ b → b || list_any p xs ≡ true → (list_any p xs ≡ true → (x : X) × In x xs × (p x ≡ true)) → (x : X) × In x (y ∷ xs) × (p x ≡ true)
      by true is e rest = (y, inl refl, is)
      by false is e rest = let found = rest e in (found.0, inr found.1, found.2)

  pub in-any : (p : X → Bool) (x : X) (xs : List X) → In x xs → p x ≡ true → list_any p xs ≡ true
  in-any p x [] h e = absurd h
  in-any p x (y ∷ xs) (inl same) e = ap (λ b. b || list_any p xs) (ap p same ∙ e)
  in-any p x (y ∷ xs) (inr h) e = ap (λ b. p y || b) (in-any p x xs h e) ∙ by (p y)
    where
      by : (b : Bool) → b || true ≡ true
      by true = refl
      by false = refl

  module _ (R : X → X → Ordering) where
    in-placed : (o : Ordering) (x y z : X) (ys put : List X) → (x ≡ z) ⊎ In z (y ∷ ys) → ((x ≡ z) ⊎ In z ys → In z put) → In z (placed_by R o x y ys put)
    in-placed Less x y z ys put h f = h
    in-placed Equal x y z ys put h f = h
    in-placed Greater x y z ys put (inl e) f = inr (f (inl e))
    in-placed Greater x y z ys put (inr (inl e)) f = inl e
    in-placed Greater x y z ys put (inr (inr h)) f = inr (f (inr h))

    in-put : (x z : X) (ys : List X) → (x ≡ z) ⊎ In z ys → In z (put_by R x ys)
    in-put x z [] h = h
    in-put x z (y ∷ ys) h = in-placed (R x y) x y z ys (put_by R x ys) h (in-put x z ys)

    pub in-sorted : (z : X) (xs : List X) → In z xs → In z (sorted_by R xs)
    in-sorted z [] h = h
    in-sorted z (x ∷ xs) (inl e) = in-put x z (sorted_by R xs) (inl e)
    in-sorted z (x ∷ xs) (inr h) = in-put x z (sorted_by R xs) (inr (in-sorted z xs h))

    placed-in : (o : Ordering) (x y z : X) (ys put : List X) → In z (placed_by R o x y ys put) → (In z put → (x ≡ z) ⊎ In z ys) → (x ≡ z) ⊎ In z (y ∷ ys)
    placed-in Less x y z ys put h f = h
    placed-in Equal x y z ys put h f = h
    placed-in Greater x y z ys put (inl e) f = inr (inl e)
    placed-in Greater x y z ys put (inr h) f = by (f h)
      where
        by : (x ≡ z) ⊎ In z ys → (x ≡ z) ⊎ In z (y ∷ ys)
        by (inl e) = inl e
        by (inr k) = inr (inr k)

    put-in : (x z : X) (ys : List X) → In z (put_by R x ys) → (x ≡ z) ⊎ In z ys
    put-in x z [] h = h
    put-in x z (y ∷ ys) h = placed-in (R x y) x y z ys (put_by R x ys) h (put-in x z ys)

    pub sorted-in : (z : X) (xs : List X) → In z (sorted_by R xs) → In z xs
    sorted-in z [] h = h
    sorted-in z (x ∷ xs) h = by (put-in x z (sorted_by R xs) h) (sorted-in z xs)
      where
        by : (x ≡ z) ⊎ In z (sorted_by R xs) → (In z (sorted_by R xs) → In z xs) → In z (x ∷ xs)
        by (inl e) f = inl e
        by (inr k) f = inr (f k)

    -- ---- two lists that rise strictly

    module _ (total : IsTotalOrder R) where
      not-self : (x : X) → R x x ≡ Less → ⊥
      not-self x e =
          let never : Less ≡ Greater = sym e ∙ total.antisymm x x ∙ ap ordering_reverse e in cc

      heads : (x y : X) (xs ys : List X) → AllByRecursion (λ z. R x z ≡ Less) xs → AllByRecursion (λ z. R y z ≡ Less) ys
          → (y ≡ x) ⊎ In x ys → (x ≡ y) ⊎ In y xs → x ≡ y
      heads x y xs ys a b (inl e) second = sym e
      heads x y xs ys a b (inr h) (inl e) = e
      heads x y xs ys a b (inr h) (inr k) =
          absurd (not-self x (total.trans x y x (all-in (λ z. R x z ≡ Less) xs a y k) (all-in (λ z. R y z ≡ Less) ys b x h)))

      tails : (x y z : X) (xs ys : List X) → AllByRecursion (λ w. R x w ≡ Less) xs → x ≡ y → In z xs → (y ≡ z) ⊎ In z ys → In z ys
      tails x y z xs ys a e h (inl same) =
          absurd (not-self x (subst (λ w. R x w ≡ Less) (sym same ∙ sym e) (all-in (λ w. R x w ≡ Less) xs a z h)))
      tails x y z xs ys a e h (inr k) = k

      pub same-rising : (xs ys : List X) → IsStrictlySortedBy R xs → IsStrictlySortedBy R ys → ((x : X) → In x xs → In x ys) → ((x : X) → In x ys → In x xs) → xs ≡ ys
      unfolding IsStrictlySortedBy
      same-rising [] [] a b f g = refl
      same-rising [] (y ∷ ys) a b f g = absurd (g y (inl refl))
      same-rising (x ∷ xs) [] a b f g = absurd (f x (inl refl))
      same-rising (x ∷ xs) (y ∷ ys) a b f g =
          let e : x ≡ y = heads x y xs ys a.0 b.0 (f x (inl refl)) (g y (inl refl)) in
          let rest : xs ≡ ys = same-rising xs ys a.1 b.1 (λ z h. tails x y z xs ys a.0 e h (f z (inr h))) (λ z h. tails y x z ys xs b.0 (sym e) h (g z (inr h))) in
          λ i. e i ∷ rest i

      -- what ties in a list that rises strictly is one item
      pub one-of-rising : (xs : List X) → IsStrictlySortedBy R xs → (x y : X) → In x xs → In y xs → is_eq (R x y) ≡ true → x ≡ y
      unfolding IsStrictlySortedBy
      one-of-rising [] up x y h g e = absurd h
      one-of-rising (z ∷ zs) up x y (inl p) (inl q) e = sym p ∙ q
      one-of-rising (z ∷ zs) up x y (inl p) (inr g) e =
          let less : R x y ≡ Less = ap (λ w. R w y) (sym p) ∙ all-in (λ w. R z w ≡ Less) zs up.0 y g in
          let never : true ≡ false = sym e ∙ ap is_eq less in cc
      one-of-rising (z ∷ zs) up x y (inr h) (inl q) e =
          let less : R y x ≡ Less = ap (λ w. R w x) (sym q) ∙ all-in (λ w. R z w ≡ Less) zs up.0 x h in
          let more : R x y ≡ Greater = total.antisymm x y ∙ ap ordering_reverse less in
          let never : true ≡ false = sym e ∙ ap is_eq more in cc
      one-of-rising (z ∷ zs) up x y (inr h) (inr g) e = one-of-rising zs up.1 x y h g e

module _ {A B : Type 0} where
  pub in-map : (f : A → B) (x : A) (xs : List A) → In x xs → In (f x) (map f xs)
  in-map f x [] h = absurd h
  in-map f x (y ∷ xs) (inl e) = inl (ap f e)
  in-map f x (y ∷ xs) (inr h) = inr (in-map f x xs h)

  pub map-in : (f : A → B) (z : B) (xs : List A) → In z (map f xs) → (x : A) × In x xs × (f x ≡ z)
  map-in f z [] h = absurd h
  map-in f z (y ∷ xs) (inl e) = (y, inl refl, e)
  map-in f z (y ∷ xs) (inr h) = let found = map-in f z xs h in (found.0, inr found.1, found.2)

  pub in-flat : (f : A → List B) (z : B) (x : A) (xs : List A) → In x xs → In z (f x) → In z (flat_map f xs)
  in-flat f z x [] h k = absurd h
  in-flat f z x (y ∷ xs) (inl e) k = in-left z (f y) (flat_map f xs) (subst (λ a. In z (f a)) (sym e) k)
  in-flat f z x (y ∷ xs) (inr h) k = in-right z (f y) (flat_map f xs) (in-flat f z x xs h k)

  pub flat-in : (f : A → List B) (z : B) (xs : List A) → In z (flat_map f xs) → (x : A) × In x xs × In z (f x)
  flat-in f z [] h = absurd h
  flat-in f z (y ∷ xs) h = by (in-parts z (f y) (flat_map f xs) h) (flat-in f z xs)
    where
      by : In z (f y) ⊎ In z (flat_map f xs) → (In z (flat_map f xs) → (x : A) × In x xs × In z (f x)) → (x : A) × In x (y ∷ xs) × In z (f x)
      by (inl k) rest = (y, inl refl, k)
      by (inr k) rest = let found = rest k in (found.0, inr found.1, found.2)
