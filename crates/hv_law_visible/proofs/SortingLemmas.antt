-- Rising lists with the same members are one list.
use Rattle.std.proofs.Common.{refl, ◌≡◌, ◌≢◌, ◌⊎◌, inl, inr, Bool, true, false, cond, List, [], ◌∷◌, ◌++◌, filter, sym, ap, ◌∙◌, subst}
use Rattle.std.specs.declared.cmp.Ordering.{Ordering}
use Rattle.std.specs.declared.cmp.Ordering.TheVariants.{Less, Equal, Greater}
use Rattle.std.specs.Ordering.{ordering_reverse}
use Rattle.std.specs.Cmp.{IsTotalOrder}
use Rattle.std.specs.List.{flat_map, AllByRecursion}
use Rattle.hv_law_visible.specs.Members.{HasNoTies, IsIn}
use Rattle.hv_base.specs.Sorting.{placed_by, put_by, sorted_by, merged_by, merge_by, rising_by}
use Rattle.hv_law_visible.proofs.MemberLemmas.{in-left, in-right, in-either, in-flat, from-flat}
use Rattle.hv_law_visible.proofs.TakenLemmas.{all-in}

pub all-from : {A : Type 0} (P : A → Type 0) (xs : List A) → ((x : A) → IsIn x xs → P x) → AllByRecursion P xs
all-from P [] h = tt
all-from P (x ∷ xs) h = (h x (inl refl), all-from P xs (λ y at. h y (inr at)))

less-greater : Less ≡ Greater → ⊥
less-greater e = cc

module _ {X : Type 0} (cmp : X → X → Ordering) where
  abbrev pub Below : X → List X → Type 0
  Below x ys = AllByRecursion (λ y. cmp x y ≡ Less) ys

  abbrev pub Rises : List X → Type 0
  Rises [] = Unit {0}
  Rises (x ∷ xs) = Below x xs × Rises xs

  -- items that tie are one
  abbrev pub Keyed : List X → Type 0
  Keyed xs = (x y : X) → IsIn x xs → IsIn y xs → cmp x y ≡ Equal → x ≡ y

  -- ---- the same members

  in-put-by : (o : Ordering) (z x y : X) (ys put : List X) → (IsIn z put → (z ≡ x) ⊎ IsIn z ys) → IsIn z (placed_by cmp o x y ys put)
      → (z ≡ x) ⊎ IsIn z (y ∷ ys)
  in-put-by Less z x y ys put h (inl e) = inl (sym e)
  in-put-by Less z x y ys put h (inr at) = inr at
  in-put-by Equal z x y ys put h (inl e) = inl (sym e)
  in-put-by Equal z x y ys put h (inr at) = inr at
  in-put-by Greater z x y ys put h (inl e) = inr (inl e)
  in-put-by Greater z x y ys put h (inr at) = elim (h at) [ inl e ↦ inl e | inr there ↦ inr (inr there) ]

  pub from-put : (z x : X) (ys : List X) → IsIn z (put_by cmp x ys) → (z ≡ x) ⊎ IsIn z ys
  from-put z x [] (inl e) = inl (sym e)
  from-put z x [] (inr at) = absurd at
  from-put z x (y ∷ ys) at = in-put-by (cmp x y) z x y ys (put_by cmp x ys) (from-put z x ys) at

  to-put-by : (o : Ordering) (z x y : X) (ys put : List X) → ((z ≡ x) ⊎ IsIn z ys → IsIn z put) → (z ≡ x) ⊎ IsIn z (y ∷ ys)
      → IsIn z (placed_by cmp o x y ys put)
  to-put-by Less z x y ys put h (inl e) = inl (sym e)
  to-put-by Less z x y ys put h (inr at) = inr at
  to-put-by Equal z x y ys put h (inl e) = inl (sym e)
  to-put-by Equal z x y ys put h (inr at) = inr at
  to-put-by Greater z x y ys put h (inl e) = inr (h (inl e))
  to-put-by Greater z x y ys put h (inr (inl e)) = inl e
  to-put-by Greater z x y ys put h (inr (inr at)) = inr (h (inr at))

  pub to-put : (z x : X) (ys : List X) → (z ≡ x) ⊎ IsIn z ys → IsIn z (put_by cmp x ys)
  to-put z x [] (inl e) = inl (sym e)
  to-put z x [] (inr at) = absurd at
  to-put z x (y ∷ ys) at = to-put-by (cmp x y) z x y ys (put_by cmp x ys) (to-put z x ys) at

  pub from-sorted : (z : X) (xs : List X) → IsIn z (sorted_by cmp xs) → IsIn z xs
  from-sorted z [] at = at
  from-sorted z (x ∷ xs) at = elim (from-put z x (sorted_by cmp xs) at) [ inl e ↦ inl (sym e) | inr there ↦ inr (from-sorted z xs there) ]

  pub to-sorted : (z : X) (xs : List X) → IsIn z xs → IsIn z (sorted_by cmp xs)
  to-sorted z [] at = at
  to-sorted z (x ∷ xs) (inl e) = to-put z x (sorted_by cmp xs) (inl (sym e))
  to-sorted z (x ∷ xs) (inr at) = to-put z x (sorted_by cmp xs) (inr (to-sorted z xs at))

  from-merge-by : (o : Ordering) (z x y : X) (ys put : List X) → (IsIn z put → (z ≡ x) ⊎ IsIn z ys) → IsIn z (merged_by cmp o x y ys put)
      → (z ≡ x) ⊎ IsIn z (y ∷ ys)
  from-merge-by Less z x y ys put h (inl e) = inl (sym e)
  from-merge-by Less z x y ys put h (inr at) = inr at
  from-merge-by Equal z x y ys put h at = inr at
  from-merge-by Greater z x y ys put h (inl e) = inr (inl e)
  from-merge-by Greater z x y ys put h (inr at) = elim (h at) [ inl e ↦ inl e | inr there ↦ inr (inr there) ]

  from-merge : (z x : X) (ys : List X) → IsIn z (merge_by cmp x ys) → (z ≡ x) ⊎ IsIn z ys
  from-merge z x [] (inl e) = inl (sym e)
  from-merge z x [] (inr at) = absurd at
  from-merge z x (y ∷ ys) at = from-merge-by (cmp x y) z x y ys (merge_by cmp x ys) (from-merge z x ys) at

  pub from-rising : (z : X) (xs : List X) → IsIn z (rising_by cmp xs) → IsIn z xs
  from-rising z [] at = at
  from-rising z (x ∷ xs) at = elim (from-merge z x (rising_by cmp xs) at) [ inl e ↦ inl (sym e) | inr there ↦ inr (from-rising z xs there) ]

  to-merge-by : (o : Ordering) (z x y : X) (ys put : List X) → cmp x y ≡ o → (cmp x y ≡ Equal → x ≡ y) → ((z ≡ x) ⊎ IsIn z ys → IsIn z put)
      → (z ≡ x) ⊎ IsIn z (y ∷ ys) → IsIn z (merged_by cmp o x y ys put)
  to-merge-by Less z x y ys put is tie h (inl e) = inl (sym e)
  to-merge-by Less z x y ys put is tie h (inr at) = inr at
  to-merge-by Equal z x y ys put is tie h (inl e) = inl (sym (e ∙ tie is))
  to-merge-by Equal z x y ys put is tie h (inr at) = at
  to-merge-by Greater z x y ys put is tie h (inl e) = inr (h (inl e))
  to-merge-by Greater z x y ys put is tie h (inr (inl e)) = inl e
  to-merge-by Greater z x y ys put is tie h (inr (inr at)) = inr (h (inr at))

  to-merge : (z x : X) (ys : List X) → ((y : X) → IsIn y ys → cmp x y ≡ Equal → x ≡ y) → (z ≡ x) ⊎ IsIn z ys → IsIn z (merge_by cmp x ys)
  to-merge z x [] tie (inl e) = inl (sym e)
  to-merge z x [] tie (inr at) = absurd at
  to-merge z x (y ∷ ys) tie at =
      to-merge-by (cmp x y) z x y ys (merge_by cmp x ys) refl (tie y (inl refl)) (to-merge z x ys (λ w there. tie w (inr there))) at

  pub to-rising : (z : X) (xs : List X) → Keyed xs → IsIn z xs → IsIn z (rising_by cmp xs)
  to-rising z [] keyed at = at
  to-rising z (x ∷ xs) keyed at =
      to-merge z x (rising_by cmp xs) (λ y there e. keyed x y (inl refl) (inr (from-rising y xs there)) e)
      (elim at [ inl e ↦ inl (sym e) | inr there ↦ inr (to-rising z xs (λ a b p q e. keyed a b (inr p) (inr q) e) there) ])

  -- ---- both rise

  module _ (total : IsTotalOrder cmp) where
    turned : (x y : X) (o : Ordering) → cmp x y ≡ o → cmp y x ≡ ordering_reverse o
    turned x y o e = total.antisymm y x ∙ ap ordering_reverse e

    below-all : (x y : X) (ys : List X) → cmp x y ≡ Less → Below y ys → Below x ys
    below-all x y ys e below = all-from (λ z. cmp x z ≡ Less) ys (λ z at. total.trans x y z e (all-in (λ w. cmp y w ≡ Less) ys z below at))

    below-by : (x y : X) (zs put : List X) → ((z : X) → IsIn z put → (z ≡ x) ⊎ IsIn z zs) → cmp y x ≡ Less → Below y zs → Below y put
    below-by x y zs put members e below =
        all-from (λ z. cmp y z ≡ Less) put (λ z at. elim (members z at) [
          | inl is ↦ ap (cmp y) is ∙ e
          | inr there ↦ all-in (λ w. cmp y w ≡ Less) zs z below there
        ])

    rises-put-by : (o : Ordering) (x y : X) (ys : List X) → cmp x y ≡ o → (o ≡ Equal → ⊥) → Rises (y ∷ ys) → Rises (put_by cmp x ys)
        → Rises (placed_by cmp o x y ys (put_by cmp x ys))
    rises-put-by Less x y ys e other up h = ((e, below-all x y ys e up.0), up)
    rises-put-by Equal x y ys e other up h = absurd (other refl)
    rises-put-by Greater x y ys e other up h = (below-by x y ys (put_by cmp x ys) (λ z. from-put z x ys) (turned x y Greater e) up.0, h)

    rises-put : (x : X) (ys : List X) → AllByRecursion (λ y. cmp x y ≢ Equal) ys → Rises ys → Rises (put_by cmp x ys)
    rises-put x [] other up = (tt, tt)
    rises-put x (y ∷ ys) other up = rises-put-by (cmp x y) x y ys refl other.0 up (rises-put x ys other.1 up.1)

    pub rises-sorted : (xs : List X) → HasNoTies cmp xs → Rises (sorted_by cmp xs)
    rises-sorted [] distinct = tt
    rises-sorted (x ∷ xs) distinct =
        rises-put x (sorted_by cmp xs)
        (all-from (λ y. cmp x y ≢ Equal) (sorted_by cmp xs) (λ y at. all-in (λ w. cmp x w ≢ Equal) xs y distinct.0 (from-sorted y xs at)))
        (rises-sorted xs distinct.1)

    rises-merge-by : (o : Ordering) (x y : X) (ys : List X) → cmp x y ≡ o → Rises (y ∷ ys) → Rises (merge_by cmp x ys)
        → Rises (merged_by cmp o x y ys (merge_by cmp x ys))
    rises-merge-by Less x y ys e up h = ((e, below-all x y ys e up.0), up)
    rises-merge-by Equal x y ys e up h = up
    rises-merge-by Greater x y ys e up h = (below-by x y ys (merge_by cmp x ys) (λ z. from-merge z x ys) (turned x y Greater e) up.0, h)

    rises-merge : (x : X) (ys : List X) → Rises ys → Rises (merge_by cmp x ys)
    rises-merge x [] up = (tt, tt)
    rises-merge x (y ∷ ys) up = rises-merge-by (cmp x y) x y ys refl up (rises-merge x ys up.1)

    pub rises-rising : (xs : List X) → Rises (rising_by cmp xs)
    rises-rising [] = tt
    rises-rising (x ∷ xs) = rises-merge x (rising_by cmp xs) (rises-rising xs)

    -- ---- one list

    itself : (x : X) → cmp x x ≡ Less → ⊥
    itself x e = less-greater (sym e ∙ turned x x Less e)

    first-same : (x y : X) (xs ys : List X) → Below x xs → Below y ys → (y ≡ x) ⊎ IsIn x ys → (x ≡ y) ⊎ IsIn y xs → x ≡ y
    first-same x y xs ys a b (inl e) q = sym e
    first-same x y xs ys a b (inr p) (inl e) = e
    first-same x y xs ys a b (inr p) (inr q) =
        let s : cmp y x ≡ Less = all-in (λ w. cmp y w ≡ Less) ys x b p in
        let t : cmp x y ≡ Less = all-in (λ w. cmp x w ≡ Less) xs y a q in
        absurd (less-greater (sym s ∙ turned x y Less t))

    behind : (x y z : X) (xs ys : List X) → x ≡ y → Below x xs → IsIn z xs → (y ≡ z) ⊎ IsIn z ys → IsIn z ys
    behind x y z xs ys e below at (inr there) = there
    behind x y z xs ys e below at (inl f) =
        absurd (itself x (ap (cmp x) (e ∙ f) ∙ all-in (λ w. cmp x w ≡ Less) xs z below at))

    pub one-list : (xs ys : List X) → Rises xs → Rises ys → ((z : X) → IsIn z xs → IsIn z ys) → ((z : X) → IsIn z ys → IsIn z xs) → xs ≡ ys
    one-list [] [] a b f g = refl
    one-list [] (y ∷ ys) a b f g = absurd (g y (inl refl))
    one-list (x ∷ xs) [] a b f g = absurd (f x (inl refl))
    one-list (x ∷ xs) (y ∷ ys) a b f g =
        let e : x ≡ y = first-same x y xs ys a.0 b.0 (f x (inl refl)) (g y (inl refl)) in
        let rest : xs ≡ ys = one-list xs ys a.1 b.1
        (λ z at. behind x y z xs ys e a.0 at (f z (inr at)))
        (λ z at. behind y x z ys xs (sym e) b.0 at (g z (inr at))) in
        λ i. e i ∷ rest i

  -- ---- no two tie

  pub distinct-left : (xs ys : List X) → HasNoTies cmp (xs ++ ys) → HasNoTies cmp xs
  distinct-left [] ys h = tt
  distinct-left (x ∷ xs) ys h =
      (all-from (λ y. cmp x y ≢ Equal) xs (λ y at. all-in (λ w. cmp x w ≢ Equal) (xs ++ ys) y h.0 (in-left y xs ys at)), distinct-left xs ys h.1)

  pub distinct-right : (xs ys : List X) → HasNoTies cmp (xs ++ ys) → HasNoTies cmp ys
  distinct-right [] ys h = h
  distinct-right (x ∷ xs) ys h = distinct-right xs ys h.1

  distinct-apart : (xs ys : List X) → HasNoTies cmp (xs ++ ys) → (x y : X) → IsIn x xs → IsIn y ys → cmp x y ≢ Equal
  distinct-apart [] ys h x y at there = absurd at
  distinct-apart (z ∷ xs) ys h x y (inl e) there = subst (λ w. cmp w y ≢ Equal) e (all-in (λ w. cmp z w ≢ Equal) (xs ++ ys) y h.0 (in-right y xs ys there))
  distinct-apart (z ∷ xs) ys h x y (inr at) there = distinct-apart xs ys h.1 x y at there

  pub distinct-joined : (xs ys : List X) → HasNoTies cmp xs → HasNoTies cmp ys → ((x y : X) → IsIn x xs → IsIn y ys → cmp x y ≢ Equal) → HasNoTies cmp (xs ++ ys)
  distinct-joined [] ys a b h = b
  distinct-joined (x ∷ xs) ys a b h = (
    all-from (λ y. cmp x y ≢ Equal) (xs ++ ys) (λ y at. elim (in-either y xs ys at) [
      | inl here ↦ all-in (λ w. cmp x w ≢ Equal) xs y a.0 here
      | inr there ↦ h x y (inl refl) there
    ]),
    distinct-joined xs ys a.1 b (λ u v p q. h u v (inr p) q),
  )

  distinct-kept : (b : Bool) (x : X) (xs kept : List X) → AllByRecursion (λ y. cmp x y ≢ Equal) xs → ((y : X) → IsIn y kept → IsIn y xs) → HasNoTies cmp kept
      → HasNoTies cmp (cond b (x ∷ kept) kept)
  distinct-kept true x xs kept a h d = (all-from (λ y. cmp x y ≢ Equal) kept (λ y at. all-in (λ w. cmp x w ≢ Equal) xs y a (h y at)), d)
  distinct-kept false x xs kept a h d = d

  pub distinct-filter : (p : X → Bool) (xs : List X) → HasNoTies cmp xs → HasNoTies cmp (filter p xs)
  distinct-filter p [] d = tt
  distinct-filter p (x ∷ xs) d =
      distinct-kept (p x) x xs (filter p xs) d.0 (λ y at. (Rattle.hv_law_visible.proofs.MemberLemmas.from-filter p y xs at).0) (distinct-filter p xs d.1)

  distinct-flat-kept : {W : Type 0} (f : W → List X) (b : Bool) (w : W) (ws kept : List W) → HasNoTies cmp (f w ++ flat_map f ws)
      → ((v : W) → IsIn v kept → IsIn v ws) → HasNoTies cmp (flat_map f kept) → HasNoTies cmp (flat_map f (cond b (w ∷ kept) kept))
  distinct-flat-kept f false w ws kept d h k = k
  distinct-flat-kept f true w ws kept d h k =
      distinct-joined (f w) (flat_map f kept) (distinct-left (f w) (flat_map f ws) d) k
      (λ x y p q. let s = from-flat f y kept q in distinct-apart (f w) (flat_map f ws) d x y p (in-flat f s.0 y ws (h s.0 s.1) s.2))

  pub distinct-flat : {W : Type 0} (f : W → List X) (p : W → Bool) (ws : List W) → HasNoTies cmp (flat_map f ws) → HasNoTies cmp (flat_map f (filter p ws))
  distinct-flat f p [] d = tt
  distinct-flat f p (w ∷ ws) d =
      distinct-flat-kept f (p w) w ws (filter p ws) d (λ v at. (Rattle.hv_law_visible.proofs.MemberLemmas.from-filter p v ws at).0)
      (distinct-flat f p ws (distinct-right (f w) (flat_map f ws) d))

  -- items without ties are told apart by their keys
  pub keyed-distinct : (xs : List X) → IsTotalOrder cmp → HasNoTies cmp xs → Keyed xs
  keyed-distinct [] total d x y p q e = absurd p
  keyed-distinct (z ∷ xs) total d x y (inl p) (inl q) e = sym p ∙ q
  keyed-distinct (z ∷ xs) total d x y (inl p) (inr q) e = absurd (all-in (λ w. cmp z w ≢ Equal) xs y d.0 q (ap (λ w. cmp w y) p ∙ e))
  keyed-distinct (z ∷ xs) total d x y (inr p) (inl q) e =
      absurd (all-in (λ w. cmp z w ≢ Equal) xs x d.0 p (ap (λ w. cmp w x) q ∙ total.antisymm y x ∙ ap ordering_reverse e))
  keyed-distinct (z ∷ xs) total d x y (inr p) (inr q) e = keyed-distinct xs total d.1 x y p q e
