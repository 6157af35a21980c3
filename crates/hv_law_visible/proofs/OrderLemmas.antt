-- Names sorted by the order of choice stand in it.
use Rattle.std.proofs.Common.{refl, ◌≡◌, inl, inr, ℕ, ◌<◌, ◌≤◌, true, List, [], ◌∷◌, sym, ap, ◌∙◌, subst, arith, true≢false}
use Rattle.std.specs.declared.cmp.Ordering.{Ordering}
use Rattle.std.specs.declared.cmp.Ordering.TheVariants.{Less, Equal, Greater}
use Rattle.std.specs.Ordering.{MatchOrdering, nat_cmp, ordering_then, ordering_reverse}
use Rattle.std.specs.Cmp.{IsTotalOrder}
use Rattle.std.proofs.lemmas.Cmp.{ranked}
use Rattle.std.specs.List.{AllByRecursion}
use Rattle.hv_base.specs.Sorting.{placed_by, put_by, sorted_by}
use Rattle.hv_dirs.specs.Choice.{Delta, Own, Wide, low_of, high_of, is_own, rank_of, statement_of, delta_cmp}
use Rattle.hv_dirs.proofs.ChoiceLemmas.{delta_total}
use Rattle.hv_law_visible.proofs.TakenLemmas.{Precedes, Ordered, all-in}
use Rattle.hv_law_visible.proofs.SortingLemmas.{all-from, from-put}

module _ {X : Type 0} (cmp : X → X → Ordering) (total : IsTotalOrder cmp) where
  unfoldable pub NotOver : X → X → Type 0
  NotOver x y = cmp x y ≡ Greater → ⊥

  unfoldable pub Pairs : List X → Type 0
  Pairs [] = Unit {0}
  Pairs (x ∷ xs) = AllByRecursion (NotOver x) xs × Pairs xs

  turn : (x y : X) (o : Ordering) → cmp x y ≡ o → cmp y x ≡ ordering_reverse o
  turn x y o e = total.antisymm y x ∙ ap ordering_reverse e

  over-by : (x y z : X) (o p : Ordering) → cmp x y ≡ o → cmp y z ≡ p → NotOver x y → NotOver y z → NotOver x z
  unfolding NotOver
  over-by x y z Greater p e f a b over = a e
  over-by x y z Equal p e f a b over = b (sym (total.congr x y z e) ∙ over)
  over-by x y z Less Greater e f a b over = b f
  over-by x y z Less Less e f a b over = let g : Less ≡ Greater = sym (total.trans x y z e f) ∙ over in cc
  over-by x y z Less Equal e f a b over =
      let back : cmp z x ≡ cmp y x = total.congr z y x (turn y z Equal f) in
      let g : Less ≡ Greater = sym e ∙ total.antisymm x y ∙ ap ordering_reverse (sym back) ∙ sym (total.antisymm x z) ∙ over in
      cc

  over-trans : (x y z : X) → NotOver x y → NotOver y z → NotOver x z
  over-trans x y z = over-by x y z (cmp x y) (cmp y z) refl refl

  pub less-not : (x y : X) → cmp x y ≡ Less → NotOver x y
  unfolding NotOver
  less-not x y e over = let g : Less ≡ Greater = sym e ∙ over in cc

  pub equal-not : (x y : X) → cmp x y ≡ Equal → NotOver x y
  unfolding NotOver
  equal-not x y e over = let g : Equal ≡ Greater = sym e ∙ over in cc

  pub over-all : (x y : X) (ys : List X) → NotOver x y → Pairs (y ∷ ys) → AllByRecursion (NotOver x) (y ∷ ys)
  unfolding Pairs
  over-all x y ys a up = (a, all-from (NotOver x) ys (λ z at. over-trans x y z a (all-in (NotOver y) ys z up.0 at)))

  pairs-put-by : (o : Ordering) (x y : X) (ys : List X) → cmp x y ≡ o → Pairs (y ∷ ys) → Pairs (put_by cmp x ys) → Pairs (placed_by cmp o x y ys (put_by cmp x ys))
  unfolding Pairs
  pairs-put-by Less x y ys e up h = (over-all x y ys (less-not x y e) up, up)
  pairs-put-by Equal x y ys e up h = (over-all x y ys (equal-not x y e) up, up)
  pairs-put-by Greater x y ys e up h = (
    all-from (NotOver y) (put_by cmp x ys) (λ z at. elim (from-put cmp z x ys at) [
      | inl is ↦ subst (NotOver y) (sym is) (less-not y x (turn x y Greater e))
      | inr there ↦ all-in (NotOver y) ys z up.0 there
    ]),
    h,
  )

  pairs-put : (x : X) (ys : List X) → Pairs ys → Pairs (put_by cmp x ys)
  unfolding Pairs
  pairs-put x [] up = (tt, tt)
  pairs-put x (y ∷ ys) up = pairs-put-by (cmp x y) x y ys refl up (pairs-put x ys up.1)

  pub pairs-sorted : (xs : List X) → Pairs (sorted_by cmp xs)
  unfolding Pairs
  pairs-sorted [] = tt
  pairs-sorted (x ∷ xs) = pairs-put x (sorted_by cmp xs) (pairs-sorted xs)

below-by : (a b : ℕ) (rest o : Ordering) → MatchOrdering o (a < b) (a ≡ b) (b < a) → (ordering_then o rest ≡ Greater → ⊥)
    → (a ≤ b) × (a ≡ b → rest ≡ Greater → ⊥)
below-by a b rest Less m h = (omega arith, λ e. let l : a < b = m in absurd (omega arith))
below-by a b rest Equal m h = (omega arith, λ e. h)
below-by a b rest Greater m h = absurd (h refl)

below : (a b : ℕ) (rest : Ordering) → (ordering_then (nat_cmp a b) rest ≡ Greater → ⊥) → (a ≤ b) × (a ≡ b → rest ≡ Greater → ⊥)
below a b rest = below-by a b rest (nat_cmp a b) (ranked a b (nat_cmp a b) refl)

own-rank : (c d : Delta) → rank_of c ≤ rank_of d → is_own c ≡ true → is_own d ≡ true
own-rank (Own a b) (Own e f) under is = refl
own-rank (Own a b) (Wide e f) under is = absurd (omega arith)
own-rank (Wide a b) d under is = absurd (true≢false (sym is))

precedes : (c d : Delta) → (delta_cmp c d ≡ Greater → ⊥) → Precedes c d
precedes c d h =
    let one = below (low_of c) (low_of d) (ordering_then (nat_cmp (high_of d) (high_of c)) (ordering_then (nat_cmp (rank_of c) (rank_of d)) (nat_cmp (statement_of c) (statement_of d)))) h in (
      one.0,
      λ e. (below (high_of d) (high_of c) (ordering_then (nat_cmp (rank_of c) (rank_of d)) (nat_cmp (statement_of c) (statement_of d))) (one.1 e)).0,
      λ e f. own-rank c d (below (rank_of c) (rank_of d) (nat_cmp (statement_of c) (statement_of d))
          ((below (high_of d) (high_of c) (ordering_then (nat_cmp (rank_of c) (rank_of d)) (nat_cmp (statement_of c) (statement_of d))) (one.1 e)).1 (sym f))).0,
    )

ordered-pairs : (ds : List Delta) → Pairs delta_cmp delta_total ds → Ordered ds
unfolding Pairs NotOver
ordered-pairs [] up = tt
ordered-pairs (d ∷ ds) up =
    (all-from (Precedes d) ds (λ e at. precedes d e (all-in (λ z. delta_cmp d z ≡ Greater → ⊥) ds e up.0 at)), ordered-pairs ds up.1)

pub ordered-sorted : (ds : List Delta) → Ordered (sorted_by delta_cmp ds)
ordered-sorted ds = ordered-pairs (sorted_by delta_cmp ds) (pairs-sorted delta_cmp delta_total ds)
