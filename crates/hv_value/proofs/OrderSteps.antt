-- Steps of the loops that compare.
use Rattle.std.proofs.Common.{◌≡◌, ℕ, ◌+◌, ◌<◌, ◌≤◌, min, true, false, List, [], ◌∷◌, length, drop, get_or, refl, sym, ◌∙◌, arith}
use Rattle.std.specs.declared.cmp.Ordering.{Ordering}
use Rattle.std.specs.declared.cmp.Ordering.TheVariants.{Less, Equal, Greater}
use Rattle.std.specs.Ordering.{ordering_then, is_ne, nat_cmp}
use Rattle.std.specs.Cmp.{nat_cmp_is}
use Rattle.std.specs.Cmp.Lexicographic.{slice_cmp}
use Rattle.std.proofs.lemmas.List.{drop_more}

pub decides : (a b : Ordering) → is_ne a ≡ true → a ≡ ordering_then a b
decides Less b e = refl
decides Equal b e = cc
decides Greater b e = refl

pub defers : (a b : Ordering) → is_ne a ≡ false → ordering_then a b ≡ b
defers Less b e = cc
defers Equal b e = refl
defers Greater b e = cc

module _ {X : Type 0} (R : X → X → Ordering) where
  pub slice_cmp-turn : (xs ys : List X) (i : ℕ) (x y : X) → i < length xs → i < length ys → x ≡ get_or xs i x → y ≡ get_or ys i y
      → slice_cmp R (drop i xs) (drop i ys) ≡ ordering_then (R x y) (slice_cmp R (drop (i + 1) xs) (drop (i + 1) ys))
  slice_cmp-turn xs ys i x y p q ex ey =
      (λ k. slice_cmp R (drop_more xs i x p k) (drop_more ys i y q k))
      ∙ (λ k. ordering_then (R (sym ex k) (sym ey k)) (slice_cmp R (drop (i + 1) xs) (drop (i + 1) ys)))

  pub slice_cmp-end : (m n i : ℕ) (xs ys : List X) → length xs + i ≡ m → length ys + i ≡ n → min m n ≤ i → slice_cmp R xs ys ≡ nat_cmp m n
  slice_cmp-end m n i [] [] p q h = nat_cmp_is m n Equal (omega arith)
  slice_cmp-end m n i [] (y ∷ ys) p q h = nat_cmp_is m n Less (omega arith)
  slice_cmp-end m n i (x ∷ xs) [] p q h = nat_cmp_is m n Greater (omega arith)
  slice_cmp-end m n i (x ∷ xs) (y ∷ ys) p q h = absurd (omega arith)
