-- One step more of what is defined down a list.
use Rattle.std.proofs.Common.{◌≡◌, ℕ, zero, suc, ◌+◌, ◌-◌, ◌≤◌, List, [], ◌∷◌, ◌++◌, take, drop, sym, ap, ◌∙◌, arith}
use Rattle.std.specs.declared.cmp.Ordering.{Ordering}
use Rattle.std.proofs.lemmas.List.{take-take}
use Rattle.hv_base.specs.Sorting.{put_by, sorted_by}

-- ---- a list that is emptied from its end

pub popped_rest : {X : Type 0} (all old new : List X) (n m : ℕ) → m ≡ n + 1 → old ≡ take m all → new ≡ take (m - 1) old → new ≡ take n all
popped_rest all old new n m e was rest =
    rest ∙ ap (take (m - 1)) was ∙ take-take (m - 1) m all (omega arith) ∙ ap (λ k. take k all) (omega arith)

module _ {X : Type 0} (R : X → X → Ordering) where
  last_put : (all : List X) (n : ℕ) (x : X) → take (suc n) all ≡ take n all ++ x ∷ []
      → sorted_by R (drop n all) ≡ put_by R x (sorted_by R (drop (suc n) all))
  last_put [] zero x e = cc
  last_put [] (suc n) x e = cc
  last_put (y ∷ ys) zero x e = let same : y ≡ x = cc in ap (λ z. put_by R z (sorted_by R ys)) same
  last_put (y ∷ ys) (suc n) x e = last_put ys n x (cc)

  -- the last one is put before those that were put already
  pub popped_put : (all old new : List X) (n m : ℕ) (x : X) → m ≡ n + 1 → old ≡ take m all → new ≡ take n all → old ≡ new ++ x ∷ []
      → put_by R x (sorted_by R (drop m all)) ≡ sorted_by R (drop n all)
  popped_put all old new n m x e was front back =
      let next : suc n ≡ m = omega arith in
      let split : take (suc n) all ≡ take n all ++ x ∷ [] =
      ap (λ k. take k all) next ∙ sym was ∙ back ∙ ap (λ xs. xs ++ x ∷ []) front in
      sym (last_put all n x split ∙ ap (λ k. put_by R x (sorted_by R (drop k all))) next)
