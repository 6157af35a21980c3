-- One transaction more, by number, and the end of them.
use Rattle.std.proofs.Common.{◌≡◌, ℕ, zero, suc, ◌+◌, ◌≤◌, List, [], ◌∷◌, ◌++◌, length, drop, refl, sym, ap, ◌∙◌, append_assoc, arith}
use Rattle.std.specs.List.{slice_get}
use Rattle.std.proofs.Math.Seq.{drop-nil}
use Rattle.std.proofs.lemmas.List.{append-nil, drop_all}
use Rattle.hv_value.specs.declared.row.Row.{Row}
use Rattle.hv_history.specs.declared.state.Transaction.{Transaction}
use Rattle.hv_history.specs.State.{numbered}
use Rattle.hv_history.specs.Shown.{each_from}
use Rattle.hv_showing.specs.Fronts.{rows_at}

module _ (f : ℕ → Transaction → List Row) where
  each-at : (ts : List Transaction) (i n : ℕ) → each_from f n (drop i ts) ≡ rows_at f n (slice_get ts i) ++ each_from f (n + 1) (drop (i + 1) ts)
  each-at [] zero n = refl
  each-at [] (suc i) n = ap (each_from f (n + 1)) (sym (drop-nil (suc i + 1)))
  each-at (t ∷ ts) zero n = refl
  each-at (t ∷ ts) (suc i) n =
      each-at ts i n
      ∙ ap (λ k. rows_at f n (slice_get ts i) ++ each_from f (n + 1) (drop k (t ∷ ts))) (let at : suc (i + 1) ≡ suc i + 1 = omega arith in at)

  each-step : (ts : List Transaction) (i number : ℕ) → number ≡ i + 1
      → each_from f number (drop i ts) ≡ rows_at f number (numbered ts number) ++ each_from f (number + 1) (drop (i + 1) ts)
  each-step ts i zero e = absurd (omega (arith, e))
  each-step ts i (suc n) e =
      let same : n ≡ i = omega (arith, e) in
      each-at ts i (suc n) ∙ ap (λ k. rows_at f (suc n) (slice_get ts k) ++ each_from f (suc n + 1) (drop (i + 1) ts)) (sym same)

  -- the rows of one more
  pub each-next : (ts : List Transaction) (i : ℕ) (rows next all : List Row) → next ≡ rows ++ rows_at f (i + 1) (numbered ts (i + 1))
      → rows ++ each_from f (i + 1) (drop i ts) ≡ all → next ++ each_from f (i + 1 + 1) (drop (i + 1) ts) ≡ all
  each-next ts i rows next all put before =
      ap (λ (xs : List Row). xs ++ each_from f (i + 1 + 1) (drop (i + 1) ts)) put
      ∙ append_assoc rows (rows_at f (i + 1) (numbered ts (i + 1))) (each_from f (i + 1 + 1) (drop (i + 1) ts))
      ∙ ap (λ (ys : List Row). rows ++ ys) (sym (each-step ts i (i + 1) refl))
      ∙ before

  -- those of all
  pub each-end : (ts : List Transaction) (i : ℕ) (rows all : List Row) → length ts ≤ i → rows ++ each_from f (i + 1) (drop i ts) ≡ all → rows ≡ all
  each-end ts i rows all past kept =
      sym (append-nil rows) ∙ ap (λ (more : List Transaction). rows ++ each_from f (i + 1) more) (sym (drop_all i ts past)) ∙ kept
