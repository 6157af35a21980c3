-- A compaction is past where no open transaction is below its mark; so it stays past where no transaction is opened below that.
use Rattle.std.proofs.Common.{refl, ◌≡◌, ◌⊎◌, inl, inr, ℕ, zero, suc, ◌+◌, ◌≤◌, nat_lt, Bool, true, false, cond, Option, Some, None, List, [], ◌∷◌, sym, ap, ◌∙◌, subst, arith, ltb-true, ltb-false, true≢false}
use Rattle.std.specs.Prelude.{is_none}
use Rattle.std.specs.List.{slice_get}
use Rattle.hv_stands.specs.hv_history.specs.declared.state.Transaction.{Transaction}
use Rattle.hv_stands.specs.hv_history.specs.State.{State, changed, changed_at}
use Rattle.hv_stands.specs.hv_history.specs.Legal.{is_open}
use Rattle.hv_stands.specs.hv_history.specs.Jobs.{first_open, if_below, is_past_by}
use Rattle.hv_law_made.specs.Laws.{IsMarked}

abbrev pub is_open_one : Option Transaction → Bool
is_open_one None = false
is_open_one (Some t) = is_open t

-- the one of that place, from 0
abbrev pub open_at : List Transaction → ℕ → Bool
open_at ts k = is_open_one (slice_get ts k)

module _ (mark : ℕ) where
  -- none is below it
  abbrev IsAbove : ℕ → List Transaction → Type 0
  IsAbove number ts = (k : ℕ) → open_at ts k ≡ true → mark ≤ number + k

  least : (number : ℕ) (b : Bool) → nat_lt number mark ≡ b → is_none (cond b (Some number) None) ≡ true → mark ≤ number
  least number true e is = absurd (true≢false (sym is))
  least number false e is = ltb-false number mark e

  above-by : (number : ℕ) (t : Transaction) (ts : List Transaction) (b : Bool) → is_open t ≡ b
      → (is_none (if_below mark (first_open (number + 1) ts)) ≡ true → IsAbove (number + 1) ts)
      → is_none (if_below mark (cond b (Some number) (first_open (number + 1) ts))) ≡ true → IsAbove number (t ∷ ts)
  above-by number t ts true is rest none k e = let low = least number (nat_lt number mark) refl none in omega (arith, low)
  above-by number t ts false is rest none zero e = absurd (true≢false (sym e ∙ is))
  above-by number t ts false is rest none (suc k) e = let far = rest none k e in omega (arith, far)

  pub above : (number : ℕ) (ts : List Transaction) → is_none (if_below mark (first_open number ts)) ≡ true → IsAbove number ts
  above number [] none zero e = absurd (true≢false (sym e))
  above number [] none (suc k) e = absurd (true≢false (sym e))
  above number (t ∷ ts) none k e = above-by number t ts (is_open t) refl (above (number + 1) ts) none k e

  none-here : (number : ℕ) (b : Bool) → nat_lt number mark ≡ b → mark ≤ number → is_none (cond b (Some number) None) ≡ true
  none-here number true e le =
      let lt = ltb-true number mark e in
      let no : ⊥ = omega (arith, lt, le) in
      absurd no
  none-here number false e le = refl

  none-by : (number : ℕ) (t : Transaction) (ts : List Transaction) (b : Bool) → is_open t ≡ b
      → (IsAbove (number + 1) ts → is_none (if_below mark (first_open (number + 1) ts)) ≡ true)
      → IsAbove number (t ∷ ts) → is_none (if_below mark (cond b (Some number) (first_open (number + 1) ts))) ≡ true
  none-by number t ts true is rest far = let low = far 0 is in none-here number (nat_lt number mark) refl (omega (arith, low))
  none-by number t ts false is rest far = rest (λ k e. let it = far (suc k) e in omega (arith, it))

  pub none-below : (number : ℕ) (ts : List Transaction) → IsAbove number ts → is_none (if_below mark (first_open number ts)) ≡ true
  none-below number [] far = refl
  none-below number (t ∷ ts) far = none-by number t ts (is_open t) refl (none-below (number + 1) ts) far

-- no transaction is open now that wasn't, but from this number on
abbrev pub OpensFrom : ℕ → List Transaction → List Transaction → Type 0
OpensFrom top before now = (k : ℕ) → open_at now k ≡ true → (open_at before k ≡ true) ⊎ (top ≤ k + 1)

pub past-stays : (state now : State) (top : ℕ) → OpensFrom top state.transactions now.transactions → (o : Option (ℕ × ℕ × ℕ)) → IsMarked top o
    → is_past_by state o ≡ true → is_past_by now o ≡ true
past-stays state now top opens None marked e = e
past-stays state now top opens (Some range) marked e =
    none-below range.2 1 now.transactions (λ k is. elim (opens k is) [
      | inl was ↦ above range.2 1 state.transactions e k was
      | inr far ↦ omega (arith, far, marked)
    ])

-- ---- one that ends

module _ (f : Transaction → Transaction) (opens : (t : Transaction) → is_open (f t) ≡ true → is_open t ≡ true) where
  fewer-at : (ts : List Transaction) (n k : ℕ) → open_at (changed_at f ts n) k ≡ true → open_at ts k ≡ true
  fewer-at [] n k e = e
  fewer-at (t ∷ ts) zero zero e = opens t e
  fewer-at (t ∷ ts) zero (suc k) e = e
  fewer-at (t ∷ ts) (suc n) zero e = e
  fewer-at (t ∷ ts) (suc n) (suc k) e = fewer-at ts n k e

  pub fewer : (ts : List Transaction) (n k : ℕ) → open_at (changed f ts n) k ≡ true → open_at ts k ≡ true
  fewer ts zero k e = e
  fewer ts (suc n) k e = fewer-at ts n k e
