-- Lemmas on what stands at a number.
use Rattle.std.proofs.Common.{◌≡◌, ℕ, zero, suc, ◌+◌, ◌<◌, ◌≤◌, Option, Some, None, List, [], ◌∷◌, length, get_or, set, refl, sym, ap, ◌∙◌, arith}
use Rattle.std.specs.Prelude.{slice_set, slice_index_or, true, false, is_none}
use Rattle.std.proofs.lemmas.List.{set-get_or, get_or_default}
use Rattle.hv_history.specs.State.{Transaction, Ending, changed, changed_at, while_open, unless_ended}
use Rattle.hv_history.specs.Places.{IsPlaceOf, IsOpenPlaceOf}

-- ---- what stands at a number

module _ {A : Type 0} where
  changed_at-none : (f : A → A) (xs : List A) (n : ℕ) → length xs ≤ n → changed_at f xs n ≡ xs
  changed_at-none f [] n p = refl
  changed_at-none f (x ∷ xs) zero p = absurd (omega arith)
  changed_at-none f (x ∷ xs) (suc n) p = ap (λ ys. x ∷ ys) (changed_at-none f xs n (omega arith))

  changed_at-set : (f : A → A) (xs : List A) (n : ℕ) (d : A) → changed_at f xs n ≡ set xs n (f (get_or xs n d))
  changed_at-set f [] n d = refl
  changed_at-set f (x ∷ xs) zero d = refl
  changed_at-set f (x ∷ xs) (suc n) d = ap (λ ys. x ∷ ys) (changed_at-set f xs n d)

  pub place-none : (xs : List A) (number place : ℕ) → number ≡ place + 1 → length xs ≤ place → IsPlaceOf xs number None
  place-none xs zero place e p = absurd (omega arith)
  place-none xs (suc n) place e p = λ f. changed_at-none f xs n (omega arith)

  pub place-some : (xs : List A) (number place : ℕ) → number ≡ place + 1 → place < length xs → IsPlaceOf xs number (Some place)
  place-some xs zero place e p = absurd (omega arith)
  place-some xs (suc n) place e p =
      let at : n ≡ place = omega arith in
      (p, λ f d. changed_at-set f xs n d ∙ ap (λ k. set xs k (f (get_or xs k d))) at)

-- ---- a write at the place of a number is the change of what has that number

pub put_changed : {A : Type 0} (F : (A → A) → A → A) (f : A → A) (xs read : List A) (n at : ℕ) (x : A) → read ≡ xs
    → ((f : A → A) (other : A) → changed (F f) read n ≡ slice_set read at (f (slice_index_or read at other)))
    → x ≡ slice_index_or xs at x → slice_set xs at (f x) ≡ changed (F f) xs n
put_changed F f xs read n at x e moves is =
    ap (λ ys. slice_set ys at (f x)) (sym e)
    ∙ ap (λ y. slice_set read at (f y)) (is ∙ ap (λ ys. slice_index_or ys at x) (sym e))
    ∙ sym (moves f x) ∙ ap (λ ys. changed (F f) ys n) e

-- ---- a transaction that has not ended

while_open-open : (f : Transaction → Transaction) (transaction : Transaction) → is_none transaction.ending ≡ true → while_open f transaction ≡ f transaction
while_open-open f transaction e = by transaction.ending e
  where
    by : (ending : Option Ending) → is_none ending ≡ true → unless_ended ending transaction (f transaction) ≡ f transaction
    by None e = refl
    by (Some ending) e = cc

while_open-ended : (f : Transaction → Transaction) (transaction : Transaction) → is_none transaction.ending ≡ false → while_open f transaction ≡ transaction
while_open-ended f transaction e = by transaction.ending e
  where
    by : (ending : Option Ending) → is_none ending ≡ false → unless_ended ending transaction (f transaction) ≡ transaction
    by None e = cc
    by (Some ending) e = refl

pub open-none : (xs : List Transaction) (number : ℕ) → IsPlaceOf xs number None → IsOpenPlaceOf xs number None
open-none xs number at = λ f. at (while_open f)

pub open-ended : (xs : List Transaction) (number place : ℕ) (x : Transaction) → IsPlaceOf xs number (Some place)
    → x ≡ get_or xs place x → is_none x.ending ≡ false → IsOpenPlaceOf xs number None
open-ended xs number place x at is e = λ f.
    at.1 (while_open f) x
    ∙ ap (λ (y : Transaction). set xs place (while_open f y)) (sym is)
    ∙ ap (set xs place) (while_open-ended f x e ∙ is)
    ∙ set-get_or xs place x

pub open-some : (xs : List Transaction) (number place : ℕ) (x : Transaction) → IsPlaceOf xs number (Some place)
    → x ≡ get_or xs place x → is_none x.ending ≡ true → IsOpenPlaceOf xs number (Some place)
open-some xs number place x at is e = (
  at.0,
  λ f d.
      at.1 (while_open f) x
      ∙ ap (λ (y : Transaction). set xs place (while_open f y)) (sym is)
      ∙ ap (set xs place) (while_open-open f x e ∙ ap f (is ∙ get_or_default xs place x d at.0)),
)
