-- A place among the values of a joined row.
use Rattle.std.proofs.Common.{◌≡◌, ℕ, zero, suc, ◌+◌, ◌-◌, ◌<◌, ◌≤◌, List, [], ◌∷◌, ◌++◌, length, drop, get_or, slice_get, Bor, refl, sym, ap, ◌∙◌, arith, append_assoc}
use Rattle.hv_value.specs.declared.value.Value.{Value}
use Rattle.hv_eval.specs.Frames.{parts_values}

place_in : {X : Type 0} (xs ys : List X) (n : ℕ) → n < length xs → slice_get (xs ++ ys) n ≡ slice_get xs n
place_in [] ys n h = absurd (omega (arith, h))
place_in (x ∷ xs) ys zero h = refl
place_in (x ∷ xs) ys (suc n) h = place_in xs ys n (omega (arith, h))

place_behind : {X : Type 0} (xs ys : List X) (n : ℕ) → length xs ≤ n → slice_get (xs ++ ys) n ≡ slice_get ys (n - length xs)
place_behind [] ys n h = ap (slice_get ys) (omega arith)
place_behind (x ∷ xs) ys zero h = absurd (omega (arith, h))
place_behind (x ∷ xs) ys (suc n) h = place_behind xs ys n (omega (arith, h)) ∙ ap (slice_get ys) (omega arith)

abbrev Part : Type 0
Part = Bor (List Value)

next_part : (parts : List Part) (i : ℕ) (part : Part) → i < length parts → part ≡ get_or parts i part
    → parts_values (drop i parts) ≡ part.now ++ parts_values (drop (i + 1) parts)
next_part [] i part h is = absurd (omega (arith, h))
next_part (p ∷ parts) zero part h is = λ j. (sym is j).now ++ parts_values parts
next_part (p ∷ parts) (suc i) part h is =
    let e : suc (i + 1) ≡ suc i + 1 = omega arith in
    next_part parts i part (omega (arith, h)) is ∙ ap (λ n. part.now ++ parts_values (drop n (p ∷ parts))) e

pub part_here : (parts : List Part) (last : List Value) (i : ℕ) (part : Part) (n : ℕ) → i < length parts → part ≡ get_or parts i part → n < length part.now
    → slice_get (parts_values (drop i parts) ++ last) n ≡ slice_get part.now n
part_here parts last i part n h is within =
    ap (λ l. slice_get (l ++ last) n) (next_part parts i part h is)
    ∙ ap (λ l. slice_get l n) (append_assoc part.now (parts_values (drop (i + 1) parts)) last)
    ∙ place_in part.now (parts_values (drop (i + 1) parts) ++ last) n within

pub part_next : (parts : List Part) (last : List Value) (i : ℕ) (part : Part) (n : ℕ) → i < length parts → part ≡ get_or parts i part → length part.now ≤ n
    → slice_get (parts_values (drop i parts) ++ last) n ≡ slice_get (parts_values (drop (i + 1) parts) ++ last) (n - length part.now)
part_next parts last i part n h is behind =
    ap (λ l. slice_get (l ++ last) n) (next_part parts i part h is)
    ∙ ap (λ l. slice_get l n) (append_assoc part.now (parts_values (drop (i + 1) parts)) last)
    ∙ place_behind part.now (parts_values (drop (i + 1) parts) ++ last) n behind
