-- Rows side by side, and what looks at some of their places.
use Rattle.std.proofs.Common.{◌≡◌, ℕ, zero, suc, ◌+◌, ◌-◌, ◌<◌, ◌≤◌, Bool, true, ◌&&◌, List, [], ◌∷◌, ◌++◌, length, take, slice_get, refl, sym, ap, ◌∙◌, arith, append_assoc}
use Rattle.std.specs.Prelude.{nat_le, nat_lt}
use Rattle.std.proofs.lemmas.Bool.{leb-true, ltb-true}
use Rattle.std.proofs.lemmas.List.{length-append, length-replicate, take-append-drop}
use Rattle.hv_value.specs.declared.value.Value.TheVariants as value
use Rattle.hv_expr.specs.declared.tree.TypedExpr.{TypedExpr}
use Rattle.hv_expr.specs.Values.{truth_of, holds}
use Rattle.hv_law_expr.specs.Places.{looks_only, AgreeAt}
use Rattle.hv_law_expr.proofs.OnlyLaws.{by_its_places}
use Rattle.hv_typing.specs.Rows.{Frame, is_true, nulls}
use Rattle.hv_rewrite.specs.Conditions.{all_true, within}
use Rattle.hv_rewrite.specs.Pruned.{last_values}
use Rattle.hv_rewrite.proofs.Lists.{Each, front-true, back-true}

pub from-place : (from to place : ℕ) → within from to place ≡ true → from ≤ place
unfolding within
from-place from to place h = leb-true from place (front-true (nat_le from place) (nat_lt place to) h)

pub below-place : (from to place : ℕ) → within from to place ≡ true → place < to
unfolding within
below-place from to place h = ltb-true place to (back-true (nat_le from place) (nat_lt place to) h)

in-front : (left right : Frame) (k : ℕ) → k < length left → slice_get (left ++ right) k ≡ slice_get left k
in-front [] right k h = absurd (omega (arith, h))
in-front (v ∷ left) right zero h = refl
in-front (v ∷ left) right (suc k) h = in-front left right k (omega (arith, h))

behind : (left other right : Frame) (k : ℕ) → length left ≡ length other → length left ≤ k → slice_get (left ++ right) k ≡ slice_get (other ++ right) k
behind [] [] right k e h = refl
behind [] (w ∷ other) right k e h = absurd (omega (arith, e))
behind (v ∷ left) [] right k e h = absurd (omega (arith, e))
behind (v ∷ left) (w ∷ other) right zero e h = absurd (omega (arith, h))
behind (v ∷ left) (w ∷ other) right (suc k) e h = behind left other right k (omega (arith, e)) (omega (arith, h))

pub length-nulls : (count : ℕ) → length (nulls count) ≡ count
length-nulls count = length-replicate count value.Null

-- ---- what looks below a place alone is the same on a row with more behind it

-- such places of the row decide
abbrev pub Looks : (ℕ → Bool) → (Frame → Bool) → Type 0
Looks such p = (one other : Frame) → AgreeAt such one other → p one ≡ p other

pub looks-condition : (such : ℕ → Bool) (condition : TypedExpr) → looks_only such condition ≡ true → Looks such (is_true condition)
looks-condition such condition only one other agree = ap (λ v. holds (truth_of v)) (by_its_places condition one other such only agree)

pub looks-front : (from to : ℕ) (p : Frame → Bool) → Looks (within from to) p → (left more : Frame) → to ≤ length left → p (left ++ more) ≡ p left
looks-front from to p looks left more wide =
    looks (left ++ more) left (λ k h. let below = below-place from to k h in in-front left more k (omega (arith, below, wide)))

-- ---- or on a row with other values before it

pub looks-behind : (from to : ℕ) (p : Frame → Bool) → Looks (within from to) p → (left other right : Frame) → length left ≡ length other → length left ≤ from
    → p (left ++ right) ≡ p (other ++ right)
looks-behind from to p looks left other right same short =
    looks (left ++ right) (other ++ right)
    (λ k h. let above = from-place from to k h in behind left other right k same (omega (arith, above, short)))

-- ---- the last values of a row, behind NULLs in the places of the others

parted : (count : ℕ) (row : Frame) → take (length row - count) row ++ last_values count row ≡ row
parted count row = take-append-drop (length row - count) row

pub looks-parts : (base width count to : ℕ) (row : Frame) (p : Frame → Bool) → length row ≡ width → to ≡ base + width
    → Looks (within (to - length (last_values count row)) to) p
    → p (nulls base ++ row) ≡ p (nulls (to - length (last_values count row)) ++ last_values count row)
looks-parts base width count to row p wide end looks =
    let parts = last_values count row in
    let front = take (length row - count) row in
    let from = to - length parts in
    let before : length (nulls base ++ front) ≡ base + length front = length-append (nulls base) front ∙ ap (λ n. n + length front) (length-nulls base) in
    let whole : length front + length parts ≡ length row = sym (length-append front parts) ∙ ap length (parted count row) in
    let from_is : length (nulls base ++ front) ≡ from = omega (arith, before, whole, wide, end) in
    ap (λ r. p (nulls base ++ r)) (sym (parted count row))
    ∙ ap p (sym (append_assoc (nulls base) front parts))
    ∙ looks-behind from to p looks (nulls base ++ front) (nulls from) parts (from_is ∙ sym (length-nulls from)) (omega (arith, from_is))

-- ---- conditions together

pub looks-all : (such : ℕ → Bool) (conditions : List TypedExpr) → Each (λ condition. Looks such (is_true condition)) conditions
    → Looks such (all_true conditions)
looks-all such [] each one other agree = refl
looks-all such (condition ∷ conditions) each one other agree =
    λ i. each.0 one other agree i && looks-all such conditions each.1 one other agree i
