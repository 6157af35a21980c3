-- AND and OR don't depend on the order of their operands.
use Rattle.std.proofs.Common.{◌≡◌, ℕ, zero, suc, ◌+◌, Bool, true, false, List, [], ◌∷◌, Option, Some, None, refl, sym, ap, ◌∙◌, arith}
use Rattle.std.specs.List.{fold, sum_by}
use Rattle.std.specs.List.Sorted.{IsPermutation}
use Rattle.std.proofs.lemmas.List.Sorted.{sum_by-IsPermutation, IsPermutation-map}
use Rattle.hv_value.specs.declared.value.Value.{Value}
use Rattle.hv_expr.specs.declared.tree.TypedExpr.{TypedExpr}
use Rattle.hv_expr.specs.declared.function.Many.TheVariants as many
use Rattle.hv_expr.specs.Values.{both, either, truth_of, truth_value}
use Rattle.hv_expr.specs.Functions.{all_of, any_of, many_value}
use Rattle.hv_expr.specs.Evaluation.{value_of, values_of}

plus_none : (n : ℕ) → n + 0 ≡ n
plus_none n = omega arith

plus_one : (n : ℕ) → n + 1 ≡ suc n
plus_one n = omega arith

abbrev is_unknown : Option Bool → ℕ
is_unknown (Some b) = 0
is_unknown None = 1

abbrev and_verdict : ℕ → ℕ → Option Bool
and_verdict zero zero = Some true
and_verdict zero (suc unknown) = None
and_verdict (suc decided) unknown = Some false

abbrev and_decides : Option Bool → ℕ
and_decides (Some false) = 1
and_decides (Some true) = 0
and_decides None = 0

and_twice : (rest : Option Bool) → both None (both None rest) ≡ both None rest
and_twice (Some true) = refl
and_twice (Some false) = refl
and_twice None = refl

and_step : (a b : ℕ) (t rest : Option Bool)
    → both (and_verdict a b) (both t rest) ≡ both (and_verdict (a + and_decides t) (b + is_unknown t)) rest
and_step a b (Some true) rest = ap (λ v. both v rest) (λ i. and_verdict (sym (plus_none a) i) (sym (plus_none b) i))
and_step zero zero (Some false) rest = ap (λ v. both v rest) (λ i. and_verdict (sym (plus_one zero) i) 0)
and_step zero (suc b) (Some false) rest = ap (λ v. both v rest) (λ i. and_verdict (sym (plus_one zero) i) (suc b + 0))
and_step (suc a) b (Some false) rest = ap (λ v. both v rest) (λ i. and_verdict (sym (plus_one (suc a)) i) (b + 0))
and_step zero zero None rest = ap (λ v. both v rest) (λ i. and_verdict 0 (sym (plus_one zero) i))
and_step zero (suc b) None rest = and_twice rest ∙ ap (λ v. both v rest) (λ i. and_verdict 0 (sym (plus_one (suc b)) i))
and_step (suc a) b None rest = ap (λ v. both v rest) (λ i. and_verdict (sym (plus_none (suc a)) i) (b + 1))

and_counted : (vs : List Value) (a b : ℕ)
    → both (and_verdict a b) (all_of vs)
    ≡ and_verdict (fold (λ n v. n + and_decides (truth_of v)) a vs) (fold (λ n v. n + is_unknown (truth_of v)) b vs)
and_counted [] zero zero = refl
and_counted [] zero (suc b) = refl
and_counted [] (suc a) b = refl
and_counted (v ∷ vs) a b =
    and_step a b (truth_of v) (all_of vs) ∙ and_counted vs (a + and_decides (truth_of v)) (b + is_unknown (truth_of v))

and_by_counts : (vs : List Value) → all_of vs ≡ and_verdict (sum_by (λ v. and_decides (truth_of v)) vs) (sum_by (λ v. is_unknown (truth_of v)) vs)
and_by_counts vs = and_counted vs 0 0

and_values : (xs ys : List Value) → IsPermutation xs ys → all_of xs ≡ all_of ys
and_values xs ys h =
    and_by_counts xs
    ∙ (λ i. and_verdict (sym (sum_by-IsPermutation (λ v. and_decides (truth_of v)) xs ys h) i) (sym (sum_by-IsPermutation (λ v. is_unknown (truth_of v)) xs ys h) i))
    ∙ sym (and_by_counts ys)

abbrev or_verdict : ℕ → ℕ → Option Bool
or_verdict zero zero = Some false
or_verdict zero (suc unknown) = None
or_verdict (suc decided) unknown = Some true

abbrev or_decides : Option Bool → ℕ
or_decides (Some true) = 1
or_decides (Some false) = 0
or_decides None = 0

or_twice : (rest : Option Bool) → either None (either None rest) ≡ either None rest
or_twice (Some true) = refl
or_twice (Some false) = refl
or_twice None = refl

or_step : (a b : ℕ) (t rest : Option Bool)
    → either (or_verdict a b) (either t rest) ≡ either (or_verdict (a + or_decides t) (b + is_unknown t)) rest
or_step a b (Some false) rest = ap (λ v. either v rest) (λ i. or_verdict (sym (plus_none a) i) (sym (plus_none b) i))
or_step zero zero (Some true) rest = ap (λ v. either v rest) (λ i. or_verdict (sym (plus_one zero) i) 0)
or_step zero (suc b) (Some true) rest = ap (λ v. either v rest) (λ i. or_verdict (sym (plus_one zero) i) (suc b + 0))
or_step (suc a) b (Some true) rest = ap (λ v. either v rest) (λ i. or_verdict (sym (plus_one (suc a)) i) (b + 0))
or_step zero zero None rest = ap (λ v. either v rest) (λ i. or_verdict 0 (sym (plus_one zero) i))
or_step zero (suc b) None rest = or_twice rest ∙ ap (λ v. either v rest) (λ i. or_verdict 0 (sym (plus_one (suc b)) i))
or_step (suc a) b None rest = ap (λ v. either v rest) (λ i. or_verdict (sym (plus_none (suc a)) i) (b + 1))

or_counted : (vs : List Value) (a b : ℕ)
    → either (or_verdict a b) (any_of vs)
    ≡ or_verdict (fold (λ n v. n + or_decides (truth_of v)) a vs) (fold (λ n v. n + is_unknown (truth_of v)) b vs)
or_counted [] zero zero = refl
or_counted [] zero (suc b) = refl
or_counted [] (suc a) b = refl
or_counted (v ∷ vs) a b =
    or_step a b (truth_of v) (any_of vs) ∙ or_counted vs (a + or_decides (truth_of v)) (b + is_unknown (truth_of v))

or_by_counts : (vs : List Value) → any_of vs ≡ or_verdict (sum_by (λ v. or_decides (truth_of v)) vs) (sum_by (λ v. is_unknown (truth_of v)) vs)
or_by_counts vs = or_counted vs 0 0

or_values : (xs ys : List Value) → IsPermutation xs ys → any_of xs ≡ any_of ys
or_values xs ys h =
    or_by_counts xs
    ∙ (λ i. or_verdict (sym (sum_by-IsPermutation (λ v. or_decides (truth_of v)) xs ys h) i) (sym (sum_by-IsPermutation (λ v. is_unknown (truth_of v)) xs ys h) i))
    ∙ sym (or_by_counts ys)

pub and_in_any_order : (xs ys : List TypedExpr) (row : List Value) → IsPermutation xs ys → many_value many.And (values_of xs row) ≡ many_value many.And (values_of ys row)
unfolding many_value
and_in_any_order xs ys row h = ap truth_value (and_values _ _ (IsPermutation-map (λ x. value_of x row) xs ys h))

pub or_in_any_order : (xs ys : List TypedExpr) (row : List Value) → IsPermutation xs ys → many_value many.Or (values_of xs row) ≡ many_value many.Or (values_of ys row)
unfolding many_value
or_in_any_order xs ys row h = ap truth_value (or_values _ _ (IsPermutation-map (λ x. value_of x row) xs ys h))

pub ruleset orders = (and_in_any_order, or_in_any_order)
