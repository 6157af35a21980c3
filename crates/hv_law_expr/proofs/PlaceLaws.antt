-- An expression is the same on rows that agree at the places that it looks at.
use Rattle.std.proofs.Common.{◌≡◌, ℕ, Bool, true, false, ◌||◌, IsTrue, List, [], ◌∷◌, map, slice_get, if◌then◌else◌, Option, Some, None, refl, sym, ap, ◌∙◌, subst, eq-eqb}
use Rattle.hv_value.specs.declared.value.Value.{Value}
use Rattle.hv_expr.specs.declared.tree.Branch.{Branch}
use Rattle.hv_expr.specs.declared.tree.Link.{Link}
use Rattle.hv_expr.specs.declared.tree.TypedExpr.{TypedExpr}
use Rattle.hv_expr.specs.declared.tree.TypedExpr.TheOpen.{TypedExpr-F}
use Rattle.hv_expr.specs.declared.tree.TypedExpr.TheViews.{roll-TypedExpr, out-roll-TypedExpr}
use Rattle.hv_expr.specs.declared.tree.TypedExpr.TheFolds.{fold_out-TypedExpr, map-TypedExpr, ind-TypedExpr, fold-TypedExpr}
use Rattle.hv_expr.specs.declared.tree.TypedExpr.TheShapes
use Rattle.hv_expr.specs.Values.{taken_or_null, or_null}
use Rattle.hv_expr.specs.Functions.{arithmetic_value, one_value, two_value, three_value, many_value, in_value}
use Rattle.hv_expr.specs.Evaluation.{layer_value, value_in, value_of, chained, is_met, chosen, or_else}
use Rattle.hv_law_expr.specs.Places.{some_of, layer_looks, looks_at}
use Rattle.hv_expr.proofs.Equations.{value_in-out}

some-mapped : (k : ℕ) (exprs : List TypedExpr) → some_of (λ (part : Bool). part) (map (looks_at k) exprs) ≡ some_of (looks_at k) exprs
some-mapped k [] = refl
some-mapped k (expr ∷ exprs) = ap (λ rest. looks_at k expr || rest) (some-mapped k exprs)

links-mapped : (k : ℕ) (links : List (Link TypedExpr))
    → some_of (λ (link : Link Bool). link.operand) (map ((TheShapes.former-TypedExpr-Chain-2-at-2).map TypedExpr Bool (looks_at k)) links)
    ≡ some_of (λ (link : Link TypedExpr). looks_at k link.operand) links
links-mapped k [] = refl
links-mapped k (link ∷ links) = ap (λ rest. looks_at k link.operand || rest) (links-mapped k links)

branches-mapped : (k : ℕ) (branches : List (Branch TypedExpr))
    → some_of (λ (branch : Branch Bool). branch.condition || branch.value) (map ((TheShapes.former-TypedExpr-Case-2-at-2).map TypedExpr Bool (looks_at k)) branches)
    ≡ some_of (λ (branch : Branch TypedExpr). looks_at k branch.condition || looks_at k branch.value) branches
branches-mapped k [] = refl
branches-mapped k (branch ∷ branches) = ap (λ rest. (looks_at k branch.condition || looks_at k branch.value) || rest) (branches-mapped k branches)

mapped : (k : ℕ) (x : TypedExpr-F TypedExpr) → layer_looks k (λ part. part) (map-TypedExpr TypedExpr Bool (looks_at k) x) ≡ layer_looks k (looks_at k) x
mapped k (TypedExpr-F.Column place kind) = refl
mapped k (TypedExpr-F.Literal literal kind) = refl
mapped k (TypedExpr-F.One function kind x) = refl
mapped k (TypedExpr-F.Two function kind x y) = refl
mapped k (TypedExpr-F.Three function kind x y z) = refl
mapped k (TypedExpr-F.Many function kind arguments) = some-mapped k arguments
mapped k (TypedExpr-F.In x negated among) = ap (λ rest. looks_at k x || rest) (some-mapped k among)
mapped k (TypedExpr-F.Chain kind first links) = ap (λ rest. looks_at k first || rest) (links-mapped k links)
mapped k (TypedExpr-F.Case kind None branches None) = ap (λ some. some || false) (branches-mapped k branches)
mapped k (TypedExpr-F.Case kind None branches (Some otherwise)) = ap (λ some. some || looks_at k otherwise) (branches-mapped k branches)
mapped k (TypedExpr-F.Case kind (Some operand) branches None) = ap (λ some. looks_at k operand || (some || false)) (branches-mapped k branches)
mapped k (TypedExpr-F.Case kind (Some operand) branches (Some otherwise)) = ap (λ some. looks_at k operand || (some || looks_at k otherwise)) (branches-mapped k branches)
mapped k TypedExpr-F.CountRows = refl
mapped k (TypedExpr-F.Aggregate function distinct kind argument) = refl

pub looks_at-roll : (k : ℕ) (x : TypedExpr-F TypedExpr) → looks_at k (roll-TypedExpr x) ≡ layer_looks k (looks_at k) x
unfolding looks_at
looks_at-roll k x =
    fold_out-TypedExpr Bool (layer_looks k (λ part. part)) (roll-TypedExpr x)
    ∙ ap (λ y. layer_looks k (λ part. part) (map-TypedExpr TypedExpr Bool (fold-TypedExpr Bool (layer_looks k (λ part. part))) y)) (out-roll-TypedExpr x) ∙ mapped k x

abbrev Rows : Type 0
Rows = List (List Value)

abbrev at_expr : Rows → TypedExpr → List Value → Value
at_expr group expr row = value_in expr group row

value_in-roll : (x : TypedExpr-F TypedExpr) (group : Rows) (row : List Value) → value_in (roll-TypedExpr x) group row ≡ layer_value (at_expr group) x group row
value_in-roll x group row = value_in-out (roll-TypedExpr x) group row ∙ ap (λ y. layer_value (at_expr group) y group row) (out-roll-TypedExpr x)

-- the rows agree at each place that the test lets through
abbrev Agree : (ℕ → Bool) → List Value → List Value → Type 0
Agree test one other = (k : ℕ) → IsTrue (test k) → slice_get one k ≡ slice_get other k

abbrev Steady : TypedExpr → Type 0
Steady expr = (group : Rows) (one other : List Value) → Agree (λ k. looks_at k expr) one other → value_in expr group one ≡ value_in expr group other

abbrev Known : Type 0
Known = (expr : TypedExpr) × Steady expr

left_of : (a b : Bool) → IsTrue a → IsTrue (a || b)
left_of true b h = refl
left_of false b h = absurd (cc)

right_of : (a b : Bool) → IsTrue b → IsTrue (a || b)
right_of true b h = refl
right_of false b h = h

agree_left : (p q : ℕ → Bool) (one other : List Value) → Agree (λ k. p k || q k) one other → Agree p one other
agree_left p q one other h k e = h k (left_of (p k) (q k) e)

agree_right : (p q : ℕ → Bool) (one other : List Value) → Agree (λ k. p k || q k) one other → Agree q one other
agree_right p q one other h k e = h k (right_of (p k) (q k) e)

abbrev plain : List Known → List TypedExpr
plain exprs = map (λ e. e.0) exprs

many-same : (exprs : List Known) (group : Rows) (one other : List Value) → Agree (λ k. some_of (looks_at k) (plain exprs)) one other
    → map (λ expr. value_in expr group one) (plain exprs) ≡ map (λ expr. value_in expr group other) (plain exprs)
many-same [] group one other h = refl
many-same (expr ∷ exprs) group one other h =
    let first = expr.1 group one other (agree_left (λ k. looks_at k expr.0) (λ k. some_of (looks_at k) (plain exprs)) one other h) in
    let rest = many-same exprs group one other (agree_right (λ k. looks_at k expr.0) (λ k. some_of (looks_at k) (plain exprs)) one other h) in
    λ i. first i ∷ rest i

abbrev plain_link : Link Known → Link TypedExpr
plain_link link = record { operator = link.operator; operand = link.operand.0 }

abbrev link_looks : ℕ → Link TypedExpr → Bool
link_looks k link = looks_at k link.operand

chained-same : (links : List (Link Known)) (group : Rows) (one other : List Value) (v w : Value) → v ≡ w
    → Agree (λ k. some_of (link_looks k) (map plain_link links)) one other
    → chained (λ expr. value_in expr group one) v (map plain_link links) ≡ chained (λ expr. value_in expr group other) w (map plain_link links)
chained-same [] group one other v w e h = e
chained-same (link ∷ links) group one other v w e h =
    let first = link.operand.1 group one other (agree_left (λ k. looks_at k link.operand.0) (λ k. some_of (link_looks k) (map plain_link links)) one other h) in
    chained-same links group one other _ _ (λ i. arithmetic_value link.operator (e i) (first i))
    (agree_right (λ k. looks_at k link.operand.0) (λ k. some_of (link_looks k) (map plain_link links)) one other h)

abbrev plain_branch : Branch Known → Branch TypedExpr
plain_branch branch = record { condition = branch.condition.0; value = branch.value.0 }

abbrev branch_looks : ℕ → Branch TypedExpr → Bool
branch_looks k branch = looks_at k branch.condition || looks_at k branch.value

chosen-same : (branches : List (Branch Known)) (group : Rows) (one other : List Value) (v w : Option Value) → v ≡ w
    → Agree (λ k. some_of (branch_looks k) (map plain_branch branches)) one other
    → chosen (λ expr. value_in expr group one) v (map plain_branch branches) ≡ chosen (λ expr. value_in expr group other) w (map plain_branch branches)
chosen-same [] group one other v w e h = refl
chosen-same (branch ∷ branches) group one other v w e h =
    let here = agree_left (λ k. branch_looks k (plain_branch branch)) (λ k. some_of (branch_looks k) (map plain_branch branches)) one other h in
    let condition = branch.condition.1 group one other (agree_left (λ k. looks_at k branch.condition.0) (λ k. looks_at k branch.value.0) one other here) in
    let value = branch.value.1 group one other (agree_right (λ k. looks_at k branch.condition.0) (λ k. looks_at k branch.value.0) one other here) in
    let rest = chosen-same branches group one other v w e (agree_right (λ k. branch_looks k (plain_branch branch)) (λ k. some_of (branch_looks k) (map plain_branch branches)) one other h) in
    λ i. if is_met (e i) (condition i) then Some (value i) else rest i

abbrev forget : TypedExpr-F Known → TypedExpr-F TypedExpr
forget y = map-TypedExpr Known TypedExpr (λ e. e.0) y

layers : (y : TypedExpr-F Known) (group : Rows) (one other : List Value) → Agree (λ k. layer_looks k (looks_at k) (forget y)) one other
    → layer_value (at_expr group) (forget y) group one ≡ layer_value (at_expr group) (forget y) group other
layers (TypedExpr-F.Column place kind) group one other h = ap (taken_or_null kind) (h place (eq-eqb place place refl))
layers (TypedExpr-F.Literal literal kind) group one other h = refl
layers (TypedExpr-F.One function kind x) group one other h = ap (one_value function kind) (x.1 group one other h)
layers (TypedExpr-F.Two function kind x y) group one other h =
    let first = x.1 group one other (agree_left (λ k. looks_at k x.0) (λ k. looks_at k y.0) one other h) in
    let second = y.1 group one other (agree_right (λ k. looks_at k x.0) (λ k. looks_at k y.0) one other h) in
    λ i. two_value function kind (first i) (second i)
layers (TypedExpr-F.Three function kind x y z) group one other h =
    let behind = agree_right (λ k. looks_at k x.0) (λ k. looks_at k y.0 || looks_at k z.0) one other h in
    let first = x.1 group one other (agree_left (λ k. looks_at k x.0) (λ k. looks_at k y.0 || looks_at k z.0) one other h) in
    let second = y.1 group one other (agree_left (λ k. looks_at k y.0) (λ k. looks_at k z.0) one other behind) in
    let third = z.1 group one other (agree_right (λ k. looks_at k y.0) (λ k. looks_at k z.0) one other behind) in
    λ i. three_value function (first i) (second i) (third i)
layers (TypedExpr-F.Many function kind arguments) group one other h = ap (many_value function) (many-same arguments group one other h)
layers (TypedExpr-F.In x negated among) group one other h =
    let first = x.1 group one other (agree_left (λ k. looks_at k x.0) (λ k. some_of (looks_at k) (plain among)) one other h) in
    let rest = many-same among group one other (agree_right (λ k. looks_at k x.0) (λ k. some_of (looks_at k) (plain among)) one other h) in
    λ i. in_value negated (first i) (rest i)
layers (TypedExpr-F.Chain kind first links) group one other h =
    chained-same links group one other _ _
    (first.1 group one other (agree_left (λ k. looks_at k first.0) (λ k. some_of (link_looks k) (map plain_link links)) one other h))
    (agree_right (λ k. looks_at k first.0) (λ k. some_of (link_looks k) (map plain_link links)) one other h)
layers (TypedExpr-F.Case kind None branches None) group one other h =
    let found = chosen-same branches group one other None None refl (agree_left (λ k. some_of (branch_looks k) (map plain_branch branches)) (λ k. false) one other h) in
    λ i. or_else (found i) (or_null None)
layers (TypedExpr-F.Case kind None branches (Some otherwise)) group one other h =
    let found = chosen-same branches group one other None None refl (agree_left (λ k. some_of (branch_looks k) (map plain_branch branches)) (λ k. looks_at k otherwise.0) one other h) in
    let rest = otherwise.1 group one other (agree_right (λ k. some_of (branch_looks k) (map plain_branch branches)) (λ k. looks_at k otherwise.0) one other h) in
    λ i. or_else (found i) (rest i)
layers (TypedExpr-F.Case kind (Some operand) branches None) group one other h =
    let first = operand.1 group one other (agree_left (λ k. looks_at k operand.0) (λ k. some_of (branch_looks k) (map plain_branch branches) || false) one other h) in
    let behind = agree_right (λ k. looks_at k operand.0) (λ k. some_of (branch_looks k) (map plain_branch branches) || false) one other h in
    let found = chosen-same branches group one other _ _ (ap Some first) (agree_left (λ k. some_of (branch_looks k) (map plain_branch branches)) (λ k. false) one other behind) in
    λ i. or_else (found i) (or_null None)
layers (TypedExpr-F.Case kind (Some operand) branches (Some otherwise)) group one other h =
    let first = operand.1 group one other (agree_left (λ k. looks_at k operand.0) (λ k. some_of (branch_looks k) (map plain_branch branches) || looks_at k otherwise.0) one other h) in
    let behind = agree_right (λ k. looks_at k operand.0) (λ k. some_of (branch_looks k) (map plain_branch branches) || looks_at k otherwise.0) one other h in
    let found = chosen-same branches group one other _ _ (ap Some first) (agree_left (λ k. some_of (branch_looks k) (map plain_branch branches)) (λ k. looks_at k otherwise.0) one other behind) in
    let rest = otherwise.1 group one other (agree_right (λ k. some_of (branch_looks k) (map plain_branch branches)) (λ k. looks_at k otherwise.0) one other behind) in
    λ i. or_else (found i) (rest i)
layers TypedExpr-F.CountRows group one other h = refl
layers (TypedExpr-F.Aggregate function distinct kind argument) group one other h = refl

pub steady : (expr : TypedExpr) → Steady expr
steady = ind-TypedExpr Steady (λ x y is group one other h.
    let same : (x : TypedExpr-F TypedExpr) → forget y ≡ x → Agree (λ k. layer_looks k (looks_at k) x) one other
    → layer_value (at_expr group) x group one ≡ layer_value (at_expr group) x group other
    = λ x is. subst (λ x. Agree (λ k. layer_looks k (looks_at k) x) one other → layer_value (at_expr group) x group one ≡ layer_value (at_expr group) x group other) is (layers y group one other) in
    value_in-roll x group one ∙ same x is (λ k e. h k (subst IsTrue (sym (looks_at-roll k x)) e)) ∙ sym (value_in-roll x group other))

pub on_agreeing_rows : (expr : TypedExpr) (one other : List Value) → Agree (λ k. looks_at k expr) one other → value_of expr one ≡ value_of expr other
unfolding value_of
on_agreeing_rows expr one other h = steady expr [] one other h

pub constant_everywhere : (expr : TypedExpr) (one other : List Value) → ((k : ℕ) → looks_at k expr ≡ false) → value_of expr one ≡ value_of expr other
unfolding value_of
constant_everywhere expr one other none = steady expr [] one other (λ k e. let never = none k in absurd (cc))

pub without_the_column : (expr : TypedExpr) (place : ℕ) (one other : List Value) → looks_at place expr ≡ false
    → ((k : ℕ) → (k ≡ place → ⊥) → slice_get one k ≡ slice_get other k) → value_of expr one ≡ value_of expr other
unfolding value_of
without_the_column expr place one other away same =
    steady expr [] one other (λ k e. same k (λ is. let never = ap (λ k. looks_at k expr) is ∙ away in absurd (cc)))

pub ruleset places = (on_agreeing_rows, constant_everywhere, without_the_column)
