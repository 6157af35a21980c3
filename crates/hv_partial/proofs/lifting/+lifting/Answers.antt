use Rattle.std.proofs.Common.{rules, ◌≡◌, [], ◌∷◌, ◌++◌, false, List, length, IfOk, sym, ap, subst, ◌∙◌}
use Rattle.std.proofs.lemmas.Bool.{eqb-true}
use Rattle.std.proofs.lemmas.List.{nil_from_length}
use Rattle.hv_value.specs.declared.sql_type.SqlType.TheVariants as type
use Rattle.hv_expr.specs.declared.tree.Branch.{Branch}
use Rattle.hv_expr.specs.declared.tree.Link.{Link}
use Rattle.hv_expr.specs.declared.tree.TypedExpr.{TypedExpr}
use Rattle.hv_expr.specs.declared.tree.TypedExpr.TheVariants as tree
use Rattle.hv_partial.specs.declared.sum.Sum.TheVariants as sum_of
use Rattle.hv_partial.specs.Lifts.{LiftsTo}
use Rattle.hv_partial.proofs.LiftLaws.{all_turn, branches_turn, links_turn, none_all, none_branches, none_links, maybe_none, maybe_some, lifts-Case, lifts-Chain, lifts-In, lifts-Many, lifts-One, lifts-Three, lifts-Two, lifts_nothing, computed_means, computed_fits, sum_lifts}
use Rattle.hv_partial.proofs.lifting.+lifting.Goals as goal

-- ---- nodes

pub one-returns : goal.one-returns
one-returns t c =
    let is : c.args.expr.now ≡ tree.One c.in-One.function c.in-One.kind c.get-x.result.now = c.in-One.is ∙ ap (tree.One c.in-One.function c.in-One.kind) (sym c.get-x.ensures) in
    lifts-One _ _ _ c.args.expr.now c.in_ok-made.made c.in-One.function c.in-One.kind c.get-x.result.now c.in_ok-new_x.new_x is c.in_ok-made.ensures c.in_ok-new_x.ensures

pub two-returns : goal.two-returns
two-returns t c =
    let is : c.args.expr.now ≡ tree.Two c.in-Two.function c.in-Two.kind c.get-x.result.now c.get-y.result.now =
    c.in-Two.is ∙ (λ i. tree.Two c.in-Two.function c.in-Two.kind (sym c.get-x.ensures i) (sym c.get-y.ensures i)) in
    lifts-Two _ _ _ c.args.expr.now c.in_ok-made.made _ c.in-Two.function c.in-Two.kind c.get-x.result.now c.get-y.result.now c.in_ok-new_x.new_x c.in_ok-new_y.new_y is c.in_ok-made.ensures
    c.in_ok-new_x.ensures c.in_ok-new_y.ensures

pub three-returns : goal.three-returns
three-returns t c =
    let is : c.args.expr.now ≡ tree.Three c.in-Three.function c.in-Three.kind c.get-x.result.now c.get-y.result.now c.get-z.result.now =
    c.in-Three.is ∙ (λ i. tree.Three c.in-Three.function c.in-Three.kind (sym c.get-x.ensures i) (sym c.get-y.ensures i) (sym c.get-z.ensures i)) in
    lifts-Three _ _ _ c.args.expr.now c.in_ok-made.made _ _ c.in-Three.function c.in-Three.kind c.get-x.result.now c.get-y.result.now c.get-z.result.now
    c.in_ok-new_x.new_x c.in_ok-new_y.new_y c.in_ok-new_z.new_z is c.in_ok-made.ensures c.in_ok-new_x.ensures c.in_ok-new_y.ensures c.in_ok-new_z.ensures

pub many-returns : goal.many-returns
many-returns t c =
    let is : c.args.expr.now ≡ tree.Many c.in-Many.function c.in-Many.kind c.as_slice-xs.result.now =
    c.in-Many.is ∙ ap (tree.Many c.in-Many.function c.in-Many.kind) (sym c.as_slice-xs.ensures) in
    lifts-Many _ _ _ c.args.expr.now c.in_ok-made.made c.in-Many.function c.in-Many.kind c.as_slice-xs.result.now c.in_ok-new_xs.new_xs is c.in_ok-made.ensures c.in_ok-new_xs.ensures

pub is_in-returns : goal.is_in-returns
is_in-returns t c =
    let is : c.args.expr.now ≡ tree.In c.get-x.result.now c.in-In.negated c.as_slice-xs.result.now =
    c.in-In.is ∙ (λ i. tree.In (sym c.get-x.ensures i) c.in-In.negated (sym c.as_slice-xs.ensures i)) in
    lifts-In _ _ _ c.args.expr.now c.in_ok-made.made _ c.get-x.result.now c.in_ok-value.value c.in-In.negated c.as_slice-xs.result.now c.in_ok-among.among is c.in_ok-made.ensures
    c.in_ok-value.ensures c.in_ok-among.ensures

pub chain-returns : goal.chain-returns
chain-returns t c =
    let is : c.args.expr.now ≡ tree.Chain c.in-Chain.kind c.get-x.result.now c.as_slice-steps.result.now =
    c.in-Chain.is ∙ (λ i. tree.Chain c.in-Chain.kind (sym c.get-x.ensures i) (sym c.as_slice-steps.ensures i)) in
    lifts-Chain _ _ _ c.args.expr.now c.in_ok-made.made _ c.in-Chain.kind c.get-x.result.now c.in_ok-new_x.new_x c.as_slice-steps.result.now c.in_ok-new_links.new_links is c.in_ok-made.ensures
    c.in_ok-new_x.ensures c.in_ok-new_links.ensures

pub case_of-returns : goal.case_of-returns
case_of-returns t c =
    let is : c.args.expr.now ≡ tree.Case c.in-Case.kind c.in-Case.compared c.as_slice-cases.result.now c.in-Case.rest =
    c.in-Case.is ∙ ap (λ (branches : List (Branch TypedExpr)). tree.Case c.in-Case.kind c.in-Case.compared branches c.in-Case.rest) (sym c.as_slice-cases.ensures) in
    lifts-Case _ _ _ c.args.expr.now c.in_ok-made.made _ _ c.in-Case.kind c.in-Case.compared c.in_ok-operand.operand c.as_slice-cases.result.now c.in_ok-branches.branches
    c.in-Case.rest c.in_ok-otherwise.otherwise is c.in_ok-made.ensures c.in_ok-operand.ensures c.in_ok-branches.ensures c.in_ok-otherwise.ensures

-- ---- aggregates

pub aggregate-returns : goal.aggregate-returns
aggregate-returns t c =
    let is : c.args.expr.now ≡ tree.Aggregate c.in-Aggregate.function false c.in-Aggregate.kind c.get.result.now =
    c.in-Aggregate.is ∙ (λ i. tree.Aggregate c.in-Aggregate.function (c.if-distinct.false i) c.in-Aggregate.kind (sym c.get.ensures i)) in
    subst (λ (e : TypedExpr). IfOk c.over.result (λ made. LiftsTo c.args.sums.now.items c.over.new.sums.items c.args.count e made)) (sym is) c.over.ensures

pub over-returns-in-Column : goal.over-returns-in-Column
over-returns-in-Column t c =
    subst (λ (e : TypedExpr). IfOk c.column_sum.result (λ made. LiftsTo c.args.sums.now.items c.column_sum.new.sums.items c.args.count (tree.Aggregate c.args.function false c.args.of e) made))
    (sym c.in-Column.is) c.column_sum.ensures

pub computed_sum-returns : goal.computed_sum-returns
computed_sum-returns t c =
    let argument = c.args.argument.now in
    let copy = c.in_ok-copy.copy in
    let numeric = c.in-Some.numeric in
    let none : c.new-inner.result.items ≡ [] = search rules in
    let inside = c.as_slice-made_inside.result.now in
    let nothing : inside ≡ [] = nil_from_length inside (eqb-true (length inside) 0 (sym c.is_empty.ensures ∙ c.if-not-is_empty.false)) in
    let still : c.lifted.new.sums.items ≡ [] = sym c.as_slice-made_inside.ensures.value ∙ nothing in
    sum_lifts _ _ (sum_of.Computed numeric copy) type.BigInt c.args.count (tree.Aggregate c.args.function false c.args.of argument) c.in_ok-made.made
    c.in_ok-made.ensures.column c.in_ok-made.ensures.sums
    (computed_means numeric c.args.function c.args.of argument copy c.in-Some.ensures (lifts_nothing _ _ argument copy none still c.in_ok-copy.ensures))
    (computed_fits numeric copy)

-- ---- parts that may be left out

pub maybe_lifted-returns-in-None : goal.maybe_lifted-returns-in-None
maybe_lifted-returns-in-None t c = rw c.in-None.is (maybe_none c.args.sums.now.items c.args.count)

pub maybe_lifted-returns-in_ok-made-in-Some : goal.maybe_lifted-returns-in_ok-made-in-Some
maybe_lifted-returns-in_ok-made-in-Some t c =
    rw (c.in-Some.is, ← c.get-x.ensures) (maybe_some _ _ c.args.count c.get-x.result.now c.in_ok-made-in-Some.made c.in_ok-made-in-Some.ensures)

-- ---- lists

pub all_lifted-loop-expr-init : goal.all_lifted-loop-expr-init
all_lifted-loop-expr-init t c = none_all c.args.sums.now.items c.args.count c.in_ok-made.made.items (search rules)

pub all_lifted-loop-expr-preserved : goal.all_lifted-loop-expr-preserved
all_lifted-loop-expr-preserved t c =
    let pushed : c.push.new.self.items ≡ c.loop-expr.made.items ++ c.in_ok-next.next ∷ [] = search rules in
    all_turn _ _ _ c.args.count c.loop-expr.expr-index c.args.exprs.now c.loop-expr.made.items c.push.new.self.items c.expr-item.result c.in_ok-next.next
    c.loop-expr-test.true c.expr-item.is pushed c.loop-expr.invariant c.in_ok-next.ensures

pub links_lifted-loop-link-init : goal.links_lifted-loop-link-init
links_lifted-loop-link-init t c = none_links c.args.sums.now.items c.args.count c.in_ok-made.made.items (search rules)

pub links_lifted-loop-link-preserved : goal.links_lifted-loop-link-preserved
links_lifted-loop-link-preserved t c =
    let link = c.link-item.result in
    let made : Link TypedExpr = record { operator = link.operator; operand = c.in_ok-operand.operand } in
    let pushed : c.push.new.self.items ≡ c.loop-link.made.items ++ made ∷ [] = search rules in
    links_turn _ _ _ c.args.count c.loop-link.link-index c.args.links.now c.loop-link.made.items c.push.new.self.items link c.in_ok-operand.operand
    c.loop-link-test.true c.link-item.is pushed c.loop-link.invariant c.in_ok-operand.ensures

pub branches_lifted-loop-branch-init : goal.branches_lifted-loop-branch-init
branches_lifted-loop-branch-init t c = none_branches c.args.sums.now.items c.args.count c.in_ok-made.made.items (search rules)

pub branches_lifted-loop-branch-preserved : goal.branches_lifted-loop-branch-preserved
branches_lifted-loop-branch-preserved t c =
    let branch = c.branch-item.result in
    let made : Branch TypedExpr = record { condition = c.in_ok-condition.condition; value = c.in_ok-value.value } in
    let pushed : c.push.new.self.items ≡ c.loop-branch.made.items ++ made ∷ [] = search rules in
    branches_turn _ _ _ c.args.count c.loop-branch.branch-index _ c.args.branches.now c.loop-branch.made.items c.push.new.self.items branch c.in_ok-condition.condition c.in_ok-value.value
    c.loop-branch-test.true c.branch-item.is pushed c.loop-branch.invariant c.in_ok-condition.ensures c.in_ok-value.ensures
