use Rattle.std.proofs.Common.{◌≡◌, sym, ap, ◌∙◌}
use Rattle.hv_expr.specs.declared.tree.TypedExpr.TheViews.{out-TypedExpr}
use Rattle.hv_typing.specs.Same.{some_same, branches_same, same_tree, is_case}
use Rattle.hv_grouping.proofs.Equations.{same-Case}
use Rattle.hv_grouping.proofs.same.+same.Goals as goal

pub same_tree-returns-in-Case : goal.same_tree-returns-in-Case
same_tree-returns-in-Case t c =
    let slice : c.as_slice-in-Case.result.now ≡ c.in-Case.branches = c.as_slice-in-Case.ensures in
    let made : c.is_case.result
    ≡ is_case c.in-Case.kind (some_same same_tree c.in-Case.operand) (branches_same same_tree c.as_slice-in-Case.result.now) (some_same same_tree c.in-Case.otherwise) (out-TypedExpr c.args.right.now)
    = c.is_case.ensures in
    made
    ∙ ap (λ branches. is_case c.in-Case.kind (some_same same_tree c.in-Case.operand) (branches_same same_tree branches) (some_same same_tree c.in-Case.otherwise) (out-TypedExpr c.args.right.now)) slice
    ∙ sym (same-Case c.in-Case.kind c.in-Case.operand c.in-Case.branches c.in-Case.otherwise c.args.right.now)
    ∙ sym (ap (λ left. same_tree left c.args.right.now) c.in-Case.is)
