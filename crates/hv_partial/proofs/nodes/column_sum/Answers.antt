use Rattle.std.proofs.Common.{false, length, ap, ◌∙◌}
use Rattle.hv_expr.specs.declared.tree.TypedExpr.TheVariants as tree
use Rattle.hv_partial.specs.declared.sum.Sum.TheVariants as sum_of
use Rattle.hv_partial.specs.Sums.{kind_over}
use Rattle.hv_partial.proofs.LiftLaws.{column_means, column_sum_fits, sum_lifts}
use Rattle.hv_partial.proofs.nodes.column_sum.Goals as goal

pub returns : goal.returns
returns c =
    let function = c.args.function in
    let place = c.args.place in
    let kind = c.args.kind in
    sum_lifts _ _ (sum_of.Column function place kind) (kind_over function kind) c.args.count (tree.Aggregate function false c.args.of (tree.Column place kind)) c.in_ok-made.made
    (c.in_ok-made.ensures.column ∙ ap (λ k. tree.Column (length c.args.sums.now.items) k) c.kind_over-shown.ensures)
    c.in_ok-made.ensures.sums (column_means function c.args.of place kind) (column_sum_fits function place kind)
