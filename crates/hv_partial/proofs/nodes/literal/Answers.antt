use Rattle.std.proofs.Common.{◌≡◌, ap, ◌∙◌}
use Rattle.hv_value.specs.declared.value.Value.{Value}
use Rattle.hv_expr.specs.declared.tree.TypedExpr.TheVariants as tree
use Rattle.hv_partial.proofs.LiftLaws.{literal_lifts}
use Rattle.hv_partial.proofs.nodes.literal.Goals as goal

pub returns : goal.returns
returns c =
    let same : c.in_ok-made.made ≡ tree.Literal c.in-Literal.value c.in-Literal.kind =
    c.in_ok-made.ensures ∙ ap (λ (v : Value). tree.Literal v c.in-Literal.kind) c.in_ok-copy.ensures.same in
    literal_lifts c.args.count c.in-Literal.value c.in-Literal.kind c.args.expr.now c.in_ok-made.made c.in-Literal.is same
