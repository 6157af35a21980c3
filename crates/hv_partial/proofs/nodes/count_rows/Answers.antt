use Rattle.hv_value.specs.declared.sql_type.SqlType.TheVariants as type
use Rattle.hv_partial.specs.declared.sum.Sum.TheVariants as sum_of
use Rattle.hv_partial.proofs.LiftLaws.{rows_fit, rows_mean, sum_lifts}
use Rattle.hv_partial.proofs.nodes.count_rows.Goals as goal

pub returns : goal.returns
returns c =
    sum_lifts _ _ sum_of.Rows type.BigInt c.args.count c.args.expr.now c.in_ok-made.made c.in_ok-made.ensures.column c.in_ok-made.ensures.sums
    (rows_mean c.args.expr.now c.in-CountRows.is) rows_fit
