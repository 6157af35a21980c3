use Rattle.std.proofs.Common.{rules, ◌≡◌, ◌+◌}
use Rattle.hv_partial.proofs.LiftLaws.{column_lifts}
use Rattle.hv_partial.proofs.nodes.column.Goals as goal

pub returns : goal.returns
returns c =
    let at : c.in-Some.behind ≡ c.in-Column.place + c.args.count = search rules in
    column_lifts c.args.count c.in-Column.place c.in-Some.behind c.in-Column.kind c.args.expr.now c.in_ok-made.made c.in-Column.is c.in_ok-made.ensures at
