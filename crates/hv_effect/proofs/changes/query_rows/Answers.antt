-- The rows that a query is run over are those that stand.
use Rattle.std.proofs.Common.{ap, ◌∙◌}
use Rattle.hv_typing.specs.Rows.{rows_of}
use Rattle.hv_effect.proofs.Steps.{tables-found}
use Rattle.hv_effect.proofs.changes.query_rows.Goals as goal

pub returns : goal.returns
returns c = c.in_ok-rows.ensures ∙ ap (rows_of c.args.query.now) (tables-found c.args.tables.now)
