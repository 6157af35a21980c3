-- The rows of a source are those over the rows that stand.
use Rattle.std.proofs.Common.{◌≡◌, List, subst}
use Rattle.std.specs.Prelude.{IfOk}
use Rattle.hv_typing.specs.Rows.{Frame}
use Rattle.hv_joins.specs.Sources.{frames_in}
use Rattle.hv_effect.proofs.Steps.{sources_found}
use Rattle.hv_effect.proofs.changes.source_over.Goals as goal

pub returns : goal.returns
returns c =
    subst (λ (frames : List Frame). IfOk c.rows_of_source.result (λ rows. frames_in rows ≡ frames))
    (sources_found c.args.tables.now c.args.source.now)
    c.rows_of_source.ensures
