use Rattle.std.proofs.Common.{◌≡◌, List, ap, ◌∙◌, subst}
use Rattle.std.specs.Prelude.{IfOk}
use Rattle.hv_logic.specs.declared.meaning.Meaning.{Meaning}
use Rattle.hv_logic.specs.declared.catalog.Column.{Column}
use Rattle.hv_typing.specs.Columns.{columns_of}
use Rattle.hv_joins.specs.Sources.{frames_in}
use Rattle.hv_meaning.specs.Meaning.{stored_row}
use Rattle.hv_meaning.specs.Merging.{twice_found, merge_effect}
use Rattle.hv_effect.specs.Merged.{outcome_meant, merged_of}
use Rattle.hv_effect.proofs.Merges.{outcome-is-meant}
use Rattle.hv_effect.proofs.changes.merge_of.Goals as goal

pub returns : goal.returns
returns c =
    let info = c.args.info.now in
    let merge = c.args.merge.now in
    let rows = c.args.found.now in
    let sources = frames_in c.args.source.now in
    subst (λ (meant : Meaning). IfOk c.outcome_meant.result (λ meaning. meaning ≡ meant))
    (ap (outcome_meant info) (c.in_ok-outcome.ensures ∙ ap (λ (columns : List Column). merged_of (stored_row columns) merge sources rows) (c.as_slice.ensures ∙ c.in_ok-columns.ensures))
    ∙ outcome-is-meant info (twice_found merge sources rows) (merge_effect (stored_row (columns_of info.shape)) merge sources rows))
    c.outcome_meant.ensures
