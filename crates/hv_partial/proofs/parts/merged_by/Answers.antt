use Rattle.std.proofs.Common.{◌∷◌, [], ◌∙◌}
use Rattle.hv_partial.proofs.MergeLaws.{kept_groups}
use Rattle.hv_partial.proofs.parts.merged_by.Goals as goal

pub returns : goal.returns
returns c = λ rows are.
    c.in_ok-kept.ensures ∙ (λ i. (are [] i).1) ∙ kept_groups c.args.sums.now (c.args.first.now ∷ c.args.more.now) rows
