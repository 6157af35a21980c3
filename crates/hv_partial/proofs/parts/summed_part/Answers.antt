use Rattle.std.proofs.Common.{◌≡◌, ◌∷◌, [], ◌++◌, List, Option, sym, subst, ◌∙◌}
use Rattle.hv_value.specs.declared.value.Value.{Value}
use Rattle.hv_typing.specs.Rows.{Frame}
use Rattle.hv_eval.specs.Frames.{frames_values}
use Rattle.hv_partial.specs.Merged.{AreSumsOf}
use Rattle.hv_partial.proofs.MergeLaws.{sums_one}
use Rattle.hv_partial.proofs.parts.summed_part.Goals as goal

pub returns : goal.returns
returns c =
    let sums = c.args.sums.now in
    let rows = frames_values c.args.rows.now in
    subst (λ (parts : List (Option Frame × List Value)). AreSumsOf sums rows parts)
    (sym (c.in_ok-push.ensures.items ∙ (λ i. c.new-parts.ensures.items i ++ c.in_ok-kept.ensures i ∷ []))) (sums_one sums rows)
