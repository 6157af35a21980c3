use Rattle.std.proofs.Common.{List, ap, subst, ◌∙◌}
use Rattle.hv_typing.specs.Rows.{Frame}
use Rattle.hv_eval.specs.Frames.{frames_values}
use Rattle.hv_partial.specs.Merged.{AreSumsOf}
use Rattle.hv_workers.proofs.parts.sums_part.Goals as goal

pub returns : goal.returns
returns c =
    subst (λ (rows : List Frame). AreSumsOf c.args.sums.now rows c.in_ok-parts.parts.items)
    (ap frames_values c.as_slice.ensures.value ∙ c.in_ok-frames.ensures) c.in_ok-parts.ensures
