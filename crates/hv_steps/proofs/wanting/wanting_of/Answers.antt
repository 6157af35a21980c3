use Rattle.std.proofs.Common.{sym, ap, ◌∙◌}
use Rattle.hv_route.specs.Partitions.{partition_values}
use Rattle.hv_effect.specs.Needs.{parts_at}
use Rattle.hv_steps.proofs.SeenRows.{picked-needs}
use Rattle.hv_steps.proofs.wanting.wanting_of.Goals as goal

pub returns : goal.returns
returns c =
    picked-needs c.args.studied.now c.args.place c.in_ok-need.need c.as_slice.result.now
    (λ cs t. c.in_ok-need.ensures (partition_values cs t))
    (c.as_slice.ensures ∙ sym (ap parts_at c.requires))
