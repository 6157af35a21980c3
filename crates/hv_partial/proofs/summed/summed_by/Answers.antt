use Rattle.std.proofs.Common.{◌∷◌, ◌∙◌}
use Rattle.hv_partial.proofs.KeptLaws.{groups_summed}
use Rattle.hv_partial.proofs.summed.summed_by.Goals as goal

pub returns : goal.returns
returns c = c.in_ok-groups.ensures.kept ∙ groups_summed c.args.sums.now (c.args.first.now ∷ c.args.more.now) c.args.rows.now
