use Rattle.std.proofs.Common.{◌∷◌, map, ap, ◌∙◌}
use Rattle.hv_eval.specs.Frames.{frames_values}
use Rattle.hv_exec.proofs.Grouped.{chains_are_groups}
use Rattle.hv_exec.proofs.groups.chains_by.Goals as goal

pub returns : goal.returns
returns c = ap (map frames_values) c.in_ok-groups.ensures.kept ∙ chains_are_groups (c.args.first.now ∷ c.args.more.now) c.args.frames.now
