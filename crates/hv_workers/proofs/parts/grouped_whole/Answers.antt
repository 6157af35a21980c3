use Rattle.std.proofs.Common.{List, filter, map, ap, subst, ◌∙◌}
use Rattle.hv_typing.specs.Rows.{Frame, group_row, grouped, is_met, is_met_over}
use Rattle.hv_eval.specs.Frames.{frames_values}
use Rattle.hv_order.specs.First.{IsEnough}
use Rattle.hv_workers.specs.Standing.{frames_between}
use Rattle.hv_workers.proofs.StandingLaws.{whole_between}
use Rattle.hv_workers.proofs.parts.grouped_whole.Goals as goal

pub returns : goal.returns
returns c =
    let grouping = c.args.grouping.now in
    let standing = c.args.standing.now in
    subst (λ (frames : List Frame). IsEnough c.args.front c.in_ok-rows.rows.items (map (group_row c.args.items.now) (filter (is_met_over grouping.having) (grouped grouping.keys frames))))
    (ap frames_values c.as_slice.ensures.value ∙ c.in_ok-frames.ensures
    ∙ ap (filter (is_met c.args.condition.now)) (ap (frames_between standing 0) c.len.ensures ∙ whole_between standing))
    c.in_ok-rows.ensures
