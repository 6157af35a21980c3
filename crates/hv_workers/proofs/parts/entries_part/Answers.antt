use Rattle.std.proofs.Common.{◌∷◌, List, Option, filter, sym, ap, subst, ◌∙◌}
use Rattle.hv_value.specs.declared.value.Value.{Value}
use Rattle.hv_value.specs.declared.row.Row.{Row}
use Rattle.hv_typing.specs.Rows.{Frame, is_met}
use Rattle.hv_eval.specs.Frames.{frames_values}
use Rattle.hv_partial.specs.Merged.{AreGroupsOf}
use Rattle.hv_workers.specs.Standing.{frames_between}
use Rattle.hv_workers.proofs.parts.entries_part.Goals as goal

pub returns : goal.returns
returns c =
    let sums = c.args.sums.now in
    let keys = c.args.first.now ∷ c.args.more.now in
    let rows = filter (is_met c.args.condition.now) (frames_between c.args.standing.now c.args.from c.args.count) in
    let met : AreGroupsOf sums keys rows c.in_ok-found.found.items =
    subst (λ (seen : List Frame). AreGroupsOf sums keys seen c.in_ok-found.found.items)
    (ap frames_values c.as_slice.ensures.value ∙ c.in_ok-frames.ensures) c.in_ok-found.ensures in
    subst (λ (found : List (Row × (Option Frame × List Value))). AreGroupsOf sums keys rows found) (sym c.in_ok-entries.ensures) met
