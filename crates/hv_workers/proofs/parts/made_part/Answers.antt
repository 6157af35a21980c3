use Rattle.std.proofs.Common.{None, List, Option, map, filter, if◌then◌else◌, sym, ap, subst, ◌∙◌}
use Rattle.hv_value.specs.declared.row.Row.{Row}
use Rattle.hv_typing.specs.Rows.{Frame, is_met, item_row}
use Rattle.hv_eval.specs.Frames.{frames_values}
use Rattle.hv_order.specs.declared.Front.{Front}
use Rattle.hv_order.specs.First.{IsEnough}
use Rattle.hv_workers.specs.Standing.{frames_between, IsPartly}
use Rattle.hv_workers.proofs.Parted.{partly_part}
use Rattle.hv_workers.proofs.parts.made_part.Goals as goal

pub returns : goal.returns
returns c =
    let once = c.args.distinct in
    let front = c.args.front in
    let items = c.args.items.now in
    let rows = c.in_ok-rows.rows.items in
    let all = map (item_row items) (filter (is_met c.args.condition.now) (frames_between c.args.standing.now c.args.from c.args.count)) in
    let seen : IsEnough c.front_if-wanted.result rows all =
    subst (λ (frames : List Frame). IsEnough c.front_if-wanted.result rows (map (item_row items) frames))
    (ap frames_values c.as_slice.ensures.value ∙ c.in_ok-frames.ensures) c.in_ok-rows.ensures in
    let wanted : IsEnough (if once then None else front) rows all = subst (λ (f : Option Front). IsEnough f rows all) c.front_if-wanted.ensures seen in
    subst (λ (made : List Row). IsPartly once front made all) (sym c.in_ok-made.ensures) (partly_part once front rows all wanted)
