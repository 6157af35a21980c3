use Rattle.std.proofs.Common.{List, map, filter, rules, sym, subst}
use Rattle.hv_value.specs.declared.row.Row.{Row}
use Rattle.hv_typing.specs.Rows.{is_met, item_row, kept}
use Rattle.hv_order.specs.First.{IsEnough}
use Rattle.hv_workers.specs.Standing.{frames_standing, IsPartly}
use Rattle.hv_workers.proofs.Parted.{made_both, made_none, made_of, of_standing, partly_done}
use Rattle.hv_workers.proofs.parts.items_on.Goals as goal

pub returns : goal.returns
returns g c =
    let condition = c.args.condition.now in
    let once = c.args.distinct in
    let front = c.args.front in
    let items = c.args.items.now in
    let standing = c.args.standing.now in
    let rows = c.in_ok-rows.rows.items in
    let all = map (item_row items) (filter (is_met condition) (frames_standing standing)) in
    let partly : IsPartly once front rows all =
    of_standing (made_of condition once front items) (made_none condition once front items) (made_both condition once front items) standing _ c.len.result
    c.in_ok-answers.answers.items rows c.len.ensures c.in_ok-answers.ensures.ranges (λ from count answer says. search rules) c.in_ok-rows.ensures in
    subst (λ (made : List Row). IsEnough front made (kept once all)) (sym c.in_ok-made.ensures) (partly_done once front rows all partly)
