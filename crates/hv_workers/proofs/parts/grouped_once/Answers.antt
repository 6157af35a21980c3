use Rattle.std.proofs.Common.{None, List, Option, filter, map, if◌then◌else◌, sym, subst}
use Rattle.hv_value.specs.declared.row.Row.{Row}
use Rattle.hv_expr.specs.declared.tree.TypedExpr.{TypedExpr}
use Rattle.hv_typing.specs.Rows.{group_row, grouped, is_met, is_met_over, kept}
use Rattle.hv_order.specs.declared.Front.{Front}
use Rattle.hv_order.specs.First.{IsEnough}
use Rattle.hv_workers.specs.Standing.{frames_standing}
use Rattle.hv_workers.proofs.Parted.{kept_enough}
use Rattle.hv_workers.proofs.parts.grouped_once.Goals as goal

pub returns : goal.returns
returns g c =
    let select = c.args.select.now in
    let grouping = c.args.grouping.now in
    let once = select.distinct in
    let front = c.args.front in
    let found = c.in_ok-found.found.items in
    let wanted = c.front_if-wanted.result in
    let groups = filter (is_met_over grouping.having) (grouped grouping.keys (filter (is_met select.filter) (frames_standing c.args.standing.now))) in
    let all = map (group_row select.items) groups in
    let shown : IsEnough wanted found all =
    subst (λ (items : List TypedExpr). IsEnough wanted found (map (group_row items) groups)) c.as_slice-items.ensures c.in_ok-found.ensures in
    let enough : IsEnough (if once then None else front) found all = subst (λ (f : Option Front). IsEnough f found all) c.front_if-wanted.ensures shown in
    subst (λ (rows : List Row). IsEnough front rows (kept once all)) (sym c.in_ok-rows.ensures) (kept_enough once front found all enough)
