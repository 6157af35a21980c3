use Rattle.std.proofs.Common.{◌≡◌, ◌∷◌, ◌≤◌, List, length, sym, ap, ◌∙◌, subst}
use Rattle.hv_value.specs.declared.row.Row.{Row}
use Rattle.hv_typing.specs.Order.{order_cmp}
use Rattle.hv_order.specs.First.{first_ordered}
use Rattle.hv_order.proofs.OrderKeys.{added, trimmed, take-sorted, trimmed_bounded}
use Rattle.hv_order.proofs.add.Goals as goal

pub returns-then-is_beyond-clause-same : goal.returns-then-is_beyond-clause-same
returns-then-is_beyond-clause-same c rows same =
    let keys = c.args.keys.now in
    let n = c.args.count in
    sym (subst (λ (kept : List Row). first_ordered keys n (c.args.row ∷ kept) ≡ first_ordered keys n kept) c.as_slice.ensures.value (c.is_beyond.ensures c.if-is_beyond.true))
    ∙ take-sorted (order_cmp keys) n c.args.row c.args.kept.now.items rows same

pub returns-then-len-gt64-clause-same : goal.returns-then-len-gt64-clause-same
returns-then-len-gt64-clause-same c rows same =
    ap (first_ordered c.args.keys.now c.args.count) c.in_ok-trim.ensures
    ∙ trimmed c.args.keys.now c.args.count c.push.new.self.items
    ∙ ap (first_ordered c.args.keys.now c.args.count) c.in_ok-push.ensures.items
    ∙ added c.args.keys.now c.args.count c.args.row c.args.kept.now.items rows same

pub returns-then-len-gt64-clause-bounded : goal.returns-then-len-gt64-clause-bounded
returns-then-len-gt64-clause-bounded c h =
    let full = c.is_full.ensures h in
    trimmed_bounded c.args.keys.now c.args.count c.push.new.self.items c.trim.new.rows.items c.in_ok-trim.ensures full.0
    (subst (λ (rows : List Row). c.args.count ≤ length rows) c.as_slice-then-len-gt64.ensures.value full.1)

pub returns-clause-same : goal.returns-clause-same
returns-clause-same c rows same =
    ap (first_ordered c.args.keys.now c.args.count) c.in_ok-push.ensures.items
    ∙ added c.args.keys.now c.args.count c.args.row c.args.kept.now.items rows same
