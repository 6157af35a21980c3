use Rattle.std.proofs.Common.{rules}
use Rattle.std.specs.Ordering.{is_lt}
use Rattle.hv_value.specs.declared.row.Row.{Row}
use Rattle.std.proofs.lemmas.List.Sorted.{ranks_by, IsPermutation-trans}
use Rattle.std.proofs.lemmas.Fn.{always_returns_same}
use Rattle.hv_typing.specs.Order.{order_cmp}
use Rattle.hv_order.proofs.OrderKeys.{ordered_is, order_total}
use Rattle.hv_order.proofs.sort.Goals as goal

pub returns : goal.returns
returns c =
    let keys = c.args.keys.now in
    let rows = c.args.rows.now.items in
    let sorted = c.sort_by.new.self.items in
    ordered_is keys rows sorted (IsPermutation-trans rows c.arrange.new.rows.items sorted c.arrange.ensures c.sort_by.ensures.permutation)
    (c.in_ok-sort_by.ensures.sorted (λ (x y : Row). is_lt (order_cmp keys x y)) (ranks_by (order_total keys) (λ (x : Row). x))
    (always_returns_same _ _ _ (λ a r f' k. search rules)))
