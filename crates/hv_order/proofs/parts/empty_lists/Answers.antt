use Rattle.std.proofs.Common.{◌∷◌, [], length, length-append, ap, arith, ◌∙◌}
use Rattle.hv_order.specs.Parts.{rows_in}
use Rattle.hv_order.proofs.Seams.{none_more}
use Rattle.hv_order.proofs.parts.empty_lists.Goals as goal

pub loop-list-preserved : goal.loop-list-preserved
loop-list-preserved c =
    let lists = c.loop-list.lists.items in
    let long = ap length c.in_ok-push.ensures.items ∙ length-append lists (c.new.result ∷ []) in (
      ap rows_in c.in_ok-push.ensures.items ∙ none_more lists c.new.result c.loop-list.invariant.0 c.new.ensures.items,
      omega (arith, long, c.loop-list.invariant.1),
    )
