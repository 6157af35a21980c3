use Rattle.std.proofs.Common.{◌∙◌}
use Rattle.std.proofs.lemmas.List.Sorted.{IsPermutation-trans}
use Rattle.std.proofs.lemmas.Result.{IfOk-weaker}
use Rattle.hv_order.specs.Parts.{rows_in}
use Rattle.hv_order.proofs.OrderKeys.{ordered_is}
use Rattle.hv_order.proofs.Seams.{ordered_again}
use Rattle.hv_order.proofs.parts.sorted_on.Goals as goal

pub returns-then-in_order : goal.returns-then-in_order
returns-then-in_order g c =
    let rows = c.args.rows.items in
    let found = c.in_ok-together.together.rows.items in
    ordered_is c.args.keys.now rows found
    (IsPermutation-trans rows (rows_in c.in_ok-lists.lists.items) found c.in_ok-lists.ensures c.in_ok-together.ensures.moves)
    (c.in_ok-together.ensures.sorted c.if-in_order.true)

pub returns : goal.returns
returns g c =
    let rows = c.args.rows.items in
    let found = c.in_ok-together.together.rows.items in
    IfOk-weaker c.sorted_list.result _ _
    (λ sorted is. is ∙ ordered_again c.args.keys.now rows found
    (IsPermutation-trans rows (rows_in c.in_ok-lists.lists.items) found c.in_ok-lists.ensures c.in_ok-together.ensures.moves))
    c.sorted_list.ensures
