use Rattle.std.proofs.Common.{sym, ap, ◌∙◌}
use Rattle.std.specs.Ordering.{is_lt}
use Rattle.hv_order.proofs.OrderKeys.{beyond, false_of}
use Rattle.hv_order.proofs.is_beyond.Goals as goal

pub returns : goal.returns
returns c h =
    beyond c.args.keys.now c.args.count c.args.row.now c.index-rows-count.result c.args.rows.now c.requires.bounded c.index-rows-count.is
    (sym (c.is_lt.ensures ∙ ap is_lt c.compare.ensures) ∙ false_of c.is_lt.result h)
