use Rattle.std.proofs.Common.{arith}
use Rattle.hv_bytes.proofs.ItemLemmas.{item_within}
use Rattle.hv_bytes.proofs.items.items_length.Goals as goal

pub overflow_add-total : goal.overflow_add-total
overflow_add-total g c = omega (arith, item_within g.F.Field.spelling c.args.items.now c.loop-item.item-index c.item-item.result c.item-item.is c.loop-item-test.true)
