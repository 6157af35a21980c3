use Rattle.std.proofs.Common.{arith}
use Rattle.hv_bytes.proofs.ItemLemmas.{item_within}
use Rattle.hv_bytes.proofs.items.put_items.Goals as goal

pub put-requires-clause-room : goal.put-requires-clause-room
put-requires-clause-room g c = omega (arith, item_within g.F.Field.spelling c.args.items.now c.loop-item.item-index c.item-item.result c.item-item.is c.loop-item-test.true)
