use Rattle.std.proofs.Common.{arith}
use Rattle.hv_bytes.proofs.ItemLemmas.{item_within}
use Rattle.hv_journal.specs.Writing.{gated_record}
use Rattle.hv_journal.proofs.writing.records.put_all_gated.Goals as goal

pub put_gated-requires-clause-room : goal.put_gated-requires-clause-room
put_gated-requires-clause-room c = omega (arith, item_within gated_record c.args.entries.now c.loop-entry.entry-index c.entry-item.result c.entry-item.is c.loop-entry-test.true)
