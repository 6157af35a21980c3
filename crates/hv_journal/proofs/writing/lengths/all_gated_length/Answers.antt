use Rattle.std.proofs.Common.{arith}
use Rattle.hv_bytes.proofs.ItemLemmas.{item_within}
use Rattle.hv_journal.specs.Writing.{gated_record}
use Rattle.hv_journal.proofs.writing.lengths.all_gated_length.Goals as goal

pub overflow_add-total : goal.overflow_add-total
overflow_add-total c = omega (arith, item_within gated_record c.args.entries.now c.loop-entry.entry-index c.entry-item.result c.entry-item.is c.loop-entry-test.true)
