use Rattle.std.proofs.Common.{arith}
use Rattle.hv_bytes.proofs.ItemLemmas.{item_within}
use Rattle.hv_rowfile.specs.Layout.{rec_spelling}
use Rattle.hv_rowfile.proofs.writing.records.put_recs.Goals as goal

pub put_rec-requires-clause-room : goal.put_rec-requires-clause-room
put_rec-requires-clause-room c = omega (arith, item_within rec_spelling c.args.recs.now c.loop-rec.rec-index c.rec-item.result c.rec-item.is c.loop-rec-test.true)
