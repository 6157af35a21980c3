use Rattle.std.proofs.Common.{arith}
use Rattle.hv_journal.proofs.Lengths.{length-touches, touches_count, touches_can}
use Rattle.hv_journal.proofs.writing.fields.put_touches.Goals as goal

pub overflow_cast-len : goal.overflow_cast-len
overflow_cast-len c = omega (arith, length-touches c.args.touches.now, touches_count c.args.touches.now)

pub put_items-requires-clause-can : goal.put_items-requires-clause-can
put_items-requires-clause-can c = rw c.as_slice.ensures (touches_can c.args.touches.now c.requires.short)
