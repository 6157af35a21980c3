use Rattle.hv_journal.proofs.Lengths.{touches_can}
use Rattle.hv_journal.proofs.writing.lengths.touches_length.Goals as goal

pub items_length-requires-clause-can : goal.items_length-requires-clause-can
items_length-requires-clause-can c = rw c.as_slice.ensures (touches_can c.args.touches.now c.requires)
