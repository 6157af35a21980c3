use Rattle.hv_rowfile.proofs.RowLemmas.{row_can}
use Rattle.hv_rowfile.proofs.writing.records.row_length.Goals as goal

pub items_length-requires-clause-can : goal.items_length-requires-clause-can
items_length-requires-clause-can c = rw c.as_slice.ensures (row_can c.args.row.now c.requires)
