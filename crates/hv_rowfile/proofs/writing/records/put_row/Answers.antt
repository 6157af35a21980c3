use Rattle.hv_bytes.proofs.ItemLemmas.{all_map}
use Rattle.hv_rowfile.specs.Layout.{ValueFits}
use Rattle.hv_rowfile.specs.Writing.{IsValue}
use Rattle.hv_rowfile.proofs.RowLemmas.{row_can}
use Rattle.hv_rowfile.proofs.writing.records.put_row.Goals as goal

pub put_items-requires-clause-can : goal.put_items-requires-clause-can
put_items-requires-clause-can c = rw c.as_slice-values.ensures (row_can c.args.row.now c.requires.taken)

pub returns-clause-fits : goal.returns-clause-fits
returns-clause-fits c = all_map IsValue ValueFits (λ v h. h.1) c.args.row.now.values (rw c.as_slice-values.ensures at c.put_items.ensures.has)
