use Rattle.std.proofs.Common.{length, sym, ap, ◌∙◌}
use Rattle.hv_rowfile.proofs.Values.{plain_spelled, plain_can}
use Rattle.hv_rowfile.proofs.RowLemmas.{array_can, array_is}
use Rattle.hv_rowfile.proofs.writing.values.value_length.Goals as goal

pub items_length-requires-clause-can : goal.items_length-requires-clause-can
items_length-requires-clause-can c = rw c.as_slice.ensures (array_can c.in-Array.items (array_is c.args.value.now c.in-Array.items c.in-Array.is c.requires))

pub element_length-requires : goal.element_length-requires
element_length-requires c = plain_can c.args.value.now c.in_default.not-Array c.requires

pub returns-in_default : goal.returns-in_default
returns-in_default c = c.element_length.ensures ∙ ap length (sym (plain_spelled c.args.value.now c.in_default.not-Array))
