use Rattle.std.proofs.Common.{sym, arith}
use Rattle.hv_bytes.proofs.ItemLemmas.{all_map}
use Rattle.hv_bytes.proofs.WritingLemmas.{appends_then, appends_as}
use Rattle.hv_rowfile.specs.Layout.{ElementFits}
use Rattle.hv_rowfile.specs.Writing.{IsElement}
use Rattle.hv_rowfile.proofs.Values.{spelled-Array, fits-Array}
use Rattle.hv_rowfile.proofs.RowLemmas.{array_count, array_can}
use Rattle.hv_rowfile.proofs.writing.values.put_array.Goals as goal

pub overflow_cast-items : goal.overflow_cast-items
overflow_cast-items c = omega (arith, array_count c.args.items.now c.requires.can)

pub put_items-requires-clause-can : goal.put_items-requires-clause-can
put_items-requires-clause-can c = array_can c.args.items.now c.requires.can

pub returns-clause-appended : goal.returns-clause-appended
returns-clause-appended c = appends_as _ _ _ _ (sym (spelled-Array c.args.items.now)) (appends_then _ _ _ _ _ (appends_then _ _ _ _ _ c.put_byte.ensures c.put_u32.ensures.appended) c.put_items.ensures.appended)

pub returns-clause-fits : goal.returns-clause-fits
returns-clause-fits c =
    let items = c.args.items.now in
    fits-Array items (array_count items c.requires.can) (all_map IsElement ElementFits (λ v h. h.1) items c.put_items.ensures.has)
