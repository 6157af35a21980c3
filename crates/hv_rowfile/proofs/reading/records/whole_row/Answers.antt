use Rattle.std.proofs.Common.{◌≡◌, []}
use Rattle.hv_bytes.proofs.ItemLemmas.{all_map}
use Rattle.hv_bytes.proofs.Only.{empty_of}
use Rattle.hv_rowfile.specs.Layout.{ValueIsTaken, ValueFits}
use Rattle.hv_rowfile.specs.Writing.{IsValue}
use Rattle.hv_rowfile.proofs.Only.{row_whole}
use Rattle.hv_rowfile.proofs.reading.records.whole_row.Goals as goal

pub returns-clause-found : goal.returns-clause-found
returns-clause-found c =
    let found = c.in_ok-values.ensures.found in
    let count = c.in_ok-count.ensures.found in
    let values = c.in_ok-values.values.items in
    let none : c.in_ok-values.rest.now ≡ [] = empty_of c.in_ok-values.rest.now c.is_empty.result c.is_empty.ensures c.if-not-is_empty.false in
    let row = row_whole c.args.bytes.now c.in_ok-count.count c.in_ok-count.rest.now values c.in_ok-values.rest.now count.0 count.1 found.0 found.2 none in
    rw c.from_vec.ensures (all_map IsValue ValueIsTaken (λ v h. h.0) values found.1, all_map IsValue ValueFits (λ v h. h.1) values found.1, row.0, row.1)
