use Rattle.hv_rowfile.proofs.Values.{array_parts}
use Rattle.hv_rowfile.proofs.reading.values.read_array.Goals as goal

pub returns-clause-found : goal.returns-clause-found
returns-clause-found c =
    let found = c.in_ok-items.ensures.found in
    let count = c.in_ok-count.ensures.found in
    rw c.from_vec.ensures (array_parts c.args.bytes.now c.in_ok-count.count c.in_ok-count.rest.now c.in_ok-items.items.items c.in_ok-items.rest.now count.0 count.1 found.0 found.1 found.2)
