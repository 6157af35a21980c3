use Rattle.std.proofs.Common.{sym, ◌∙◌, arith}
use Rattle.hv_rowfile.proofs.Only.{row_parts}
use Rattle.hv_rowfile.proofs.reading.records.read_row.Goals as goal

pub returns-clause-found : goal.returns-clause-found
returns-clause-found c =
    let found = c.in_ok-row.ensures.found in
    let parts = row_parts c.args.bytes.now c.in_ok-len.len c.in_ok-len.rest.now c.in_ok-row.row (omega arith) c.in_ok-len.ensures.found.1 (omega arith) (sym c.split_at.ensures.front ∙ found.2) found.3 found.0 in
    rw c.split_at.ensures.back (parts.0, found.1, parts.1)
