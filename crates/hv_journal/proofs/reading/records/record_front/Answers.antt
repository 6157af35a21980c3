use Rattle.std.proofs.Common.{sym, ◌∙◌, arith}
use Rattle.hv_journal.proofs.Only.{record_front as record_parts}
use Rattle.hv_journal.proofs.reading.records.record_front.Goals as goal

pub returns-clause-found : goal.returns-clause-found
returns-clause-found c =
    let found = c.in_ok-entry.ensures.found in
    rw c.split_at.ensures.back (record_parts c.args.bytes.now c.in_ok-len.len c.in_ok-len.rest.now c.in_ok-entry.entry c.in_ok-len.ensures.found.0 c.in_ok-len.ensures.found.1 (omega arith) found.0 (sym c.split_at.ensures.front ∙ found.1))
