use Rattle.hv_journal.proofs.Books.{scan_only, scan_named}
use Rattle.hv_journal.proofs.journal.read_records.Goals as goal

pub returns-clause-only : goal.returns-clause-only
returns-clause-only c = scan_only c.args.bytes.now c.scan.result c.if-bytes-lt2.false c.scan.ensures.found c.scan.ensures.bad

pub returns-clause-named : goal.returns-clause-named
returns-clause-named c = scan_named c.args.bytes.now c.scan.result c.scan.ensures.found c.scan.ensures.bad
