use Rattle.hv_journal.proofs.Books.{reads_once, journal_reads_back, leads_len}
use Rattle.hv_journal.proofs.laws.one_book.Goals as goal

pub returns-clause-once : goal.returns-clause-once
returns-clause-once c = reads_once

pub returns-clause-written : goal.returns-clause-written
returns-clause-written c = journal_reads_back

pub returns-clause-place : goal.returns-clause-place
returns-clause-place c = leads_len
