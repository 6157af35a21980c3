use Rattle.hv_journal.proofs.Forms.{one_record}
use Rattle.hv_journal.proofs.Forms.{one_spelling as one_body}
use Rattle.hv_journal.proofs.Lengths.{length-record}
use Rattle.hv_journal.proofs.laws.one_spelling.Goals as goal

pub returns-clause-body : goal.returns-clause-body
returns-clause-body c = one_body

pub returns-clause-whole : goal.returns-clause-whole
returns-clause-whole c = one_record

pub returns-clause-length : goal.returns-clause-length
returns-clause-length c = length-record
