use Rattle.std.proofs.Common.{ℕ, List, ap, ◌∙◌}
use Rattle.hv_history.specs.declared.entry.Entry.{Entry}
use Rattle.hv_journal.specs.Reading.{record_at}
use Rattle.hv_journal.proofs.Again.{record_again}
use Rattle.hv_bytes.proofs.Only.{gives_undamaged}
use Rattle.hv_journal.proofs.reading.records.read_record.Goals as goal

pub returns-clause-damaged : goal.returns-clause-damaged
returns-clause-damaged c = λ bad e rest has is. let found : Entry × List ℕ = (e, rest) in gives_undamaged (λ x. (x.0, x.1.now)) c.record_front.result (record_at c.args.bytes.now) found c.record_front.ensures.exact (ap record_at is ∙ record_again e rest has) bad
