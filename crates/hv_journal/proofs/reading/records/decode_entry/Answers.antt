use Rattle.std.proofs.Common.{ap, ◌∙◌}
use Rattle.hv_journal.specs.Reading.{whole_of}
use Rattle.hv_journal.proofs.Again.{whole_again}
use Rattle.hv_bytes.proofs.Only.{gives_only, gives_undamaged}
use Rattle.hv_journal.proofs.reading.records.decode_entry.Goals as goal

pub returns-clause-only : goal.returns-clause-only
returns-clause-only c = λ e has is. gives_only (λ d. d) c.whole.result (whole_of c.args.body.now) e c.whole.ensures.exact (ap whole_of is ∙ whole_again e has)

pub returns-clause-damaged : goal.returns-clause-damaged
returns-clause-damaged c = λ bad e has is. gives_undamaged (λ d. d) c.whole.result (whole_of c.args.body.now) e c.whole.ensures.exact (ap whole_of is ∙ whole_again e has) bad
