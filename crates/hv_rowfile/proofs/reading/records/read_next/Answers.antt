use Rattle.std.proofs.Common.{ℕ, List, ap, ◌∙◌}
use Rattle.hv_rowfile.specs.declared.record.Rec.{Rec}
use Rattle.hv_rowfile.specs.Reading.{next_at}
use Rattle.hv_rowfile.proofs.Again.{next_again}
use Rattle.hv_bytes.proofs.Only.{gives_undamaged}
use Rattle.hv_rowfile.proofs.reading.records.read_next.Goals as goal

pub returns-clause-damaged : goal.returns-clause-damaged
returns-clause-damaged c = λ bad r after next is. let found : Rec × List ℕ = (r, after) in gives_undamaged (λ x. (x.0, x.1.now)) c.next_of.result (next_at c.args.deletes c.args.bucket c.args.before c.args.bytes.now) found c.next_of.ensures.exact (ap (next_at c.args.deletes c.args.bucket c.args.before) is ∙ next_again c.args.deletes c.args.bucket c.args.before r after next) bad
