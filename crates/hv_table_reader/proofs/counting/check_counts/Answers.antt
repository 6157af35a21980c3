use Rattle.std.proofs.Common.{sym, ◌∙◌, true≢false}
use Rattle.hv_table_reader.proofs.Counts.{of-asked}
use Rattle.hv_table_reader.proofs.counting.check_counts.Goals as goal

pub returns-then-not-asked-clause-counted : goal.returns-then-not-asked-clause-counted
returns-then-not-asked-clause-counted c = λ sheets are own is. absurd (true≢false (sym is ∙ c.if-not-asked.true))

pub returns-in-Some-clause-asks : goal.returns-in-Some-clause-asks
returns-in-Some-clause-asks c = of-asked c.args.asked c.damaged.result c.if-not-asked.false
