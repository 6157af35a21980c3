use Rattle.std.proofs.Common.{ap, ◌∙◌}
use Rattle.hv_history.specs.State.{numbered}
use Rattle.hv_job_acts.proofs.Cleaned.{cleans-same, cleans-none}
use Rattle.hv_job_acts.proofs.covering.cleans.Goals as goal

pub returns-in-Some : goal.returns-in-Some
returns-in-Some c =
    cleans-same c.args.table c.args.partition.now c.args.name.now c.args.book.now.entries c.args.number c.in-Some.note.now c.both.result
    c.is_cleaned_of.result c.may_go.result (c.in-Some.ensures ∙ ap (λ ns. numbered ns c.args.number) c.jobs.ensures.jobs) c.both.ensures
    c.is_cleaned_of.ensures c.may_go.ensures.covered

pub returns-in-None : goal.returns-in-None
returns-in-None c =
    cleans-none c.args.table c.args.partition.now c.args.name.now c.args.book.now.entries c.args.number
    (c.in-None.ensures ∙ ap (λ ns. numbered ns c.args.number) c.jobs.ensures.jobs)
