use Rattle.std.proofs.Common.{ap, ◌∙◌}
use Rattle.hv_jobs.specs.hv_history.specs.State.{state_of, numbered}
use Rattle.hv_tallies.proofs.NoteLemmas.{job-some, job-none}
use Rattle.hv_tallies.proofs.CoveredLemmas.{then-ok}
use Rattle.hv_tallies.proofs.covering.put_covered.Goals as goal

pub returns-in-Some : goal.returns-in-Some
returns-in-Some c =
    then-ok c.put_noted.result c.put_noted.ensures
    (λ put j at.
    let jobs = (state_of c.args.book.now.entries).jobs in
    put c.args.job.0 j at (job-some c.in-Some.note.now jobs c.args.job.0 j (c.in-Some.ensures ∙ ap (λ ns. numbered ns c.args.job.0) c.jobs.ensures.jobs) at))

pub returns-in-None : goal.returns-in-None
returns-in-None c = λ j at.
    let jobs = (state_of c.args.book.now.entries).jobs in
    job-none jobs c.args.job.0 j (c.in-None.ensures ∙ ap (λ ns. numbered ns c.args.job.0) c.jobs.ensures.jobs) at
