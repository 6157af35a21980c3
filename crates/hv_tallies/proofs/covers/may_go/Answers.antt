use Rattle.std.proofs.Common.{ap, ◌∙◌}
use Rattle.hv_jobs.specs.hv_history.specs.State.{state_of, numbered}
use Rattle.hv_tallies.specs.Covered.{covers_note}
use Rattle.hv_tallies.proofs.NoteLemmas.{job-some, job-none, covers-same}
use Rattle.hv_tallies.proofs.covers.may_go.Goals as goal

pub returns-in-Some : goal.returns-in-Some
returns-in-Some c = record {
  covered = λ j at.
      let jobs = (state_of c.args.book.now.entries).jobs in
      let note = job-some c.in-Some.note.now jobs c.args.job.0 j (c.in-Some.ensures ∙ ap (λ ns. numbered ns c.args.job.0) c.jobs.ensures.jobs) at in
      c.covers.ensures ∙ ap (λ n. covers_note n c.args.name.now) note ∙ covers-same j c.args.name.now;
}

pub returns-in-None : goal.returns-in-None
returns-in-None c = record {
  covered = λ j at.
      let jobs = (state_of c.args.book.now.entries).jobs in
      job-none jobs c.args.job.0 j (c.in-None.ensures ∙ ap (λ ns. numbered ns c.args.job.0) c.jobs.ensures.jobs) at;
}
