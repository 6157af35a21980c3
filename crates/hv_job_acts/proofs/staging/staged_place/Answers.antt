use Rattle.std.proofs.Common.{ap, ◌∙◌}
use Rattle.hv_history.specs.State.{state_of, numbered}
use Rattle.hv_job_calls.proofs.Notes.{none-job}
use Rattle.hv_job_calls.proofs.AskedPlaces.{place-noted}
use Rattle.hv_job_calls.proofs.OnOk.{ok-weaker}
use Rattle.hv_job_acts.proofs.staging.staged_place.Goals as goal

pub returns-in-Some : goal.returns-in-Some
returns-in-Some c = record {
  place =
      ok-weaker c.place_noted.result _ _
      (λ place is. place-noted c.args.book.now.entries c.args.job.0 c.in-Some.note.now c.args.name.now c.args.bucket place
      (c.in-Some.ensures ∙ ap (λ ns. numbered ns c.args.job.0) c.jobs.ensures.jobs) is)
      c.place_noted.ensures.place;
}

pub returns-in-None : goal.returns-in-None
returns-in-None c = record {
  place = λ j at.
      none-job (state_of c.args.book.now.entries).jobs c.args.job.0 (c.in-None.ensures ∙ ap (λ ns. numbered ns c.args.job.0) c.jobs.ensures.jobs) j at;
}
