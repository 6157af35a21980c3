use Rattle.std.proofs.Common.{true≢false, sym, ap, ◌∙◌}
use Rattle.hv_history.specs.State.{numbered}
use Rattle.hv_job_calls.proofs.OnOk.{ok-weaker}
use Rattle.hv_job_acts.proofs.Noted.{note-now, none-now}
use Rattle.hv_job_acts.proofs.covering.are_gone.Goals as goal

pub returns-in-Some : goal.returns-in-Some
returns-in-Some g c =
    let noted = note-now c.args.house.now c.args.job.0 c.book.result.now.entries c.book.ensures.entries c.in-Some.note.now
    (c.in-Some.ensures ∙ ap (λ ns. numbered ns c.args.job.0) c.jobs.ensures.jobs) in
    record {
      gone = ok-weaker c.are_gone_noted.result _ _ (λ gone says so j at. says so j at (noted j at)) c.are_gone_noted.ensures.gone;
      left = ok-weaker c.are_gone_noted.result _ _ (λ gone says so j at plain. says so j at (noted j at) plain) c.are_gone_noted.ensures.left;
    }

pub returns-in-None : goal.returns-in-None
returns-in-None g c = record {
  gone = λ so. absurd (true≢false (sym so));
  left = λ so j at.
      none-now c.args.house.now c.args.job.0 c.book.result.now.entries c.book.ensures.entries
      (c.in-None.ensures ∙ ap (λ ns. numbered ns c.args.job.0) c.jobs.ensures.jobs) j at;
}
