use Rattle.std.proofs.Common.{ap, ◌∙◌}
use Rattle.std.specs.Prelude.{Bool, not, ◌==◌, ◌&&◌}
use Rattle.hv_queue.specs.hv_history.specs.State.{state_of, numbered}
use Rattle.hv_queue.specs.hv_history.specs.JobsFit.{PublishedFits}
use Rattle.hv_job_fits.proofs.AskLemmas.{same-law}
use Rattle.hv_job_fits.proofs.WorkLemmas.{none-of-job, published-law}
use Rattle.hv_job_fits.proofs.working.published_fits.Goals as goal

pub returns-in-Some : goal.returns-in-Some
returns-in-Some c =
    let state = state_of c.args.book.now.entries in
    let working = c.is_working-working.result in
    let live = c.is_live-live.result in
    let merged = c.pieces-merged.result in
    let empty = c.is_empty-empty.result in
    let next = c.next_txn-next.result.0 in
    record {
      fits =
          same-law _ c.both.result _
          (c.both.ensures
          ∙ ap (λ b. working && b) (c.both-there.ensures
          ∙ ap (λ b. live && b) (c.both-some.ensures
          ∙ ap (λ b. not empty && b) (c.both-whole.ensures ∙ ap (λ (b : Bool). b && (c.args.mark.0 == next)) c.both-ends.ensures))))
          (published-law state c.args.job.0 c.in-Some.note working c.is_working-working.ensures merged empty c.pieces-merged.ensures.pieces c.is_empty-empty.ensures
          c.args.low.0 c.args.high.0 c.args.mark.0 next live c.is_live-live.ensures c.next_txn-next.ensures.next c.in-Some.ensures.note);
    }

pub returns-in-None : goal.returns-in-None
returns-in-None c =
    let state = state_of c.args.book.now.entries in
    record { fits = none-of-job (PublishedFits state c.args.low.0 c.args.high.0 c.args.mark.0) (numbered state.jobs c.args.job.0) c.in-None.ensures.note }
