use Rattle.std.proofs.Common.{ap, ◌∙◌}
use Rattle.hv_queue.specs.hv_history.specs.State.{state_of, numbered}
use Rattle.hv_job_fits.specs.Notes.{is_aborted_note}
use Rattle.hv_job_fits.proofs.LostLemmas.{aborted-same}
use Rattle.hv_job_fits.proofs.lost.is_aborted.Goals as goal

pub returns : goal.returns
returns c =
    c.is_aborted_note.ensures ∙ ap (λ ns. is_aborted_note (numbered ns c.args.txn)) c.transactions.ensures.transactions
    ∙ aborted-same (state_of c.args.book.now.entries).transactions c.args.txn
