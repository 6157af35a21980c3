use Rattle.std.proofs.Common.{ap, ◌∙◌}
use Rattle.hv_jobs.specs.hv_history.specs.State.{state_of, numbered}
use Rattle.hv_earlier.specs.hv_meta.specs.hv_book.specs.Notes.{is_open_note}
use Rattle.hv_tallies.proofs.NoteLemmas.{open-same}
use Rattle.hv_tallies.proofs.open_ids.is_open.Goals as goal

pub returns : goal.returns
returns c =
    c.is_open_note.ensures ∙ ap (λ ns. is_open_note (numbered ns c.args.txn)) c.transactions.ensures.transactions
    ∙ open-same (state_of c.args.book.now.entries).transactions c.args.txn
