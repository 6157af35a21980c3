use Rattle.hv_history.specs.State.{state_of}
use Rattle.hv_finals.proofs.EndLemmas.{noted-end}
use Rattle.hv_finals.proofs.ending.end_noted.Goals as goal

pub returns : goal.returns
returns c = λ j at same.
    noted-end (state_of c.args.book.now.entries) c.args.whole.now c.args.job.0 j c.args.note.now c.pieces-merged.result same (c.pieces-merged.ensures.pieces j at)
    c.is_live-live.result c.is_among-listed.result c.is_empty-empty.result c.both-publish.result c.next_txn-next.result.0 c.end_by.result c.end_by.ensures
    c.is_live-live.ensures c.is_among-listed.ensures c.is_empty-empty.ensures c.both-publish.ensures c.next_txn-next.ensures.next
