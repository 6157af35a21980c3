use Rattle.std.proofs.Common.{ap, ◌∙◌}
use Rattle.hv_history.specs.State.{numbered}
use Rattle.hv_earlier.specs.Places.{fate_in}
use Rattle.hv_earlier.proofs.PlaceLaws.{fate-at}
use Rattle.hv_counts.specs.Places.{is_done}
use Rattle.hv_counts.proofs.spot.had_committed.Goals as goal

pub returns : goal.returns
returns c =
    let position = c.args.spot.position in
    let txn = c.args.txn in
    c.is_done.ensures
    ∙ ap is_done
    ((λ i. fate_in position (c.requires.transactions i) txn (numbered (c.transactions.ensures.transactions i) txn))
    ∙ fate-at c.args.book.now.entries position txn)
