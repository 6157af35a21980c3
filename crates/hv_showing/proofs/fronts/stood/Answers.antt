use Rattle.std.proofs.Common.{◌∙◌}
use Rattle.hv_history.specs.State.{numbered}
use Rattle.hv_book.proofs.TextLaws.{numbered-map}
use Rattle.hv_earlier.specs.Fates.{fate_of}
use Rattle.hv_earlier.specs.Places.{fate_in}
use Rattle.hv_earlier.proofs.PlaceLaws.{fate-at}
use Rattle.hv_showing.specs.Fronts.{transactions_then}
use Rattle.hv_showing.proofs.fronts.stood.Goals as goal

pub returns : goal.returns
returns c =
    let entries = c.args.book.now.entries in
    let position = c.args.front.position in
    let txn = c.args.txn in
    c.fate_in.ensures
    ∙ (λ i. fate_in position (c.requires.opened i) txn (numbered (c.transactions.ensures.transactions i) txn))
    ∙ fate-at entries position txn
    ∙ numbered-map fate_of (transactions_then entries position) txn
