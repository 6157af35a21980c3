use Rattle.std.proofs.Common.{ap, ◌∙◌, subst}
use Rattle.hv_history.specs.State.{state_of}
use Rattle.hv_tallies.specs.Walks.{IsTally}
use Rattle.hv_queue.specs.Queue.{pieces_in}
use Rattle.hv_queue.proofs.DueLemmas.{pieces-are}
use Rattle.hv_queue.proofs.queue.pieces_up_to.Goals as goal

pub returns : goal.returns
returns c =
    let entries = c.args.book.now.entries in
    let reach = c.reach_of-reach.result in
    let tally = c.walk-tally.result in
    ap pieces_in c.pieces_by.ensures
    ∙ pieces-are entries c.args.table c.args.partition.now c.args.mark c.survey_in-jobs.result reach tally c.survey_in-jobs.ensures c.reach_of-reach.ensures
    (subst (λ p. IsTally (state_of entries) c.args.table p reach tally) c.as_str.ensures c.walk-tally.ensures) c.args.kind c.minor_low-low.result c.minor_low-low.ensures
