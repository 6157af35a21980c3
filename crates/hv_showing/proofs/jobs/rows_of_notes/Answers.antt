use Rattle.std.proofs.Common.{◌∙◌}
use Rattle.hv_history.specs.Standing.{first_open}
use Rattle.hv_showing.specs.Fronts.{transactions_then}
use Rattle.hv_showing.specs.Jobs.{rows_over}
use Rattle.hv_showing.proofs.JobRows.{rows-then}
use Rattle.hv_showing.proofs.jobs.rows_of_notes.Goals as goal

pub returns : goal.returns
returns c =
    let entries = c.args.book.now.entries in
    let position = c.args.front.position in
    c.in_ok-put_jobs.ensures
    ∙ (λ i. rows_over entries position (c.lowest_open-lowest.ensures i) (c.requires.notes i) (c.new-rows.ensures.items i))
    ∙ rows-then entries position (first_open 1 (transactions_then entries position))
