use Rattle.std.proofs.Common.{fold, ◌∙◌}
use Rattle.hv_jobs.specs.hv_history.specs.State.{state_of}
use Rattle.hv_earlier.specs.hv_meta.specs.hv_book.specs.Past.{past_in}
use Rattle.hv_tallies.specs.Tallies.{visited}
use Rattle.hv_tallies.proofs.WalkLemmas.{all-walked}
use Rattle.hv_tallies.proofs.walking.walk.Goals as goal

pub returns : goal.returns
returns c =
    let visit = visited (state_of c.args.book.now.entries) c.args.table c.args.partition.now c.args.reach in
    all-walked c.args.book.now.entries c.args.table c.args.partition.now c.args.reach (past_in c.past-past.result.now) c.walk_ids-pending.result c.walk_ended-aborted.result c.walk_ended.result
    c.past-past.ensures.past
    (c.walk_ids-pending.ensures ∙ (λ i. fold visit (c.no_tally.ensures i) (c.of_table.ensures.ids i)))
    c.walk_ended-aborted.ensures c.walk_ended.ensures
