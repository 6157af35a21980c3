use Rattle.std.proofs.Common.{Some, None, fold, ap, ◌∙◌}
use Rattle.hv_jobs.specs.hv_history.specs.State.{state_of}
use Rattle.hv_jobs.specs.hv_history.specs.Jobs.{events_if}
use Rattle.hv_tallies.specs.Tallies.{noted_open, tallied}
use Rattle.hv_tallies.proofs.EventLemmas.{visit-is}
use Rattle.hv_tallies.proofs.events.visit.Goals as goal

pub returns-in-Some : goal.returns-in-Some
returns-in-Some c =
    c.tallied.ensures
    ∙ ap (λ t. fold (tallied c.args.reach) t (events_if c.args.id.write (Some c.in-Some.touch.now)))
    (c.noted_open-noted.ensures ∙ ap (λ b. noted_open b c.args.id.write c.args.tally) c.is_open.ensures)
    ∙ visit-is (state_of c.args.book.now.entries) c.args.table c.args.partition.now c.args.reach c.args.tally c.args.id (Some c.in-Some.touch.now) c.in-Some.ensures

pub returns-in-None : goal.returns-in-None
returns-in-None c =
    c.noted_open-noted.ensures ∙ ap (λ b. noted_open b c.args.id.write c.args.tally) c.is_open.ensures
    ∙ visit-is (state_of c.args.book.now.entries) c.args.table c.args.partition.now c.args.reach c.args.tally c.args.id None c.in-None.ensures
