use Rattle.hv_history.specs.declared.entry.Entry.TheVariants as entry
use Rattle.hv_history.specs.State.{state_of}
use Rattle.hv_trail.specs.Steps.{Note}
use Rattle.hv_telling.specs.hv_house.proofs.Hards.{still_step}
use Rattle.hv_telling.specs.hv_house.specs.House.{entries_of}
use Rattle.hv_job_calls.specs.declared.fault.JobFault.TheVariants as fault
use Rattle.hv_job_calls.specs.Tests.{IsHouse, IsGoneOrHouse}
use Rattle.hv_job_calls.proofs.Fitting.{empty-fits}
use Rattle.hv_job_calls.proofs.Lengths.{short_empty}
use Rattle.hv_job_calls.proofs.Refused.{weaker, house-gone, gone-now, live-now, gone-so, not-gone, in-live}
use Rattle.hv_job_calls.proofs.Steps.{refused}
use Rattle.hv_job_calls.proofs.ending.nothing.Goals as goal

pub note_job-requires-clause-small : goal.note_job-requires-clause-small
note_job-requires-clause-small g c = short_empty c.args.job

pub note_job-requires-clause-fits : goal.note_job-requires-clause-fits
note_job-requires-clause-fits g c =
    let state = state_of (entries_of c.args.house.now) in
    empty-fits state c.args.job.0 c.requires.works
    (in-live state c.args.job.0 _ (live-now state c.args.job.0 c.is_job_live.result c.is_job_live.ensures.live _ c.requires.works c.if-is_job_live.true) c.requires.empty)

pub returns-then-is_job_live-clause-gone : goal.returns-then-is_job_live-clause-gone
returns-then-is_job_live-clause-gone g c =
    let state = state_of (entries_of c.args.house.now) in
    not-gone state c.args.job.0 IsHouse (λ never. never) c.note_job.result c.note_job.ensures.failed
    (live-now state c.args.job.0 c.is_job_live.result c.is_job_live.ensures.live _ c.requires.works c.if-is_job_live.true)

pub returns-then-is_job_live-clause-others : goal.returns-then-is_job_live-clause-others
returns-then-is_job_live-clause-others g c = weaker IsHouse IsGoneOrHouse house-gone c.note_job.result c.note_job.ensures.failed

pub returns-else-is_job_live-clause-step : goal.returns-else-is_job_live-clause-step
returns-else-is_job_live-clause-step g c = refused g.D.Shelf.told g.D.Shelf.faults c.args.house.now (Note (entry.Empty c.args.job)) fault.Gone tt c.requires.whole

pub returns-else-is_job_live-clause-gone : goal.returns-else-is_job_live-clause-gone
returns-else-is_job_live-clause-gone g c =
    let state = state_of (entries_of c.args.house.now) in
    gone-so state c.args.job.0 (gone-now state c.args.job.0 c.is_job_live.result c.is_job_live.ensures.live _ c.requires.works c.if-is_job_live.false)

pub returns-else-is_job_live-clause-hard : goal.returns-else-is_job_live-clause-hard
returns-else-is_job_live-clause-hard g c = still_step (g.D.Shelf.hard c.args.house.now.shelf) c.args.house.now.trail.closed
