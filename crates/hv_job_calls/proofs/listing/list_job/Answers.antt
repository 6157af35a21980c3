use Rattle.std.proofs.Common.{Some}
use Rattle.hv_history.specs.State.{state_of}
use Rattle.hv_trail.specs.declared.trail.Reader.TheVariants as reader
use Rattle.hv_trail.specs.Steps.{Read}
use Rattle.hv_telling.specs.hv_house.proofs.Hards.{still_step}
use Rattle.hv_telling.specs.hv_house.specs.House.{entries_of}
use Rattle.hv_job_calls.specs.declared.fault.JobFault.TheVariants as fault
use Rattle.hv_job_calls.specs.Tests.{IsHouse, IsGoneOrHouse}
use Rattle.hv_job_calls.proofs.Refused.{weaker, house-gone, gone-now, live-now, gone-so, not-gone}
use Rattle.hv_job_calls.proofs.Steps.{refused}
use Rattle.hv_job_calls.proofs.listing.list_job.Goals as goal

pub returns-then-is_job_live-clause-gone : goal.returns-then-is_job_live-clause-gone
returns-then-is_job_live-clause-gone g c =
    let state = state_of (entries_of c.args.house.now) in
    not-gone state c.args.job.0 IsHouse (λ is. is) c.list_live.result c.list_live.ensures.failed
    (live-now state c.args.job.0 c.is_job_live.result c.is_job_live.ensures.live _ c.requires.works c.if-is_job_live.true)

pub returns-then-is_job_live-clause-others : goal.returns-then-is_job_live-clause-others
returns-then-is_job_live-clause-others g c = weaker IsHouse IsGoneOrHouse house-gone c.list_live.result c.list_live.ensures.failed

pub returns-else-is_job_live-clause-step : goal.returns-else-is_job_live-clause-step
returns-else-is_job_live-clause-step g c =
    refused g.D.Shelf.told g.D.Shelf.faults c.args.house.now (Read (Some (reader.Job c.args.job))) fault.Gone tt c.requires.whole

pub returns-else-is_job_live-clause-hard : goal.returns-else-is_job_live-clause-hard
returns-else-is_job_live-clause-hard g c = still_step (g.D.Shelf.hard c.args.house.now.shelf) c.args.house.now.trail.closed

pub returns-else-is_job_live-clause-gone : goal.returns-else-is_job_live-clause-gone
returns-else-is_job_live-clause-gone g c =
    let state = state_of (entries_of c.args.house.now) in
    gone-so state c.args.job.0 (gone-now state c.args.job.0 c.is_job_live.result c.is_job_live.ensures.live _ c.requires.works c.if-is_job_live.false)
