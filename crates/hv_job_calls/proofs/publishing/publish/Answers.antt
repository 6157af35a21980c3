use Rattle.hv_history.specs.State.{state_of}
use Rattle.hv_trail.specs.Steps.{Publish}
use Rattle.hv_telling.specs.hv_house.specs.House.{entries_of}
use Rattle.hv_telling.specs.hv_house.proofs.Hards.{still_step}
use Rattle.hv_telling.specs.hv_house.proofs.Publications.{shut-hard}
use Rattle.hv_job_calls.specs.declared.fault.JobFault.TheVariants as fault
use Rattle.hv_job_calls.specs.Refusals.{publishing_of}
use Rattle.hv_job_calls.specs.Staging.{renamings_of}
use Rattle.hv_job_calls.specs.Tests.{IsPublishing, IsGoneOrPublishing}
use Rattle.hv_job_calls.proofs.Refused.{weaker, publishing-gone, gone-now, live-now, gone-so, not-gone, in-live}
use Rattle.hv_job_calls.proofs.Steps.{refused}
use Rattle.hv_job_calls.proofs.publishing.publish.Goals as goal

pub publish_live-requires-clause-live : goal.publish_live-requires-clause-live
publish_live-requires-clause-live g c =
    let state = state_of (entries_of c.args.house.now) in
    (live-now state c.args.job.0 c.is_job_live.result c.is_job_live.ensures.live _ c.requires.works c.if-is_job_live.true)

pub publish_live-requires-clause-some : goal.publish_live-requires-clause-some
publish_live-requires-clause-some g c =
    let state = state_of (entries_of c.args.house.now) in
    in-live state c.args.job.0 _ (live-now state c.args.job.0 c.is_job_live.result c.is_job_live.ensures.live _ c.requires.works c.if-is_job_live.true) c.requires.some

pub returns-then-is_job_live-clause-gone : goal.returns-then-is_job_live-clause-gone
returns-then-is_job_live-clause-gone g c =
    let state = state_of (entries_of c.args.house.now) in
    not-gone state c.args.job.0 IsPublishing (λ is. is) c.publish_live.result c.publish_live.ensures.failed (live-now state c.args.job.0 c.is_job_live.result c.is_job_live.ensures.live _ c.requires.works c.if-is_job_live.true)

pub returns-then-is_job_live-clause-others : goal.returns-then-is_job_live-clause-others
returns-then-is_job_live-clause-others g c = weaker IsPublishing IsGoneOrPublishing publishing-gone c.publish_live.result c.publish_live.ensures.failed

pub returns-else-is_job_live-clause-step : goal.returns-else-is_job_live-clause-step
returns-else-is_job_live-clause-step g c =
    refused g.D.Shelf.told g.D.Shelf.faults c.args.house.now
    (Publish (renamings_of (state_of (entries_of c.args.house.now)) c.args.job.0) (publishing_of (entries_of c.args.house.now) c.args.job)) fault.Gone tt
    c.requires.whole

pub returns-else-is_job_live-clause-hard : goal.returns-else-is_job_live-clause-hard
returns-else-is_job_live-clause-hard g c =
    shut-hard _ _ c.args.house.now.trail.closed c.args.house.now.trail.closed c.args.house.now.trail.starved
    (still_step (g.D.Shelf.hard c.args.house.now.shelf) c.args.house.now.trail.closed)

pub returns-else-is_job_live-clause-gone : goal.returns-else-is_job_live-clause-gone
returns-else-is_job_live-clause-gone g c =
    let state = state_of (entries_of c.args.house.now) in
    gone-so state c.args.job.0 (gone-now state c.args.job.0 c.is_job_live.result c.is_job_live.ensures.live _ c.requires.works c.if-is_job_live.false)
