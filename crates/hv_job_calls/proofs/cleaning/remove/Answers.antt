use Rattle.std.proofs.Common.{None}
use Rattle.hv_history.specs.State.{state_of}
use Rattle.hv_trail.specs.Steps.{Remove}
use Rattle.hv_telling.specs.hv_house.proofs.Hards.{still_step}
use Rattle.hv_telling.specs.hv_house.specs.House.{entries_of}
use Rattle.hv_job_calls.specs.declared.fault.JobFault.TheVariants as fault
use Rattle.hv_job_calls.specs.Tests.{IsHouse, RemovesOrHouse}
use Rattle.hv_job_calls.proofs.Cleans.{needed-so, not-needed, dead-holds, covered-goes}
use Rattle.hv_job_calls.proofs.Refused.{weaker, house-removes, gone-now, live-now, both-not, gone-so, not-gone}
use Rattle.hv_job_calls.proofs.Steps.{refused}
use Rattle.hv_job_calls.proofs.cleaning.remove.Goals as goal

pub returns-then-not-is_job_live-clause-step : goal.returns-then-not-is_job_live-clause-step
returns-then-not-is_job_live-clause-step g c = refused g.D.Shelf.told g.D.Shelf.faults c.args.house.now (Remove None c.args.dir) fault.Gone tt c.requires.whole

pub returns-then-not-is_job_live-clause-hard : goal.returns-then-not-is_job_live-clause-hard
returns-then-not-is_job_live-clause-hard g c = still_step (g.D.Shelf.hard c.args.house.now.shelf) c.args.house.now.trail.closed

pub returns-then-not-is_job_live-clause-gone : goal.returns-then-not-is_job_live-clause-gone
returns-then-not-is_job_live-clause-gone g c =
    let state = state_of (entries_of c.args.house.now) in
    gone-so state c.args.job.0 (gone-now state c.args.job.0 c.is_job_live.result c.is_job_live.ensures.live _ c.requires.covered c.if-not-is_job_live.true)

pub returns-then-not-is_job_live-clause-needed : goal.returns-then-not-is_job_live-clause-needed
returns-then-not-is_job_live-clause-needed g c = λ txn.
    let state = state_of (entries_of c.args.house.now) in
    (λ e. cc, λ held. absurd (dead-holds state c.args.job.0 txn (gone-now state c.args.job.0 c.is_job_live.result c.is_job_live.ensures.live _ c.requires.covered c.if-not-is_job_live.true) held))

pub returns-in-Some-clause-step : goal.returns-in-Some-clause-step
returns-in-Some-clause-step g c =
    refused g.D.Shelf.told g.D.Shelf.faults c.args.house.now (Remove None c.args.dir) (fault.Needed (record { 0 = c.in-Some.txn })) tt c.requires.whole

pub returns-in-Some-clause-hard : goal.returns-in-Some-clause-hard
returns-in-Some-clause-hard g c = still_step (g.D.Shelf.hard c.args.house.now.shelf) c.args.house.now.trail.closed

pub returns-in-Some-clause-gone : goal.returns-in-Some-clause-gone
returns-in-Some-clause-gone g c =
    let state = state_of (entries_of c.args.house.now) in
    (λ e. cc, λ gone. absurd (both-not state c.args.job.0 gone (live-now state c.args.job.0 c.is_job_live.result c.is_job_live.ensures.live _ c.requires.covered c.if-not-is_job_live.false)))

pub returns-in-Some-clause-needed : goal.returns-in-Some-clause-needed
returns-in-Some-clause-needed g c =
    let state = state_of (entries_of c.args.house.now) in
    needed-so state c.args.job.0 c.holder.result c.holder.ensures.holder c.in-Some.txn c.in-Some.is
    (live-now state c.args.job.0 c.is_job_live.result c.is_job_live.ensures.live _ c.requires.covered c.if-not-is_job_live.false)

pub take-requires-clause-truly : goal.take-requires-clause-truly
take-requires-clause-truly g c = λ told.
    covered-goes (state_of (entries_of c.args.house.now)) c.args.job.0 c.args.dir c.holder.result c.holder.ensures.holder c.in-None.is c.requires.covered

pub returns-in-None-clause-gone : goal.returns-in-None-clause-gone
returns-in-None-clause-gone g c =
    let state = state_of (entries_of c.args.house.now) in
    not-gone state c.args.job.0 IsHouse (λ is. is) c.take.result c.take.ensures.failed (live-now state c.args.job.0 c.is_job_live.result c.is_job_live.ensures.live _ c.requires.covered c.if-not-is_job_live.false)

pub returns-in-None-clause-needed : goal.returns-in-None-clause-needed
returns-in-None-clause-needed g c =
    let state = state_of (entries_of c.args.house.now) in
    not-needed state c.args.job.0 c.holder.result c.holder.ensures.holder IsHouse (λ txn is. is) c.take.result c.take.ensures.failed c.in-None.is

pub returns-in-None-clause-others : goal.returns-in-None-clause-others
returns-in-None-clause-others g c = weaker IsHouse RemovesOrHouse house-removes c.take.result c.take.ensures.failed
