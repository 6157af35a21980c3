use Rattle.std.proofs.Common.{None}
use Rattle.hv_history.specs.State.{state_of}
use Rattle.hv_trail.specs.Steps.{Remove}
use Rattle.hv_telling.specs.hv_house.proofs.Hards.{still_step}
use Rattle.hv_telling.specs.hv_house.specs.House.{entries_of}
use Rattle.hv_job_calls.specs.declared.fault.JobFault.TheVariants as fault
use Rattle.hv_job_calls.specs.Tests.{IsHouse, SweepsOrHouse}
use Rattle.hv_job_calls.proofs.Refused.{weaker, house-sweeps}
use Rattle.hv_job_calls.proofs.Steps.{refused}
use Rattle.hv_job_calls.proofs.Sweeps.{working-so, not-working, idle-goes}
use Rattle.hv_job_calls.proofs.sweeping.sweep_staged.Goals as goal

pub returns-then-works_live-clause-step : goal.returns-then-works_live-clause-step
returns-then-works_live-clause-step g c =
    refused g.D.Shelf.told g.D.Shelf.faults c.args.house.now (Remove None c.args.dir) (fault.Working c.args.job) tt c.requires.whole

pub returns-then-works_live-clause-hard : goal.returns-then-works_live-clause-hard
returns-then-works_live-clause-hard g c = still_step (g.D.Shelf.hard c.args.house.now.shelf) c.args.house.now.trail.closed

pub returns-then-works_live-clause-working : goal.returns-then-works_live-clause-working
returns-then-works_live-clause-working g c =
    working-so (state_of (entries_of c.args.house.now)) c.args.dir c.args.job c.requires.staged c.works_live.result c.works_live.ensures.works
    c.if-works_live.true

pub take-requires-clause-truly : goal.take-requires-clause-truly
take-requires-clause-truly g c = λ told.
    idle-goes (state_of (entries_of c.args.house.now)) c.args.dir c.args.job c.requires.staged c.works_live.result c.works_live.ensures.works
    c.if-works_live.false

pub returns-else-works_live-clause-working : goal.returns-else-works_live-clause-working
returns-else-works_live-clause-working g c =
    not-working (state_of (entries_of c.args.house.now)) c.args.dir c.args.job c.requires.staged c.works_live.result c.works_live.ensures.works
    IsHouse (λ job is. is) c.take.result c.take.ensures.failed c.if-works_live.false

pub returns-else-works_live-clause-others : goal.returns-else-works_live-clause-others
returns-else-works_live-clause-others g c = weaker IsHouse SweepsOrHouse house-sweeps c.take.result c.take.ensures.failed
