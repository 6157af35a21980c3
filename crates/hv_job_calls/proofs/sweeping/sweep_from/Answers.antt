use Rattle.std.proofs.Common.{Option, subst}
use Rattle.hv_base.specs.declared.ids.JobId.{JobId}
use Rattle.hv_history.specs.State.{state_of}
use Rattle.hv_telling.specs.hv_house.specs.House.{entries_of}
use Rattle.hv_job_calls.specs.Sweeping.{IsStagerOf}
use Rattle.hv_job_calls.specs.Tests.{IsHouse, SweepsOrHouse}
use Rattle.hv_job_calls.proofs.Quiet.{swept-may}
use Rattle.hv_job_calls.proofs.Refused.{weaker, house-sweeps}
use Rattle.hv_job_calls.proofs.Sweeps.{none-works}
use Rattle.hv_job_calls.proofs.sweeping.sweep_from.Goals as goal

pub sweep_staged-requires-clause-staged : goal.sweep_staged-requires-clause-staged
sweep_staged-requires-clause-staged g c = subst (λ (o : Option JobId). IsStagerOf c.args.dir.dir o) c.in-Some.is c.requires.stager

-- of a table that was dropped
pub take-requires-clause-truly : goal.take-requires-clause-truly
take-requires-clause-truly g c = λ told.
    swept-may (entries_of c.args.house.now) c.args.dir c.requires.whole.ready.fit c.requires.can
    (subst (λ (o : Option JobId). IsStagerOf c.args.dir.dir o) c.in-None.is c.requires.stager)

pub returns-in-None-clause-working : goal.returns-in-None-clause-working
returns-in-None-clause-working g c =
    none-works (state_of (entries_of c.args.house.now)) c.args.dir IsHouse (λ job is. is) c.take.result c.take.ensures.failed
    (subst (λ (o : Option JobId). IsStagerOf c.args.dir.dir o) c.in-None.is c.requires.stager)

pub returns-in-None-clause-others : goal.returns-in-None-clause-others
returns-in-None-clause-others g c = weaker IsHouse SweepsOrHouse house-sweeps c.take.result c.take.ensures.failed
