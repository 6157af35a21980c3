use Rattle.std.proofs.Common.{None}
use Rattle.hv_telling.specs.hv_house.proofs.Hards.{still_step}
use Rattle.hv_job_calls.proofs.Steps.{lacked-remove}
use Rattle.hv_job_calls.proofs.Sweeps.{err-so}
use Rattle.hv_job_calls.proofs.sweeping.sweep.Goals as goal

pub returns-in-Ok-clause-working : goal.returns-in-Ok-clause-working
returns-in-Ok-clause-working g c = λ number e. (c.sweep_from.ensures.working number).0 e

pub returns-in-Ok-clause-idle : goal.returns-in-Ok-clause-idle
returns-in-Ok-clause-idle g c = λ number of. err-so c.sweep_from.result ((c.sweep_from.ensures.working number).1 of)

pub returns-in-Err-clause-step : goal.returns-in-Err-clause-step
returns-in-Err-clause-step g c = lacked-remove g.D.Shelf.told g.D.Shelf.faults c.args.house.now None c.args.dir c.requires.whole

pub returns-in-Err-clause-hard : goal.returns-in-Err-clause-hard
returns-in-Err-clause-hard g c = still_step (g.D.Shelf.hard c.args.house.now.shelf) c.args.house.now.trail.closed

pub returns-in-Err-clause-working : goal.returns-in-Err-clause-working
returns-in-Err-clause-working g c = λ number e. cc
