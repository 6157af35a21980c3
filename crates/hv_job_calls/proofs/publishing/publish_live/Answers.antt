use Rattle.std.proofs.Common.{◌∙◌}
use Rattle.hv_history.specs.State.{state_of}
use Rattle.hv_telling.specs.hv_house.specs.House.{entries_of}
use Rattle.hv_telling.specs.hv_house.proofs.Hards.{still_step}
use Rattle.hv_telling.specs.hv_house.proofs.Publications.{shut-hard}
use Rattle.hv_job_calls.specs.Refusals.{publishing_of}
use Rattle.hv_job_calls.specs.Staging.{renamings_of}
use Rattle.hv_job_calls.proofs.Steps.{lacked-publish}
use Rattle.hv_job_calls.proofs.publishing.publish_live.Goals as goal

pub returns-in-Err-clause-step : goal.returns-in-Err-clause-step
returns-in-Err-clause-step g c =
    lacked-publish g.D.Shelf.told g.D.Shelf.faults c.args.house.now (renamings_of (state_of (entries_of c.args.house.now)) c.args.job.0)
    (publishing_of (entries_of c.args.house.now) c.args.job) c.requires.whole

pub returns-in-Err-clause-hard : goal.returns-in-Err-clause-hard
returns-in-Err-clause-hard g c =
    shut-hard _ _ c.args.house.now.trail.closed c.args.house.now.trail.closed c.args.house.now.trail.starved
    (still_step (g.D.Shelf.hard c.args.house.now.shelf) c.args.house.now.trail.closed)

pub publish_as-requires-clause-renamings : goal.publish_as-requires-clause-renamings
publish_as-requires-clause-renamings g c = c.deref.ensures.value ∙ c.in-Ok.ensures.renamings
