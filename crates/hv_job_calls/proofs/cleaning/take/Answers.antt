use Rattle.std.proofs.Common.{None}
use Rattle.hv_trail.specs.Steps.{Remove}
use Rattle.hv_job_calls.proofs.Steps.{housed-ok, housed-err}
use Rattle.hv_job_calls.proofs.cleaning.take.Goals as goal

pub returns-in-Ok-clause-step : goal.returns-in-Ok-clause-step
returns-in-Ok-clause-step g c =
    housed-ok g.D.Shelf.told g.D.Shelf.faults (Remove None c.args.dir) c.args.house.now c.take_away.new.house tt c.in-Ok.ensures.whole c.take_away.ensures.start
    c.in-Ok.ensures.removed.step

pub returns-in-Err-clause-step : goal.returns-in-Err-clause-step
returns-in-Err-clause-step g c =
    housed-err g.D.Shelf.told g.D.Shelf.faults (Remove None c.args.dir) c.args.house.now c.take_away.new.house c.in-Err.why c.in-Err.ensures.stays
    c.in-Err.ensures.opens c.take_away.ensures.start c.in-Err.ensures.removed.step c.in-Err.ensures.removed.cause.later c.in-Err.ensures.removed.cause.failed
