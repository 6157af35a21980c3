use Rattle.hv_trail.specs.Steps.{Note}
use Rattle.hv_job_calls.proofs.Steps.{housed-ok, housed-err}
use Rattle.hv_job_calls.proofs.noting.note_job.Goals as goal

pub returns-in-Ok-clause-step : goal.returns-in-Ok-clause-step
returns-in-Ok-clause-step g c =
    housed-ok g.D.Shelf.told g.D.Shelf.faults (Note c.args.entry) c.args.house.now c.note.new.house tt c.in-Ok.ensures.whole c.note.ensures.start c.in-Ok.ensures.step

pub returns-in-Err-clause-step : goal.returns-in-Err-clause-step
returns-in-Err-clause-step g c =
    housed-err g.D.Shelf.told g.D.Shelf.faults (Note c.args.entry) c.args.house.now c.note.new.house c.in-Err.why c.in-Err.ensures.stays c.in-Err.ensures.opens
    c.note.ensures.start c.in-Err.ensures.step c.in-Err.ensures.cause.later c.in-Err.ensures.cause.failed
