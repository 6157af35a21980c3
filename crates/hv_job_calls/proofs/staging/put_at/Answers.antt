use Rattle.hv_trail.specs.declared.trail.Reader.TheVariants as reader
use Rattle.hv_trail.specs.Steps.{Put}
use Rattle.hv_job_calls.proofs.Steps.{housed-ok, housed-err}
use Rattle.hv_job_calls.proofs.staging.put_at.Goals as goal

pub returns-in-Ok-clause-step : goal.returns-in-Ok-clause-step
returns-in-Ok-clause-step g c =
    housed-ok g.D.Shelf.told g.D.Shelf.faults (Put (reader.Job c.args.job) c.args.place c.args.bytes.now) c.args.house.now c.put_staged.new.house tt
    c.in-Ok.ensures.whole c.put_staged.ensures.start c.in-Ok.ensures.put.step

pub returns-in-Err-clause-step : goal.returns-in-Err-clause-step
returns-in-Err-clause-step g c =
    housed-err g.D.Shelf.told g.D.Shelf.faults (Put (reader.Job c.args.job) c.args.place c.args.bytes.now) c.args.house.now c.put_staged.new.house c.in-Err.why
    c.in-Err.ensures.stays c.in-Err.ensures.opens c.put_staged.ensures.start c.in-Err.ensures.put.step c.in-Err.ensures.put.cause.later
    c.in-Err.ensures.put.cause.failed
