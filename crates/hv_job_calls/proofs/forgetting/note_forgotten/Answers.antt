use Rattle.hv_history.specs.declared.entry.Entry.TheVariants as entry
use Rattle.hv_trail.specs.Steps.{Note}
use Rattle.hv_job_calls.proofs.Lengths.{short_forgot}
use Rattle.hv_job_calls.proofs.Fitting.{forgot-fits}
use Rattle.hv_job_calls.proofs.Steps.{housed-ok, housed-err}
use Rattle.hv_job_calls.proofs.forgetting.note_forgotten.Goals as goal

pub forget_bare-requires-clause-small : goal.forget_bare-requires-clause-small
forget_bare-requires-clause-small g c = short_forgot c.args.table c.args.write

pub forget_bare-requires-clause-fits : goal.forget_bare-requires-clause-fits
forget_bare-requires-clause-fits g c = forgot-fits c.args.house.now.trail.entries c.args.table c.args.write c.requires.live c.requires.can c.requires.room

pub returns-in-Ok-clause-step : goal.returns-in-Ok-clause-step
returns-in-Ok-clause-step g c =
    housed-ok g.D.Shelf.told g.D.Shelf.faults (Note (entry.Forgot c.args.table c.args.write)) c.args.house.now c.forget_bare.new.house tt c.in-Ok.ensures.whole
    c.forget_bare.ensures.start c.in-Ok.ensures.step

pub returns-in-Err-clause-step : goal.returns-in-Err-clause-step
returns-in-Err-clause-step g c =
    housed-err g.D.Shelf.told g.D.Shelf.faults (Note (entry.Forgot c.args.table c.args.write)) c.args.house.now c.forget_bare.new.house c.in-Err.why
    c.in-Err.ensures.stays c.in-Err.ensures.opens c.forget_bare.ensures.start c.in-Err.ensures.step c.in-Err.ensures.cause.later c.in-Err.ensures.cause.failed
