use Rattle.hv_history.specs.State.{state_of}
use Rattle.hv_history.specs.Legal.{Fits, profile}
use Rattle.hv_telling.specs.hv_house.specs.House.{entries_of, IsSmall}
use Rattle.hv_job_calls.proofs.Asks.{asked-ok, asked-err, asked-as}
use Rattle.hv_job_calls.proofs.asking.note_asked.Goals as goal

pub note_job-requires-clause-small : goal.note_job-requires-clause-small
note_job-requires-clause-small g c =
    asked-as (entries_of c.args.house.now) c.args.table c.args.partition c.args.kind c.args.by c.next_job-job.result c.next_job-job.ensures.next
    IsSmall c.requires.small

pub note_job-requires-clause-fits : goal.note_job-requires-clause-fits
note_job-requires-clause-fits g c =
    asked-as (entries_of c.args.house.now) c.args.table c.args.partition c.args.kind c.args.by c.next_job-job.result c.next_job-job.ensures.next
    (Fits profile (state_of (entries_of c.args.house.now))) c.requires.fits

pub note_job-requires-clause-truly : goal.note_job-requires-clause-truly
note_job-requires-clause-truly g c = c.requires.truly

pub returns-in-Ok-clause-step : goal.returns-in-Ok-clause-step
returns-in-Ok-clause-step g c =
    asked-ok g.D.Shelf.told g.D.Shelf.faults c.args.table c.args.partition c.args.kind c.args.by c.next_job-job.result c.args.house.now c.note_job.new.house c.next_job-job.ensures.next
    c.in-Ok.ensures.step

pub returns-in-Err-clause-step : goal.returns-in-Err-clause-step
returns-in-Err-clause-step g c =
    asked-err g.D.Shelf.told g.D.Shelf.faults c.args.table c.args.partition c.args.kind c.args.by c.next_job-job.result c.in-Err.why c.args.house.now c.note_job.new.house
    c.next_job-job.ensures.next c.in-Err.ensures.step
