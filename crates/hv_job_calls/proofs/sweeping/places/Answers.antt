use Rattle.std.proofs.Common.{None}
use Rattle.hv_trail.specs.Steps.{Read, Done}
use Rattle.hv_telling.proofs.Reading.{reads-keep-whole}
use Rattle.hv_job_calls.proofs.Steps.{housed-ok, read-start, read-failed}
use Rattle.hv_job_calls.proofs.sweeping.places.Goals as goal

pub returns-in-Ok-clause-step : goal.returns-in-Ok-clause-step
returns-in-Ok-clause-step g c =
    housed-ok g.D.Shelf.told g.D.Shelf.faults (Read None) c.args.house.now c.places_for.new.self c.in-Ok.places
    (reads-keep-whole g.D.Shelf.told g.D.Shelf.faults None Done c.args.house.now c.places_for.new.self c.requires.whole c.in-Ok.ensures.step c.in-Ok.ensures.ready)
    (read-start g.D.Shelf.told g.D.Shelf.faults None Done c.args.house.now c.places_for.new.self c.in-Ok.ensures.step) c.in-Ok.ensures.step

pub returns-in-Err-clause-step : goal.returns-in-Err-clause-step
returns-in-Err-clause-step g c =
    read-failed g.D.Shelf.told g.D.Shelf.faults None (Read None) c.args.house.now c.places_for.new.self c.in-Err.why c.requires.whole c.in-Err.ensures.step
    c.in-Err.ensures.stays c.in-Err.ensures.cause.later c.in-Err.ensures.cause.failed c.in-Err.ensures.step
