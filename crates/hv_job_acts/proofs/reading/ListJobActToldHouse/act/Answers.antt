use Rattle.std.proofs.Common.{Some, sym, ◌∙◌}
use Rattle.hv_trail.specs.declared.trail.Reader.TheVariants as reader
use Rattle.hv_acts.specs.hv_telling.specs.hv_house.specs.Steps.{seen_of}
use Rattle.hv_job_acts.proofs.Passed.{shut-read, shut-does}
use Rattle.hv_job_acts.proofs.reading.ListJobActToldHouse.act.Goals as goal

pub returns-then-is_closed-clause-step : goal.returns-then-is_closed-clause-step
returns-then-is_closed-clause-step g c =
    shut-read g.D.Shelf.told g.D.Shelf.faults (seen_of c.args.house.now.house) (sym c.is_closed.ensures.closed ∙ c.if-is_closed.true) (Some (reader.Job c.args.self.job))

pub returns-then-is_closed-clause-does : goal.returns-then-is_closed-clause-does
returns-then-is_closed-clause-does g c =
    shut-does g.D.Shelf.told g.D.Shelf.faults (seen_of c.args.house.now.house) (sym c.is_closed.ensures.closed ∙ c.if-is_closed.true) _
