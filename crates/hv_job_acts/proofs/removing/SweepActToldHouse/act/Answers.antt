use Rattle.std.proofs.Common.{None, sym, ◌∙◌}
use Rattle.hv_acts.specs.hv_telling.specs.hv_house.specs.Steps.{seen_of}
use Rattle.hv_job_acts.proofs.Passed.{shut-remove, shut-does}
use Rattle.hv_job_acts.proofs.removing.SweepActToldHouse.act.Goals as goal

pub returns-then-is_closed-clause-step : goal.returns-then-is_closed-clause-step
returns-then-is_closed-clause-step g c =
    shut-remove g.D.Shelf.told g.D.Shelf.faults (seen_of c.args.house.now.house) (sym c.is_closed.ensures.closed ∙ c.if-is_closed.true) None c.args.self.dir

pub returns-then-is_closed-clause-does : goal.returns-then-is_closed-clause-does
returns-then-is_closed-clause-does g c =
    shut-does g.D.Shelf.told g.D.Shelf.faults (seen_of c.args.house.now.house) (sym c.is_closed.ensures.closed ∙ c.if-is_closed.true) _
