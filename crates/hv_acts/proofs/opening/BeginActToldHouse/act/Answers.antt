use Rattle.std.proofs.Common.{sym, ◌∙◌}
use Rattle.hv_telling.specs.hv_house.specs.Steps.{seen_of}
use Rattle.hv_acts.proofs.Steps.{shut-begin}
use Rattle.hv_acts.proofs.opening.BeginActToldHouse.act.Goals as goal

pub returns-then-is_closed-clause-step : goal.returns-then-is_closed-clause-step
returns-then-is_closed-clause-step g c =
    shut-begin g.D.Shelf.told g.D.Shelf.faults (seen_of c.args.house.now.house) _ c.args.self.session c.args.self.number c.args.self.text
    (sym c.is_closed.ensures.closed ∙ c.if-is_closed.true)
