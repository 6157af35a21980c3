use Rattle.std.proofs.Common.{sym, ◌∙◌}
use Rattle.hv_telling.specs.hv_house.specs.Steps.{seen_of}
use Rattle.hv_acts.proofs.Steps.{shut-note}
use Rattle.hv_acts.proofs.starting.OpenTransactionActToldHouse.act.Goals as goal

pub returns-then-is_closed-clause-step : goal.returns-then-is_closed-clause-step
returns-then-is_closed-clause-step g c =
    shut-note g.D.Shelf.told g.D.Shelf.faults (seen_of c.args.house.now.house) _ (sym c.is_closed.ensures.closed ∙ c.if-is_closed.true)
