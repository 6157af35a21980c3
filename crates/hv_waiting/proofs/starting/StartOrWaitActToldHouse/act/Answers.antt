use Rattle.hv_session.specs.hv_beginning.specs.hv_steps.specs.hv_table_reader.specs.hv_acts.specs.hv_telling.specs.hv_house.specs.Steps.{seen_of}
use Rattle.hv_session.specs.hv_beginning.specs.hv_steps.specs.hv_table_reader.specs.hv_acts.specs.Told.{trail_in}
use Rattle.hv_session.specs.hv_beginning.specs.hv_steps.specs.hv_table_reader.specs.hv_acts.proofs.Steps.{asked}
use Rattle.hv_waiting.proofs.Waits.{held-answers, free-answers}
use Rattle.hv_waiting.proofs.starting.StartOrWaitActToldHouse.act.Goals as goal

pub returns-in-Some-clause-step : goal.returns-in-Some-clause-step
returns-in-Some-clause-step g c = asked g.D.Shelf.told g.D.Shelf.faults (seen_of c.args.house.now.house)

pub returns-in-Some-clause-does : goal.returns-in-Some-clause-does
returns-in-Some-clause-does g c =
    (held-answers (trail_in c.args.house.now) c.args.self.txn c.in-Some.by c.in-Some.ensures.held, c.in-Some.ensures.running)

pub returns-in-None-clause-step : goal.returns-in-None-clause-step
returns-in-None-clause-step g c = c.act.ensures.step

pub returns-in-None-clause-does : goal.returns-in-None-clause-does
returns-in-None-clause-does g c = (
  free-answers g.D.Shelf.told g.D.Shelf.faults c.args.self.txn (seen_of c.args.house.now.house) (seen_of c.act.new.house.house) c.act.result
      (c.in_open_way.ensures.free c.in-None.is) c.act.ensures.does.0 c.act.ensures.does.1,
  c.act.ensures.does.1,
)
