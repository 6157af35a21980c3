use Rattle.tests_house.proofs.Rooms.{refused_open}
use Rattle.tests_house.proofs.calls.open.Goals as goal

pub returns-in-Ok : goal.returns-in-Ok
returns-in-Ok g c = record { ready = c.in-Ok.ensures.step.ready }

pub returns-in-Err : goal.returns-in-Err
returns-in-Err g c = record {
  ready = refused_open c.args.house.now.limits g.D.Shelf.told c.in-Err.why c.open_txn.new.self c.refusal.result c.in-Err.ensures.step.stays c.refusal.ensures.refused;
}
