use Rattle.tests_house.proofs.Rooms.{own_limits}
use Rattle.tests_house.proofs.house.boot.Goals as goal

pub returns-in-Ok : goal.returns-in-Ok
returns-in-Ok g c = record { ready = own_limits g.D.Shelf.told c.args.limits c.in-Ok.house c.in-Ok.ensures.ready }
