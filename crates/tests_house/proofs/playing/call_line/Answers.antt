use Rattle.tests_house.proofs.Rooms.{own_limits}
use Rattle.tests_house.proofs.Goings.{anyway}
use Rattle.tests_house.proofs.playing.call_line.Goals as goal

pub returns-in-Ok : goal.returns-in-Ok
returns-in-Ok c = record { ready = anyway _ c.add_said.result (own_limits _ _ c.call.new.house c.in-Ok.ensures.ready) }
