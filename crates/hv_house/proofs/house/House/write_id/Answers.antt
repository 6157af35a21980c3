use Rattle.hv_house.proofs.Hards.{still_step}
use Rattle.hv_house.proofs.house.House.write_id.Goals as goal

pub returns-in-Some-clause-hard : goal.returns-in-Some-clause-hard
returns-in-Some-clause-hard g c = still_step (g.D.Shelf.hard c.args.self.now.shelf) c.args.self.now.trail.closed

pub returns-else-has_room-clause-hard : goal.returns-else-has_room-clause-hard
returns-else-has_room-clause-hard g c = still_step (g.D.Shelf.hard c.args.self.now.shelf) c.args.self.now.trail.closed
