use Rattle.hv_stands.specs.Running.{opening}
use Rattle.hv_house.specs.House.{entries_of}
use Rattle.hv_house.proofs.Naming.{entry-full}
use Rattle.hv_house.proofs.Hards.{still_step}
use Rattle.hv_house.proofs.house.House.open_txn.Goals as goal

pub returns-else-has_room-clause-step : goal.returns-else-has_room-clause-step
returns-else-has_room-clause-step g c =
    entry-full g.limits g.D.Shelf.told g.D.Shelf.faults (opening (entries_of c.args.self.now) (record { session = c.args.session; number = c.args.number; text = c.args.text }))
    c.args.self.now c.requires.1.0 _

pub returns-else-has_room-clause-hard : goal.returns-else-has_room-clause-hard
returns-else-has_room-clause-hard g c = still_step (g.D.Shelf.hard c.args.self.now.shelf) c.args.self.now.trail.closed
