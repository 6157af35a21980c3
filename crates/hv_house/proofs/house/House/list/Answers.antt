use Rattle.std.proofs.Common.{Some}
use Rattle.hv_trail.specs.declared.trail.Reader.TheVariants.{Txn}
use Rattle.hv_house.proofs.Hards.{still_step}
use Rattle.hv_house.proofs.Readings.{step-unasked}
use Rattle.hv_house.proofs.house.House.list.Goals as goal

pub returns-in-Some-clause-step : goal.returns-in-Some-clause-step
returns-in-Some-clause-step g c = step-unasked g.D.Shelf.told g.D.Shelf.faults (Some (Txn c.args.by)) c.args.self.now c.requires.1.0.kept.running

pub returns-in-Some-clause-hard : goal.returns-in-Some-clause-hard
returns-in-Some-clause-hard g c = still_step (g.D.Shelf.hard c.args.self.now.shelf) c.args.self.now.trail.closed
