use Rattle.hv_house.proofs.Hards.{still_step}
use Rattle.hv_house.proofs.house.House.files_at.Goals as goal

pub returns-in_err-list-clause-hard : goal.returns-in_err-list-clause-hard
returns-in_err-list-clause-hard g c = still_step (g.D.Shelf.hard c.args.self.now.shelf) c.args.self.now.trail.closed
