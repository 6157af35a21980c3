use Rattle.hv_acts.proofs.Steps.{whole-keeps}
use Rattle.hv_acts.proofs.told.ToldHouse.new.Goals as goal

pub returns-clause-keeps : goal.returns-clause-keeps
returns-clause-keeps g c = whole-keeps g.D.Shelf.told c.args.house c.requires.whole
