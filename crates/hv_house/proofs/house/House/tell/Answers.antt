use Rattle.hv_house.proofs.Publications.{told-done, untold, shut-hard, untold-hard}
use Rattle.hv_house.proofs.house.House.tell.Goals as goal

pub returns-in-Ok-clause-told : goal.returns-in-Ok-clause-told
returns-in-Ok-clause-told g c =
    told-done g.limits g.D.Shelf.told g.D.Shelf.faults c.args.entry c.args.self.now c.note.new.self _ c.in-Ok.ensures.ready c.in-Ok.ensures.noted
    c.in-Ok.ensures.step

pub returns-in-Err-clause-told : goal.returns-in-Err-clause-told
returns-in-Err-clause-told g c =
    untold g.limits g.D.Shelf.told g.D.Shelf.faults c.args.entry c.args.self.now c.in-Err.fault c.stop_telling.result c.note.new.self c.stop_telling.new.self
    c.stop_telling.ensures.fault c.in-Err.ensures.halted c.in-Err.ensures.ends c.in-Err.ensures.cause.failed c.in-Err.ensures.step c.stop_telling.ensures.stops

pub returns-in-Ok-clause-hard : goal.returns-in-Ok-clause-hard
returns-in-Ok-clause-hard g c = shut-hard _ _ _ _ _ c.in-Ok.ensures.hard

pub returns-in-Err-clause-hard : goal.returns-in-Err-clause-hard
returns-in-Err-clause-hard g c =
    untold-hard g.D.Shelf.hard c.in-Err.fault c.args.self.now c.note.new.self c.stop_telling.new.self c.stop_telling.ensures.stops c.in-Err.ensures.hard
