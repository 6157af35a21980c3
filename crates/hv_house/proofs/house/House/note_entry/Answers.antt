use Rattle.hv_house.proofs.Naming.{entry-done, entry-failed}
use Rattle.hv_house.proofs.house.House.note_entry.Goals as goal

pub returns-in-Ok-clause-step : goal.returns-in-Ok-clause-step
returns-in-Ok-clause-step g c =
    entry-done g.limits g.D.Shelf.told g.D.Shelf.faults c.args.entry c.args.self.now c.note.new.self _ c.in-Ok.ensures.ready c.in-Ok.ensures.noted
    c.in-Ok.ensures.tree_kept c.in-Ok.ensures.tells c.in-Ok.ensures.step c.in-Ok.ensures.cause.later

pub returns-in-Err-clause-step : goal.returns-in-Err-clause-step
returns-in-Err-clause-step g c =
    entry-failed g.limits g.D.Shelf.told g.D.Shelf.faults c.args.entry c.args.self.now c.note.new.self c.in-Err.fault c.in-Err.ensures.stays c.in-Err.ensures.halted
    c.in-Err.ensures.ends c.in-Err.ensures.tree_kept c.in-Err.ensures.tells c.in-Err.ensures.step c.in-Err.ensures.cause.later c.in-Err.ensures.cause.failed
