use Rattle.hv_actor.specs.Acting.{known}
use Rattle.hv_background.proofs.Items.{passes-tested, passes-less}
use Rattle.hv_background.proofs.cleaner.clean_round.Goals as goal

pub returns-in-Ok-clause-adds : goal.returns-in-Ok-clause-adds
returns-in-Ok-clause-adds g c =
    passes-tested g.D.Shelf.told g.D.Shelf.faults g.W.Actor.between g.met.W.Actor.rows g.W.Actor.meanwhile
    (known (g.W.Actor.own c.args.actor.now) (g.W.Actor.house c.args.actor.now)) (known (g.W.Actor.own c.clean_pass.new.actor) (g.W.Actor.house c.clean_pass.new.actor))
    c.in-Ok.swept c.in-Ok.ensures.passes

pub returns-in-Err-clause-adds : goal.returns-in-Err-clause-adds
returns-in-Err-clause-adds g c =
    passes-less g.D.Shelf.told g.D.Shelf.faults g.W.Actor.between g.met.W.Actor.rows g.W.Actor.meanwhile
    (known (g.W.Actor.own c.args.actor.now) (g.W.Actor.house c.args.actor.now)) (known (g.W.Actor.own c.clean_pass.new.actor) (g.W.Actor.house c.clean_pass.new.actor))
    c.in-Err.why c.in-Err.ensures.less
