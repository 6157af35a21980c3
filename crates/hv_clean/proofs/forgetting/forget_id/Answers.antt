use Rattle.hv_actor.specs.Acting.{known}
use Rattle.hv_clean.proofs.Moved.{id-ok, less-up, less-lack}
use Rattle.hv_clean.proofs.forgetting.forget_id.Goals as goal

pub returns-in-Err-clause-less : goal.returns-in-Err-clause-less
returns-in-Err-clause-less g c = less-lack g.D.Shelf.told g.D.Shelf.faults g.W.Actor.between g.met.W.Actor.rows g.W.Actor.meanwhile (known (g.W.Actor.own c.args.actor.now) (g.W.Actor.house c.args.actor.now)) c.requires.running

pub remove_all_lost-requires : goal.remove_all_lost-requires
remove_all_lost-requires g c = record { keeps = c.requires.keeps; running = c.requires.running; lost = (c.requires.lost, c.in-Ok.ensures.lost) }

pub returns-in-Ok-remove_all_lost-clause-forgets : goal.returns-in-Ok-remove_all_lost-clause-forgets
returns-in-Ok-remove_all_lost-clause-forgets g c =
    id-ok g.D.Shelf.told g.D.Shelf.faults g.W.Actor.between g.met.W.Actor.rows g.W.Actor.meanwhile (known (g.W.Actor.own c.args.actor.now) (g.W.Actor.house c.args.actor.now)) (known (g.W.Actor.own c.remove_all_lost.new.actor) (g.W.Actor.house c.remove_all_lost.new.actor)) (known (g.W.Actor.own c.forget.new.actor) (g.W.Actor.house c.forget.new.actor)) c.args.id c.args.swept.now c.remove_all_lost.new.swept
    c.forget.new.swept c.forget.result c.in-Ok-remove_all_lost.ensures.sweeps c.forget.ensures.forgets

pub returns-in-Ok-remove_all_lost-clause-less : goal.returns-in-Ok-remove_all_lost-clause-less
returns-in-Ok-remove_all_lost-clause-less g c =
    less-up g.D.Shelf.told g.D.Shelf.faults g.W.Actor.between g.met.W.Actor.rows g.W.Actor.meanwhile (known (g.W.Actor.own c.args.actor.now) (g.W.Actor.house c.args.actor.now)) (known (g.W.Actor.own c.remove_all_lost.new.actor) (g.W.Actor.house c.remove_all_lost.new.actor)) (known (g.W.Actor.own c.forget.new.actor) (g.W.Actor.house c.forget.new.actor)) c.args.swept.now c.remove_all_lost.new.swept c.forget.result c.in-Ok-remove_all_lost.ensures.sweeps c.forget.ensures.less
