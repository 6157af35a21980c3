use Rattle.hv_actor.specs.Acting.{known}
use Rattle.hv_clean.proofs.Moved.{rest-ok, moves-all}
use Rattle.hv_clean.proofs.Came.{rest-up, rest-stop}
use Rattle.hv_clean.proofs.passing.pass_rest.Goals as goal

pub end_pass-requires-clause-running : goal.end_pass-requires-clause-running
end_pass-requires-clause-running g c =
    (moves-all g.D.Shelf.told g.D.Shelf.faults g.W.Actor.between g.met.W.Actor.rows g.W.Actor.meanwhile (known (g.W.Actor.own c.args.actor.now) (g.W.Actor.house c.args.actor.now)) (known (g.W.Actor.own c.forget_all.new.actor) (g.W.Actor.house c.forget_all.new.actor)) c.args.before c.forget_all.new.swept c.in-Ok.ensures.forgets).running

pub returns-in-Ok-clause-passes : goal.returns-in-Ok-clause-passes
returns-in-Ok-clause-passes g c =
    rest-ok g.D.Shelf.told g.D.Shelf.faults g.W.Actor.between g.met.W.Actor.rows g.W.Actor.meanwhile (known (g.W.Actor.own c.args.actor.now) (g.W.Actor.house c.args.actor.now)) (known (g.W.Actor.own c.forget_all.new.actor) (g.W.Actor.house c.forget_all.new.actor)) (known (g.W.Actor.own c.end_pass.new.actor) (g.W.Actor.house c.end_pass.new.actor)) c.args.before c.forget_all.new.swept c.end_pass.result c.in-Ok.ensures.forgets c.end_pass.ensures.sweeps

pub returns-in-Ok-clause-less : goal.returns-in-Ok-clause-less
returns-in-Ok-clause-less g c =
    rest-up g.D.Shelf.told g.D.Shelf.faults g.W.Actor.between g.met.W.Actor.rows g.W.Actor.meanwhile (known (g.W.Actor.own c.args.actor.now) (g.W.Actor.house c.args.actor.now)) (known (g.W.Actor.own c.forget_all.new.actor) (g.W.Actor.house c.forget_all.new.actor)) (known (g.W.Actor.own c.end_pass.new.actor) (g.W.Actor.house c.end_pass.new.actor)) c.args.before c.forget_all.new.swept c.end_pass.result
    c.in-Ok.ensures.forgets c.end_pass.ensures.less

pub returns-in-Err-clause-less : goal.returns-in-Err-clause-less
returns-in-Err-clause-less g c =
    rest-stop g.D.Shelf.told g.D.Shelf.faults g.W.Actor.between g.met.W.Actor.rows g.W.Actor.meanwhile (known (g.W.Actor.own c.args.actor.now) (g.W.Actor.house c.args.actor.now)) (known (g.W.Actor.own c.forget_all.new.actor) (g.W.Actor.house c.forget_all.new.actor)) c.args.before c.in-Err.why c.in-Err.ensures.less
