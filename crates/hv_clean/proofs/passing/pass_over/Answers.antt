use Rattle.hv_actor.specs.Acting.{known}
use Rattle.hv_clean.specs.Passing.{nothing}
use Rattle.hv_clean.proofs.Moved.{over-ok, moves-each}
use Rattle.hv_clean.proofs.Came.{over-up, over-stop}
use Rattle.hv_clean.proofs.passing.pass_over.Goals as goal

pub pass_rest-requires-clause-running : goal.pass_rest-requires-clause-running
pass_rest-requires-clause-running g c =
    (moves-each g.D.Shelf.told g.D.Shelf.faults g.W.Actor.between g.met.W.Actor.rows g.W.Actor.meanwhile (known (g.W.Actor.own c.args.actor.now) (g.W.Actor.house c.args.actor.now)) (known (g.W.Actor.own c.clean_jobs.new.actor) (g.W.Actor.house c.clean_jobs.new.actor)) c.args.jobs.now nothing c.clean_jobs.new.swept c.in-Ok.ensures.cleans).running

pub returns-in-Ok-clause-passes : goal.returns-in-Ok-clause-passes
returns-in-Ok-clause-passes g c =
    over-ok g.D.Shelf.told g.D.Shelf.faults g.W.Actor.between g.met.W.Actor.rows g.W.Actor.meanwhile (known (g.W.Actor.own c.args.actor.now) (g.W.Actor.house c.args.actor.now)) (known (g.W.Actor.own c.clean_jobs.new.actor) (g.W.Actor.house c.clean_jobs.new.actor)) (known (g.W.Actor.own c.pass_rest.new.actor) (g.W.Actor.house c.pass_rest.new.actor)) c.args.jobs.now c.clean_jobs.new.swept c.pass_rest.result c.in-Ok.ensures.cleans c.pass_rest.ensures.passes

pub returns-in-Ok-clause-less : goal.returns-in-Ok-clause-less
returns-in-Ok-clause-less g c =
    over-up g.D.Shelf.told g.D.Shelf.faults g.W.Actor.between g.met.W.Actor.rows g.W.Actor.meanwhile (known (g.W.Actor.own c.args.actor.now) (g.W.Actor.house c.args.actor.now)) (known (g.W.Actor.own c.clean_jobs.new.actor) (g.W.Actor.house c.clean_jobs.new.actor)) (known (g.W.Actor.own c.pass_rest.new.actor) (g.W.Actor.house c.pass_rest.new.actor)) c.args.jobs.now c.clean_jobs.new.swept c.pass_rest.result
    c.in-Ok.ensures.cleans c.pass_rest.ensures.less

pub returns-in-Err-clause-less : goal.returns-in-Err-clause-less
returns-in-Err-clause-less g c =
    over-stop g.D.Shelf.told g.D.Shelf.faults g.W.Actor.between g.met.W.Actor.rows g.W.Actor.meanwhile (known (g.W.Actor.own c.args.actor.now) (g.W.Actor.house c.args.actor.now)) (known (g.W.Actor.own c.clean_jobs.new.actor) (g.W.Actor.house c.clean_jobs.new.actor)) c.args.jobs.now c.in-Err.why c.in-Err.ensures.less
