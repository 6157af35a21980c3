use Rattle.std.proofs.Common.{Ok}
use Rattle.hv_actor.specs.Acting.{known}
use Rattle.hv_compact.proofs.Gets.{works-up, works-then, works-untold}
use Rattle.hv_compact.proofs.Lists.{ok-under}
use Rattle.hv_compact.proofs.compacting.write_listed.Goals as goal

pub write_all-requires-clause-listed : goal.write_all-requires-clause-listed
write_all-requires-clause-listed g c = λ is.
    c.in-Ok.ensures.listed
    (works-untold g.D.Shelf.told g.D.Shelf.faults g.W.Actor.between g.W.Actor.meanwhile c.args.task.job (known (g.W.Actor.own c.args.actor.now) (g.W.Actor.house c.args.actor.now)) (known (g.W.Actor.own c.list.new.actor) (g.W.Actor.house c.list.new.actor)) (Ok c.in-Ok.listing) c.in-Ok.ensures.works is)

pub returns-in-Ok-clause-works : goal.returns-in-Ok-clause-works
returns-in-Ok-clause-works g c =
    works-then g.D.Shelf.told g.D.Shelf.faults g.W.Actor.between g.W.Actor.meanwhile c.args.task.job g.met.W.Actor.rows (known (g.W.Actor.own c.args.actor.now) (g.W.Actor.house c.args.actor.now)) (known (g.W.Actor.own c.list.new.actor) (g.W.Actor.house c.list.new.actor))
    (known (g.W.Actor.own c.write_all.new.actor) (g.W.Actor.house c.write_all.new.actor)) c.in-Ok.listing c.write_all.result c.in-Ok.ensures.works
    c.write_all.ensures.works

pub returns-in-Ok-clause-staged : goal.returns-in-Ok-clause-staged
returns-in-Ok-clause-staged g c =
    ok-under c.write_all.result _ _
    (λ is. c.write_all.ensures.staged
    (works-untold g.D.Shelf.told g.D.Shelf.faults g.W.Actor.between g.W.Actor.meanwhile c.args.task.job (known (g.W.Actor.own c.list.new.actor) (g.W.Actor.house c.list.new.actor))
    (known (g.W.Actor.own c.write_all.new.actor) (g.W.Actor.house c.write_all.new.actor)) c.write_all.result c.write_all.ensures.works is))

pub returns-in-Err-clause-works : goal.returns-in-Err-clause-works
returns-in-Err-clause-works g c =
    works-up g.D.Shelf.told g.D.Shelf.faults g.W.Actor.between g.W.Actor.meanwhile c.args.task.job (known (g.W.Actor.own c.args.actor.now) (g.W.Actor.house c.args.actor.now)) (known (g.W.Actor.own c.list.new.actor) (g.W.Actor.house c.list.new.actor)) c.in-Err.why c.in-Err.ensures.works
