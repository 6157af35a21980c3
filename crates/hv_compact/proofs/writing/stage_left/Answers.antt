use Rattle.hv_actor.specs.Acting.{known}
use Rattle.hv_compact.proofs.Gets.{works-up, works-done}
use Rattle.hv_compact.proofs.Lists.{empty-so, empty-not, not-false, not-true}
use Rattle.hv_compact.proofs.writing.stage_left.Goals as goal

pub returns-in-Ok-clause-works : goal.returns-in-Ok-clause-works
returns-in-Ok-clause-works g c =
    works-done g.D.Shelf.told g.D.Shelf.faults g.W.Actor.between g.W.Actor.meanwhile c.args.task.job (known (g.W.Actor.own c.args.actor.now) (g.W.Actor.house c.args.actor.now))
    (known (g.W.Actor.own c.stage_some.new.actor) (g.W.Actor.house c.stage_some.new.actor)) tt _ c.in-Ok.ensures.works

pub returns-in-Ok-clause-none : goal.returns-in-Ok-clause-none
returns-in-Ok-clause-none g c = λ so. empty-so c.args.recs.now c.is_empty.result c.is_empty.ensures (not-false c.is_empty.result so)

pub returns-in-Ok-clause-rows : goal.returns-in-Ok-clause-rows
returns-in-Ok-clause-rows g c = λ so. empty-not c.args.recs.now c.is_empty.result c.is_empty.ensures (not-true c.is_empty.result so)

pub returns-clause-works : goal.returns-clause-works
returns-clause-works g c =
    works-up g.D.Shelf.told g.D.Shelf.faults g.W.Actor.between g.W.Actor.meanwhile c.args.task.job (known (g.W.Actor.own c.args.actor.now) (g.W.Actor.house c.args.actor.now))
    (known (g.W.Actor.own c.stage_some.new.actor) (g.W.Actor.house c.stage_some.new.actor)) c.in-Err.why c.in-Err.ensures.works
