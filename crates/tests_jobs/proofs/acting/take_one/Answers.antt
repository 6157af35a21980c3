use Rattle.hv_session.specs.hv_beginning.specs.hv_steps.specs.Going.{faults_in}
use Rattle.hv_session.specs.Doing.{TakesText}
use Rattle.hv_session.specs.Taking.{asked_of}
use Rattle.hv_session.proofs.Statements.{taken-can}
use Rattle.tests_jobs.proofs.Goings.{went-on}
use Rattle.tests_jobs.proofs.acting.take_one.Goals as goal

pub returns-clause-later : goal.returns-clause-later
returns-clause-later g c =
    let before = g.W.Actor.house c.args.actor.now in
    let now = g.W.Actor.house c.take_up.new.actor in
    went-on g.D.Shelf.told g.D.Shelf.faults g.W.Actor.between g.W.Actor.meanwhile (asked_of c.args.asking) (faults_in g.D.Shelf.faults before)
    (g.W.Actor.own c.args.actor.now) (g.W.Actor.own c.take_up.new.actor) before now
    (TakesText g.D.Shelf.told before now (asked_of c.args.asking) c.args.asking.hold) c.take_up.result c.take_up.ensures.takes c.take_up.ensures.halts

pub returns-clause-can : goal.returns-clause-can
returns-clause-can g c =
    let before = g.W.Actor.house c.args.actor.now in
    taken-can g.D.Shelf.told g.D.Shelf.faults g.W.Actor.between (faults_in g.D.Shelf.faults before) (g.W.Actor.own c.args.actor.now) (g.W.Actor.own c.take_up.new.actor)
    before (g.W.Actor.house c.take_up.new.actor) (asked_of c.args.asking) c.args.asking.hold c.take_up.result c.take_up.ensures.takes
