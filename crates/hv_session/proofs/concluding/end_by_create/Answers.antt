use Rattle.hv_beginning.specs.hv_steps.specs.hv_table_reader.specs.hv_acts.specs.Told.{trail_in}
use Rattle.hv_beginning.specs.hv_steps.specs.declared.ready.End.TheVariants as last
use Rattle.hv_beginning.specs.hv_steps.specs.Going.{faults_in}
use Rattle.hv_beginning.specs.hv_steps.specs.Phases.{NoCause}
use Rattle.hv_beginning.specs.hv_steps.proofs.Joining.{opened-lasts, adds-front}
use Rattle.hv_session.proofs.Commits.{concludes-create, concludes-without, create-answers, lacks-answers}
use Rattle.hv_session.proofs.concluding.end_by_create.Goals as goal

pub make-requires-clause-due : goal.make-requires-clause-due
make-requires-clause-due g c = c.requires.can.0

pub end_without-requires-clause-was : goal.end_without-requires-clause-was
end_without-requires-clause-was g c =
    let before = g.W.Actor.house c.args.actor.now in
    let now = g.W.Actor.house c.make.new.actor in
    opened-lasts c.args.way.txn.0 (trail_in before) (trail_in now)
    (adds-front g.D.Shelf.faults g.W.Actor.between g.met.W.Actor.rows (g.W.Actor.own c.args.actor.now) (g.W.Actor.own c.make.new.actor) before now _ c.in-Err.ensures.adds)
    c.requires.was

pub returns-in-Ok-clause-goes : goal.returns-in-Ok-clause-goes
returns-in-Ok-clause-goes g c =
    concludes-create g.D.Shelf.told g.D.Shelf.faults g.W.Actor.between g.met.W.Actor.rows g.W.Actor.meanwhile
    (faults_in g.D.Shelf.faults (g.W.Actor.house c.args.actor.now)) c.args.way.txn.0 (g.W.Actor.own c.args.actor.now) (g.W.Actor.own c.make.new.actor)
    (g.W.Actor.house c.args.actor.now) (g.W.Actor.house c.make.new.actor) c.args.text c.in-Ok.table c.made.result c.made.ensures
    c.in-Ok.ensures.adds c.in-Ok.ensures.left c.in-Ok.ensures.replied

pub returns-in-Ok-clause-answered : goal.returns-in-Ok-clause-answered
returns-in-Ok-clause-answered g c = λ told.
    create-answers c.args.way.txn.0 (g.W.Actor.house c.make.new.actor) c.args.text c.in-Ok.table.at c.made.result c.made.ensures c.requires.can.1 c.in-Ok.ensures.replied

pub returns-in-Err-clause-goes : goal.returns-in-Err-clause-goes
returns-in-Err-clause-goes g c =
    let low = faults_in g.D.Shelf.faults (g.W.Actor.house c.args.actor.now) in
    concludes-without g.D.Shelf.told g.D.Shelf.faults g.W.Actor.between g.met.W.Actor.rows g.W.Actor.meanwhile low c.args.way.txn.0
    (g.W.Actor.own c.args.actor.now) (g.W.Actor.own c.make.new.actor) (g.W.Actor.house c.args.actor.now) (g.W.Actor.house c.make.new.actor)
    (g.W.Actor.own c.end_without.new.actor) (g.W.Actor.house c.end_without.new.actor)
    (record { end = last.Create; text = c.args.text }) c.end_without.result c.in-Err.ensures.adds (c.end_without.ensures.goes low)

pub returns-in-Err-clause-answered : goal.returns-in-Err-clause-answered
returns-in-Err-clause-answered g c = λ told.
    lacks-answers g.D.Shelf.told g.D.Shelf.faults g.W.Actor.between g.W.Actor.meanwhile 0 c.args.way.txn.0 (g.W.Actor.own c.make.new.actor)
    (g.W.Actor.own c.end_without.new.actor) (g.W.Actor.house c.make.new.actor) (g.W.Actor.house c.end_without.new.actor) NoCause c.end_without.result
    (c.end_without.ensures.goes 0)
