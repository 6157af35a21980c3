use Rattle.hv_beginning.specs.hv_steps.specs.hv_table_reader.specs.hv_acts.specs.Told.{trail_in}
use Rattle.hv_beginning.specs.hv_steps.specs.Going.{faults_in}
use Rattle.hv_beginning.specs.hv_steps.specs.Phases.{NoCause}
use Rattle.hv_beginning.specs.hv_steps.specs.declared.ready.End.TheVariants as last
use Rattle.hv_beginning.specs.hv_steps.proofs.Joining.{opened-lasts, adds-front}
use Rattle.hv_session.proofs.Commits.{so-due, concludes-commit, concludes-without, commit-answers, lacks-answers}
use Rattle.hv_session.proofs.concluding.end_by_commit.Goals as goal

pub commit-requires-clause-small : goal.commit-requires-clause-small
commit-requires-clause-small g c = c.requires.can.0

pub commit-requires-clause-can : goal.commit-requires-clause-can
commit-requires-clause-can g c = c.requires.can.1

pub commit-requires-clause-due : goal.commit-requires-clause-due
commit-requires-clause-due g c = λ told.
    so-due (trail_in (g.W.Actor.house c.args.actor.now)) c.args.way.txn c.args.wrote c.args.name c.args.put c.args.text (c.requires.can.2 told)

pub end_without-requires-clause-was : goal.end_without-requires-clause-was
end_without-requires-clause-was g c =
    let before = g.W.Actor.house c.args.actor.now in
    let now = g.W.Actor.house c.commit.new.actor in
    opened-lasts c.args.way.txn.0 (trail_in before) (trail_in now)
    (adds-front g.D.Shelf.faults g.W.Actor.between g.met.W.Actor.rows (g.W.Actor.own c.args.actor.now) (g.W.Actor.own c.commit.new.actor) before now _ c.in-Err.ensures.adds)
    c.requires.was

pub returns-in-Ok-clause-goes : goal.returns-in-Ok-clause-goes
returns-in-Ok-clause-goes g c =
    concludes-commit g.D.Shelf.told g.D.Shelf.faults g.W.Actor.between g.met.W.Actor.rows g.W.Actor.meanwhile
    (faults_in g.D.Shelf.faults (g.W.Actor.house c.args.actor.now)) c.args.way.txn.0 (g.W.Actor.own c.args.actor.now) (g.W.Actor.own c.commit.new.actor)
    (g.W.Actor.house c.args.actor.now) (g.W.Actor.house c.commit.new.actor) c.args.wrote c.args.name c.args.put c.args.text c.in-Ok.found c.committed.result
    c.committed.ensures c.in-Ok.ensures.adds c.in-Ok.ensures.left c.in-Ok.ensures.ended

pub returns-in-Ok-clause-answered : goal.returns-in-Ok-clause-answered
returns-in-Ok-clause-answered g c = λ told.
    commit-answers c.args.way.txn.0 (g.W.Actor.house c.commit.new.actor) c.args.text c.in-Ok.found c.committed.result c.committed.ensures
    (c.in-Ok.ensures.answered c.args.text (c.requires.can.2 told))

pub returns-in-Err-clause-goes : goal.returns-in-Err-clause-goes
returns-in-Err-clause-goes g c =
    let low = faults_in g.D.Shelf.faults (g.W.Actor.house c.args.actor.now) in
    concludes-without g.D.Shelf.told g.D.Shelf.faults g.W.Actor.between g.met.W.Actor.rows g.W.Actor.meanwhile low c.args.way.txn.0
    (g.W.Actor.own c.args.actor.now) (g.W.Actor.own c.commit.new.actor) (g.W.Actor.house c.args.actor.now) (g.W.Actor.house c.commit.new.actor)
    (g.W.Actor.own c.end_without.new.actor) (g.W.Actor.house c.end_without.new.actor)
    (record { end = last.Commit c.args.wrote c.args.name c.args.put; text = c.args.text }) c.end_without.result c.in-Err.ensures.adds (c.end_without.ensures.goes low)

pub returns-in-Err-clause-answered : goal.returns-in-Err-clause-answered
returns-in-Err-clause-answered g c = λ told.
    lacks-answers g.D.Shelf.told g.D.Shelf.faults g.W.Actor.between g.W.Actor.meanwhile 0 c.args.way.txn.0 (g.W.Actor.own c.commit.new.actor)
    (g.W.Actor.own c.end_without.new.actor) (g.W.Actor.house c.commit.new.actor) (g.W.Actor.house c.end_without.new.actor) NoCause c.end_without.result
    (c.end_without.ensures.goes 0)
