use Rattle.hv_beginning.specs.hv_steps.specs.hv_table_reader.specs.hv_acts.specs.hv_telling.specs.hv_house.specs.House.{entries_of}
use Rattle.hv_beginning.specs.hv_steps.specs.Going.{faults_in}
use Rattle.hv_session.proofs.Finishings.{said-finished, unsaid-held, said-goes, replied-goes, said-truly, replied-truly, replied-finished, held-some}
use Rattle.hv_session.proofs.finishing.finish_unless.Goals as goal

pub returns-in-Some-clause-goes : goal.returns-in-Some-clause-goes
returns-in-Some-clause-goes g c =
    said-goes g.D.Shelf.told g.D.Shelf.faults g.W.Actor.between g.met.W.Actor.rows g.W.Actor.meanwhile c.args.paused (g.W.Actor.own c.args.actor.now)
    (g.W.Actor.house c.args.actor.now) c.args.said c.in-Some.reply c.in-Some.is c.requires.says c.requires.running

pub returns-in-Some-clause-answered : goal.returns-in-Some-clause-answered
returns-in-Some-clause-answered g c = λ told.
    said-truly (g.W.Actor.house c.args.actor.now) c.args.paused.way.txn.0 c.args.said c.in-Some.reply c.in-Some.is c.requires.says

pub returns-in-Some-clause-alone : goal.returns-in-Some-clause-alone
returns-in-Some-clause-alone g c = λ alone told stands.
    said-finished g.D.Shelf.told (g.W.Actor.house c.args.actor.now) c.args.paused c.args.said c.in-Some.reply c.in-Some.is c.requires.says stands

pub returns-in-None-clause-goes : goal.returns-in-None-clause-goes
returns-in-None-clause-goes g c =
    replied-goes g.D.Shelf.told g.D.Shelf.faults g.W.Actor.between g.met.W.Actor.rows g.W.Actor.meanwhile c.args.paused (faults_in g.D.Shelf.faults (g.W.Actor.house c.args.actor.now))
    (g.W.Actor.own c.args.actor.now) (g.W.Actor.own c.go_on.new.actor) (g.W.Actor.house c.args.actor.now) (g.W.Actor.house c.go_on.new.actor) c.go_on.result
    c.replied.result c.replied.ensures.replied c.go_on.ensures.goes

pub returns-in-None-clause-answered : goal.returns-in-None-clause-answered
returns-in-None-clause-answered g c = λ told.
    replied-truly c.args.paused.way.txn.0 (g.W.Actor.house c.go_on.new.actor) c.go_on.result c.replied.result c.replied.ensures.replied (c.go_on.ensures.answered told)

pub returns-in-None-clause-alone : goal.returns-in-None-clause-alone
returns-in-None-clause-alone g c = λ alone told stands.
    let before = g.W.Actor.house c.args.actor.now in
    let now = g.W.Actor.house c.go_on.new.actor in
    let held = unsaid-held g.D.Shelf.told before c.args.paused c.args.said c.in-None.is c.requires.says stands in
    replied-finished (entries_of before.house) (entries_of now.house) c.args.paused.way.txn.0 c.go_on.result c.replied.result c.replied.ensures.replied
    ((c.go_on.ensures.alone alone (held-some (entries_of before.house) c.args.paused held) (λ is. held)).truly told)
