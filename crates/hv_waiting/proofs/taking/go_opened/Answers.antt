use Rattle.std.proofs.Common.{subst, inr}
use Rattle.hv_session.specs.hv_beginning.specs.hv_steps.specs.hv_table_reader.specs.hv_acts.specs.Told.{trail_in}
use Rattle.hv_session.specs.hv_beginning.specs.hv_steps.specs.declared.reply.Opened.{Opened}
use Rattle.hv_session.specs.hv_beginning.specs.hv_steps.specs.declared.reply.Opened.TheVariants as opened
use Rattle.hv_session.specs.hv_beginning.specs.hv_steps.specs.Going.{faults_in, GainsSome}
use Rattle.hv_session.specs.Doing.{WasStarted}
use Rattle.hv_waiting.specs.declared.passed.Passed.TheVariants as passed
use Rattle.hv_waiting.specs.Beginnings.{BeginsInTurn}
use Rattle.hv_waiting.proofs.Ends.{started-passes, never-passes}
use Rattle.hv_actor.specs.Acting.{known}
use Rattle.hv_waiting.proofs.taking.go_opened.Goals as goal

pub go-requires-clause-was : goal.go-requires-clause-was
go-requires-clause-was g c = subst (WasStarted (trail_in (g.W.Actor.house c.args.actor.now)) c.args.tree) c.in-Started.is c.requires.was

pub returns-in-Started-clause-goes : goal.returns-in-Started-clause-goes
returns-in-Started-clause-goes g c = λ first own asking begins.
    let house = g.W.Actor.house c.args.actor.now in
    started-passes g.D.Shelf.told g.D.Shelf.faults g.W.Actor.between g.met.W.Actor.rows g.W.Actor.meanwhile own
    (g.W.Actor.own c.args.actor.now) (g.W.Actor.own c.go.new.actor) first house (g.W.Actor.house c.go.new.actor)
    asking c.args.tree c.in-Started.way c.go.result c.passed.result c.passed.ensures.passed
    (subst (λ (found : Opened). GainsSome g.D.Shelf.faults g.W.Actor.between (faults_in g.D.Shelf.faults first) (known own first)
    (known (g.W.Actor.own c.args.actor.now) house)
    (BeginsInTurn first house asking c.args.tree found)) c.in-Started.is begins) c.go.ensures.goes c.go.ensures.answered

pub returns-in-Full-clause-goes : goal.returns-in-Full-clause-goes
returns-in-Full-clause-goes g c = λ first own asking begins.
    let house = g.W.Actor.house c.args.actor.now in
    never-passes g.D.Shelf.told g.D.Shelf.faults g.W.Actor.between g.met.W.Actor.rows g.W.Actor.meanwhile own (g.W.Actor.own c.args.actor.now) first house
    asking c.args.tree (BeginsInTurn first house asking c.args.tree (opened.Full c.in-Full.entries)) (passed.Full c.in-Full.entries) (λ added is. is)
    (subst (λ (found : Opened). GainsSome g.D.Shelf.faults g.W.Actor.between (faults_in g.D.Shelf.faults first) (known own first)
    (known (g.W.Actor.own c.args.actor.now) house)
    (BeginsInTurn first house asking c.args.tree found)) c.in-Full.is begins)

pub returns-in-NoMemory-clause-goes : goal.returns-in-NoMemory-clause-goes
returns-in-NoMemory-clause-goes g c = λ first own asking begins.
    let house = g.W.Actor.house c.args.actor.now in
    never-passes g.D.Shelf.told g.D.Shelf.faults g.W.Actor.between g.met.W.Actor.rows g.W.Actor.meanwhile own (g.W.Actor.own c.args.actor.now) first house
    asking c.args.tree (BeginsInTurn first house asking c.args.tree opened.NoMemory) passed.NoMemory (λ added is. is)
    (subst (λ (found : Opened). GainsSome g.D.Shelf.faults g.W.Actor.between (faults_in g.D.Shelf.faults first) (known own first)
    (known (g.W.Actor.own c.args.actor.now) house)
    (BeginsInTurn first house asking c.args.tree found)) c.in-NoMemory.is begins)

pub returns-in-Ended-clause-goes : goal.returns-in-Ended-clause-goes
returns-in-Ended-clause-goes g c = λ first own asking begins.
    let house = g.W.Actor.house c.args.actor.now in
    never-passes g.D.Shelf.told g.D.Shelf.faults g.W.Actor.between g.met.W.Actor.rows g.W.Actor.meanwhile own (g.W.Actor.own c.args.actor.now) first house
    asking c.args.tree (BeginsInTurn first house asking c.args.tree (opened.Ended c.in-Ended.found)) (passed.Ended c.in-Ended.found) (λ added is. inr is)
    (subst (λ (found : Opened). GainsSome g.D.Shelf.faults g.W.Actor.between (faults_in g.D.Shelf.faults first) (known own first)
    (known (g.W.Actor.own c.args.actor.now) house)
    (BeginsInTurn first house asking c.args.tree found)) c.in-Ended.is begins)
