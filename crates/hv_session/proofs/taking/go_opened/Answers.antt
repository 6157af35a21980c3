use Rattle.std.proofs.Common.{subst, inr}
use Rattle.hv_beginning.specs.hv_steps.specs.hv_table_reader.specs.hv_acts.specs.Told.{trail_in}
use Rattle.hv_beginning.specs.hv_steps.specs.declared.reply.Opened.{Opened}
use Rattle.hv_beginning.specs.hv_steps.specs.declared.reply.Opened.TheVariants as opened
use Rattle.hv_session.specs.declared.paused.Carried.TheVariants as carried
use Rattle.hv_beginning.specs.hv_steps.specs.Going.{faults_in, GainsSome}
use Rattle.hv_beginning.specs.hv_steps.specs.Phases.{Begins}
use Rattle.hv_session.specs.Doing.{WasStarted}
use Rattle.hv_session.proofs.Takings.{started-takes, never-takes}
use Rattle.hv_session.proofs.AloneBegins.{begins-alone}
use Rattle.hv_session.proofs.AloneCarries.{started-carries, full-carries, unopened-carries, away-carries}
use Rattle.hv_actor.specs.Acting.{known}
use Rattle.hv_session.proofs.taking.go_opened.Goals as goal

pub go-requires-clause-was : goal.go-requires-clause-was
go-requires-clause-was g c = subst (WasStarted (trail_in (g.W.Actor.house c.args.actor.now)) c.args.tree) c.in-Started.is c.requires.was

pub returns-in-Started-clause-goes : goal.returns-in-Started-clause-goes
returns-in-Started-clause-goes g c = λ first own asking begins.
    let house = g.W.Actor.house c.args.actor.now in
    started-takes g.D.Shelf.told g.D.Shelf.faults g.W.Actor.between g.met.W.Actor.rows g.W.Actor.meanwhile own
    (g.W.Actor.own c.args.actor.now) (g.W.Actor.own c.go.new.actor) first house (g.W.Actor.house c.go.new.actor)
    asking c.args.tree c.in-Started.way c.args.hold c.go.result
    (subst (λ (found : Opened). GainsSome g.D.Shelf.faults g.W.Actor.between (faults_in g.D.Shelf.faults first) (known own first)
    (known (g.W.Actor.own c.args.actor.now) house)
    (Begins first house asking c.args.tree found)) c.in-Started.is begins) c.go.ensures.goes

pub returns-in-Full-clause-goes : goal.returns-in-Full-clause-goes
returns-in-Full-clause-goes g c = λ first own asking begins.
    let house = g.W.Actor.house c.args.actor.now in
    never-takes g.D.Shelf.told g.D.Shelf.faults g.W.Actor.between g.met.W.Actor.rows g.W.Actor.meanwhile own (g.W.Actor.own c.args.actor.now) first house
    asking c.args.tree c.args.hold (Begins first house asking c.args.tree (opened.Full c.in-Full.entries)) (carried.Full c.in-Full.entries) (λ added is. inr is)
    (subst (λ (found : Opened). GainsSome g.D.Shelf.faults g.W.Actor.between (faults_in g.D.Shelf.faults first) (known own first)
    (known (g.W.Actor.own c.args.actor.now) house)
    (Begins first house asking c.args.tree found)) c.in-Full.is begins)

pub returns-in-NoMemory-clause-goes : goal.returns-in-NoMemory-clause-goes
returns-in-NoMemory-clause-goes g c = λ first own asking begins.
    let house = g.W.Actor.house c.args.actor.now in
    never-takes g.D.Shelf.told g.D.Shelf.faults g.W.Actor.between g.met.W.Actor.rows g.W.Actor.meanwhile own (g.W.Actor.own c.args.actor.now) first house
    asking c.args.tree c.args.hold (Begins first house asking c.args.tree opened.NoMemory) carried.NoMemory (λ added is. inr is)
    (subst (λ (found : Opened). GainsSome g.D.Shelf.faults g.W.Actor.between (faults_in g.D.Shelf.faults first) (known own first)
    (known (g.W.Actor.own c.args.actor.now) house)
    (Begins first house asking c.args.tree found)) c.in-NoMemory.is begins)

pub returns-in-Ended-clause-goes : goal.returns-in-Ended-clause-goes
returns-in-Ended-clause-goes g c = λ first own asking begins.
    let house = g.W.Actor.house c.args.actor.now in
    never-takes g.D.Shelf.told g.D.Shelf.faults g.W.Actor.between g.met.W.Actor.rows g.W.Actor.meanwhile own (g.W.Actor.own c.args.actor.now) first house
    asking c.args.tree c.args.hold (Begins first house asking c.args.tree (opened.Ended c.in-Ended.found)) (carried.Ended c.in-Ended.found) (λ added is. inr is)
    (subst (λ (found : Opened). GainsSome g.D.Shelf.faults g.W.Actor.between (faults_in g.D.Shelf.faults first) (known own first)
    (known (g.W.Actor.own c.args.actor.now) house)
    (Begins first house asking c.args.tree found)) c.in-Ended.is begins)

pub returns-in-Started-clause-alone : goal.returns-in-Started-clause-alone
returns-in-Started-clause-alone g c = λ acts first own asking runs running whole begins.
    let house = g.W.Actor.house c.args.actor.now in
    let kept = g.met.W.Actor.kept c.args.actor.now c.requires.keeps in
    let begun =
    subst (λ (found : Opened). GainsSome g.D.Shelf.faults g.W.Actor.between (faults_in g.D.Shelf.faults first) (known own first)
    (known (g.W.Actor.own c.args.actor.now) house)
    (Begins first house asking c.args.tree found)) c.in-Started.is begins in
    started-carries g.D.Shelf.told g.D.Shelf.faults g.W.Actor.between g.W.Actor.meanwhile acts own (g.W.Actor.own c.args.actor.now) first house asking c.args.tree runs
    c.requires.running kept c.in-Started.way c.args.hold (g.W.Actor.house c.go.new.actor) c.go.result begun
    (begins-alone g.D.Shelf.told g.D.Shelf.faults g.W.Actor.between acts.nothing asking c.args.tree own (g.W.Actor.own c.args.actor.now) first house (opened.Started c.in-Started.way) whole kept begun)
    (c.go.ensures.alone acts)

pub returns-in-Full-clause-alone : goal.returns-in-Full-clause-alone
returns-in-Full-clause-alone g c = λ acts first own asking runs running whole begins.
    let house = g.W.Actor.house c.args.actor.now in
    let kept = g.met.W.Actor.kept c.args.actor.now c.requires.keeps in
    let begun =
    subst (λ (found : Opened). GainsSome g.D.Shelf.faults g.W.Actor.between (faults_in g.D.Shelf.faults first) (known own first)
    (known (g.W.Actor.own c.args.actor.now) house)
    (Begins first house asking c.args.tree found)) c.in-Full.is begins in
    full-carries g.D.Shelf.told g.D.Shelf.faults g.W.Actor.between g.W.Actor.meanwhile acts own (g.W.Actor.own c.args.actor.now) first house asking c.args.tree runs
    c.requires.running kept c.args.hold c.in-Full.entries begun
    (begins-alone g.D.Shelf.told g.D.Shelf.faults g.W.Actor.between acts.nothing asking c.args.tree own (g.W.Actor.own c.args.actor.now) first house (opened.Full c.in-Full.entries) whole kept begun)

pub returns-in-NoMemory-clause-alone : goal.returns-in-NoMemory-clause-alone
returns-in-NoMemory-clause-alone g c = λ acts first own asking runs running whole begins.
    let house = g.W.Actor.house c.args.actor.now in
    let kept = g.met.W.Actor.kept c.args.actor.now c.requires.keeps in
    let begun =
    subst (λ (found : Opened). GainsSome g.D.Shelf.faults g.W.Actor.between (faults_in g.D.Shelf.faults first) (known own first)
    (known (g.W.Actor.own c.args.actor.now) house)
    (Begins first house asking c.args.tree found)) c.in-NoMemory.is begins in
    unopened-carries g.D.Shelf.told g.D.Shelf.faults g.W.Actor.between g.W.Actor.meanwhile acts own (g.W.Actor.own c.args.actor.now) first house asking c.args.tree runs
    c.requires.running kept c.args.hold begun
    (begins-alone g.D.Shelf.told g.D.Shelf.faults g.W.Actor.between acts.nothing asking c.args.tree own (g.W.Actor.own c.args.actor.now) first house opened.NoMemory whole kept begun)

pub returns-in-Ended-clause-alone : goal.returns-in-Ended-clause-alone
returns-in-Ended-clause-alone g c = λ acts first own asking runs running whole begins.
    let house = g.W.Actor.house c.args.actor.now in
    let kept = g.met.W.Actor.kept c.args.actor.now c.requires.keeps in
    let begun =
    subst (λ (found : Opened). GainsSome g.D.Shelf.faults g.W.Actor.between (faults_in g.D.Shelf.faults first) (known own first)
    (known (g.W.Actor.own c.args.actor.now) house)
    (Begins first house asking c.args.tree found)) c.in-Ended.is begins in
    away-carries g.D.Shelf.told g.D.Shelf.faults g.W.Actor.between g.W.Actor.meanwhile acts own (g.W.Actor.own c.args.actor.now) first house asking c.args.tree runs
    c.requires.running kept c.args.hold c.in-Ended.found c.requires.hold begun
    (begins-alone g.D.Shelf.told g.D.Shelf.faults g.W.Actor.between acts.nothing asking c.args.tree own (g.W.Actor.own c.args.actor.now) first house (opened.Ended c.in-Ended.found) whole kept begun)
