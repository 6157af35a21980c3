use Rattle.hv_session.specs.hv_beginning.specs.hv_steps.specs.Going.{faults_in}
use Rattle.hv_session.specs.hv_beginning.specs.hv_steps.specs.Phases.{Sees}
use Rattle.hv_session.specs.Doing.{EndsAs}
use Rattle.hv_session.specs.hv_beginning.specs.hv_steps.specs.declared.reply.Outcome.TheVariants as outcome
use Rattle.hv_session.proofs.Takings.{goes-said, seen-comes, seen-ends, unseen-ends, unseen-truly, halted-so, done-told, done-way}
use Rattle.hv_waiting.proofs.going.go_to_end.Goals as goal

pub end_as-requires-clause-was : goal.end_as-requires-clause-was
end_as-requires-clause-was g c =
    let was = c.requires.was in
    let before = g.W.Actor.house c.args.actor.now in
    let now = g.W.Actor.house c.see.new.actor in
    let low = faults_in g.D.Shelf.faults before in (
      was.0,
      done-way g.D.Shelf.told g.D.Shelf.faults g.W.Actor.between g.met.W.Actor.rows g.W.Actor.meanwhile c.args.way.txn.0 low
          (g.W.Actor.own c.args.actor.now) (g.W.Actor.own c.see.new.actor) before now (Sees g.D.Shelf.told now c.args.way c.args.tree.now) (outcome.Means c.in-Ok-Means.meaning)
          was.0 c.args.way c.args.tree.now (goes-said c.in-Ok-Means.field-0-is c.in-Ok-Means.ensures.goes) was.1,
    )

pub end_as-requires-clause-comes : goal.end_as-requires-clause-comes
end_as-requires-clause-comes g c =
    let before = g.W.Actor.house c.args.actor.now in
    let now = g.W.Actor.house c.see.new.actor in
    seen-comes g.D.Shelf.told g.D.Shelf.faults g.W.Actor.between g.met.W.Actor.rows g.W.Actor.meanwhile c.args.way.txn.0 (faults_in g.D.Shelf.faults before)
    (g.W.Actor.own c.args.actor.now) (g.W.Actor.own c.see.new.actor) before now c.args.way c.args.tree.now c.in-Ok-Means.meaning
    (goes-said c.in-Ok-Means.field-0-is c.in-Ok-Means.ensures.goes)

pub returns-in-Ok-Means-clause-goes : goal.returns-in-Ok-Means-clause-goes
returns-in-Ok-Means-clause-goes g c =
    seen-ends g.D.Shelf.told g.D.Shelf.faults g.W.Actor.between g.met.W.Actor.rows g.W.Actor.meanwhile
    (g.W.Actor.own c.args.actor.now) (g.W.Actor.own c.see.new.actor) (g.W.Actor.own c.end_as.new.actor)
    (g.W.Actor.house c.args.actor.now) (g.W.Actor.house c.see.new.actor) (g.W.Actor.house c.end_as.new.actor)
    c.requires.was.0 c.args.way c.args.tree.now c.in-Ok-Means.meaning c.end_as.result c.requires.was.1
    (goes-said c.in-Ok-Means.field-0-is c.in-Ok-Means.ensures.goes) c.end_as.ensures.goes

pub returns-in-Ok-Means-clause-answered : goal.returns-in-Ok-Means-clause-answered
returns-in-Ok-Means-clause-answered g c = λ told.
    let before = g.W.Actor.house c.args.actor.now in
    let now = g.W.Actor.house c.see.new.actor in
    c.end_as.ensures.answered
    (done-told g.D.Shelf.told g.D.Shelf.faults g.W.Actor.between g.met.W.Actor.rows g.W.Actor.meanwhile c.args.way.txn.0 (faults_in g.D.Shelf.faults before)
    (g.W.Actor.own c.args.actor.now) (g.W.Actor.own c.see.new.actor) before now (Sees g.D.Shelf.told now c.args.way c.args.tree.now) (outcome.Means c.in-Ok-Means.meaning)
    (goes-said c.in-Ok-Means.field-0-is c.in-Ok-Means.ensures.goes) told)

pub returns-in-Ok-Ended-clause-goes : goal.returns-in-Ok-Ended-clause-goes
returns-in-Ok-Ended-clause-goes g c =
    unseen-ends g.D.Shelf.told g.D.Shelf.faults g.W.Actor.between g.met.W.Actor.rows g.W.Actor.meanwhile (faults_in g.D.Shelf.faults (g.W.Actor.house c.args.actor.now))
    (g.W.Actor.own c.args.actor.now) (g.W.Actor.own c.see.new.actor) (g.W.Actor.house c.args.actor.now) (g.W.Actor.house c.see.new.actor)
    c.args.way c.args.tree.now c.in-Ok-Ended.found (goes-said c.in-Ok-Ended.field-0-is c.in-Ok-Ended.ensures.goes)

pub returns-in-Ok-Ended-clause-answered : goal.returns-in-Ok-Ended-clause-answered
returns-in-Ok-Ended-clause-answered g c = λ told.
    unseen-truly g.D.Shelf.told g.D.Shelf.faults g.W.Actor.between g.met.W.Actor.rows g.W.Actor.meanwhile (faults_in g.D.Shelf.faults (g.W.Actor.house c.args.actor.now))
    (g.W.Actor.own c.args.actor.now) (g.W.Actor.own c.see.new.actor) (g.W.Actor.house c.args.actor.now) (g.W.Actor.house c.see.new.actor)
    c.args.way c.args.tree.now c.in-Ok-Ended.found (goes-said c.in-Ok-Ended.field-0-is c.in-Ok-Ended.ensures.goes)

pub returns-in-Err-clause-goes : goal.returns-in-Err-clause-goes
returns-in-Err-clause-goes g c =
    let before = g.W.Actor.house c.args.actor.now in
    let now = g.W.Actor.house c.see.new.actor in
    halted-so g.D.Shelf.told g.D.Shelf.faults g.W.Actor.between g.met.W.Actor.rows g.W.Actor.meanwhile c.args.way.txn.0 (faults_in g.D.Shelf.faults before)
    (g.W.Actor.own c.args.actor.now) (g.W.Actor.own c.see.new.actor) before now (Sees g.D.Shelf.told now c.args.way c.args.tree.now)
    (EndsAs g.D.Shelf.told now c.args.way c.args.tree.now) c.in-Err.why c.in-Err.ensures.goes
