use Rattle.std.proofs.Common.{subst}
use Rattle.hv_session.specs.hv_beginning.specs.hv_steps.specs.hv_table_reader.specs.hv_acts.specs.Told.{trail_in}
use Rattle.hv_session.specs.hv_beginning.specs.hv_steps.specs.Going.{faults_in}
use Rattle.hv_session.specs.hv_beginning.specs.hv_steps.specs.Phases.{PreparesAsked, CanConcludeIn}
use Rattle.hv_session.specs.hv_beginning.specs.hv_steps.specs.Requests.{IsAskIn}
use Rattle.hv_session.specs.Doing.{EndsFrom}
use Rattle.hv_session.specs.hv_beginning.specs.hv_steps.specs.declared.reply.Prepared.TheVariants as prepared
use Rattle.hv_session.specs.hv_beginning.specs.hv_steps.proofs.Joining.{on-way-opened}
use Rattle.hv_session.proofs.Takings.{goes-said, ready-ends, ended-ends, halted-so, ended-truly, done-told, done-way}
use Rattle.hv_waiting.proofs.going.end_as.Goals as goal

pub conclude-requires-clause-was : goal.conclude-requires-clause-was
conclude-requires-clause-was g c =
    let was = c.requires.was in
    let before = g.W.Actor.house c.args.actor.now in
    let now = g.W.Actor.house c.get_ready.new.actor in
    on-way-opened (trail_in now) was.0 c.args.way c.args.tree.now
    (done-way g.D.Shelf.told g.D.Shelf.faults g.W.Actor.between g.met.W.Actor.rows g.W.Actor.meanwhile c.args.way.txn.0 (faults_in g.D.Shelf.faults before)
    (g.W.Actor.own c.args.actor.now) (g.W.Actor.own c.get_ready.new.actor) before now (PreparesAsked c.args.way.txn.0 now (IsAskIn now c.args.way c.args.tree.now) c.args.meaning) (prepared.Ready c.in-Ok-Ready.ready)
    was.0 c.args.way c.args.tree.now (goes-said c.in-Ok-Ready.field-0-is c.in-Ok-Ready.ensures.goes) was.1)

pub conclude-requires-clause-can : goal.conclude-requires-clause-can
conclude-requires-clause-can g c =
    subst (CanConcludeIn g.D.Shelf.told (g.W.Actor.house c.get_ready.new.actor) c.args.way) c.in-Ok-Ready.field-0-is c.in-Ok-Ready.ensures.can

pub returns-in-Ok-Ready-clause-goes : goal.returns-in-Ok-Ready-clause-goes
returns-in-Ok-Ready-clause-goes g c =
    ready-ends g.D.Shelf.told g.D.Shelf.faults g.W.Actor.between g.met.W.Actor.rows g.W.Actor.meanwhile
    (g.W.Actor.own c.args.actor.now) (g.W.Actor.own c.get_ready.new.actor) (g.W.Actor.own c.conclude.new.actor)
    (g.W.Actor.house c.args.actor.now) (g.W.Actor.house c.get_ready.new.actor) (g.W.Actor.house c.conclude.new.actor)
    c.args.way c.args.tree.now c.args.meaning c.in-Ok-Ready.ready c.conclude.result (goes-said c.in-Ok-Ready.field-0-is c.in-Ok-Ready.ensures.goes) c.conclude.ensures.goes

pub returns-in-Ok-Ready-clause-answered : goal.returns-in-Ok-Ready-clause-answered
returns-in-Ok-Ready-clause-answered g c = λ told.
    let before = g.W.Actor.house c.args.actor.now in
    let now = g.W.Actor.house c.get_ready.new.actor in
    c.conclude.ensures.answered
    (done-told g.D.Shelf.told g.D.Shelf.faults g.W.Actor.between g.met.W.Actor.rows g.W.Actor.meanwhile c.args.way.txn.0 (faults_in g.D.Shelf.faults before)
    (g.W.Actor.own c.args.actor.now) (g.W.Actor.own c.get_ready.new.actor) before now (PreparesAsked c.args.way.txn.0 now (IsAskIn now c.args.way c.args.tree.now) c.args.meaning) (prepared.Ready c.in-Ok-Ready.ready)
    (goes-said c.in-Ok-Ready.field-0-is c.in-Ok-Ready.ensures.goes) told)

pub returns-in-Ok-Ended-clause-goes : goal.returns-in-Ok-Ended-clause-goes
returns-in-Ok-Ended-clause-goes g c =
    ended-ends g.D.Shelf.told g.D.Shelf.faults g.W.Actor.between g.met.W.Actor.rows g.W.Actor.meanwhile
    (faults_in g.D.Shelf.faults (g.W.Actor.house c.args.actor.now)) (g.W.Actor.own c.args.actor.now) (g.W.Actor.own c.get_ready.new.actor)
    (g.W.Actor.house c.args.actor.now) (g.W.Actor.house c.get_ready.new.actor) c.args.way c.args.tree.now c.args.meaning c.in-Ok-Ended.found
    (goes-said c.in-Ok-Ended.field-0-is c.in-Ok-Ended.ensures.goes)

pub returns-in-Ok-Ended-clause-answered : goal.returns-in-Ok-Ended-clause-answered
returns-in-Ok-Ended-clause-answered g c = λ told.
    ended-truly g.D.Shelf.told g.D.Shelf.faults g.W.Actor.between g.met.W.Actor.rows g.W.Actor.meanwhile c.args.way.txn.0
    (faults_in g.D.Shelf.faults (g.W.Actor.house c.args.actor.now)) (g.W.Actor.own c.args.actor.now) (g.W.Actor.own c.get_ready.new.actor)
    (g.W.Actor.house c.args.actor.now) (g.W.Actor.house c.get_ready.new.actor) (IsAskIn (g.W.Actor.house c.get_ready.new.actor) c.args.way c.args.tree.now)
    c.args.meaning c.in-Ok-Ended.found (goes-said c.in-Ok-Ended.field-0-is c.in-Ok-Ended.ensures.goes)

pub returns-in-Err-clause-goes : goal.returns-in-Err-clause-goes
returns-in-Err-clause-goes g c =
    let before = g.W.Actor.house c.args.actor.now in
    let now = g.W.Actor.house c.get_ready.new.actor in
    halted-so g.D.Shelf.told g.D.Shelf.faults g.W.Actor.between g.met.W.Actor.rows g.W.Actor.meanwhile c.args.way.txn.0 (faults_in g.D.Shelf.faults before)
    (g.W.Actor.own c.args.actor.now) (g.W.Actor.own c.get_ready.new.actor) before now (PreparesAsked c.args.way.txn.0 now (IsAskIn now c.args.way c.args.tree.now) c.args.meaning)
    (EndsFrom now c.args.way c.args.tree.now c.args.meaning) c.in-Err.why c.in-Err.ensures.goes
