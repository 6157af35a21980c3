use Rattle.std.proofs.Common.{Some, subst}
use Rattle.hv_base.specs.declared.gate.Stage.TheVariants as stage
use Rattle.hv_beginning.specs.hv_steps.specs.Phases.{PreparesAsked, CanConcludeIn}
use Rattle.hv_beginning.specs.hv_steps.specs.Requests.{IsAskIn}
use Rattle.hv_session.proofs.Takings.{goes-said, ready-holds, early-holds, halts-holds}
use Rattle.hv_session.proofs.AloneHolds.{ready-goes, broken-goes, halted-goes}
use Rattle.hv_session.proofs.taking.keep_ready.Goals as goal

pub returns-in-Ok-Ready-clause-goes : goal.returns-in-Ok-Ready-clause-goes
returns-in-Ok-Ready-clause-goes g c =
    ready-holds g.D.Shelf.told g.D.Shelf.faults g.W.Actor.between g.met.W.Actor.rows g.W.Actor.meanwhile
    (g.W.Actor.own c.args.actor.now) (g.W.Actor.own c.get_ready.new.actor) (g.W.Actor.house c.args.actor.now) (g.W.Actor.house c.get_ready.new.actor)
    c.requires.was.0 c.args.way c.args.tree c.args.meaning c.in-Ok-Ready.ready c.requires.was.1 c.requires.comes (goes-said c.in-Ok-Ready.field-0-is c.in-Ok-Ready.ensures.goes)
    (subst (CanConcludeIn g.D.Shelf.told (g.W.Actor.house c.get_ready.new.actor) c.args.way) c.in-Ok-Ready.field-0-is c.in-Ok-Ready.ensures.can)

pub returns-in-Ok-Ended-clause-goes : goal.returns-in-Ok-Ended-clause-goes
returns-in-Ok-Ended-clause-goes g c =
    early-holds g.D.Shelf.told g.D.Shelf.faults g.W.Actor.between g.met.W.Actor.rows g.W.Actor.meanwhile
    (g.W.Actor.own c.args.actor.now) (g.W.Actor.own c.get_ready.new.actor) (g.W.Actor.house c.args.actor.now) (g.W.Actor.house c.get_ready.new.actor)
    c.requires.was.0 c.args.way c.args.tree c.args.meaning c.in-Ok-Ended.found c.requires.was.1 c.requires.comes (goes-said c.in-Ok-Ended.field-0-is c.in-Ok-Ended.ensures.goes)

pub returns-in-Err-clause-goes : goal.returns-in-Err-clause-goes
returns-in-Err-clause-goes g c =
    let now = g.W.Actor.house c.get_ready.new.actor in
    halts-holds g.D.Shelf.told g.D.Shelf.faults g.W.Actor.between g.met.W.Actor.rows g.W.Actor.meanwhile
    (g.W.Actor.own c.args.actor.now) (g.W.Actor.own c.get_ready.new.actor) (g.W.Actor.house c.args.actor.now) now
    c.args.way c.args.tree (Some stage.Commit) (PreparesAsked c.args.way.txn.0 now (IsAskIn now c.args.way c.args.tree) c.args.meaning) c.in-Err.why c.in-Err.ensures.goes

pub returns-in-Ok-Ready-clause-alone : goal.returns-in-Ok-Ready-clause-alone
returns-in-Ok-Ready-clause-alone g c = λ acts on can means.
    ready-goes g.D.Shelf.told g.D.Shelf.faults g.W.Actor.between g.W.Actor.meanwhile acts
    (g.W.Actor.own c.args.actor.now) (g.W.Actor.own c.get_ready.new.actor) (g.W.Actor.house c.args.actor.now) (g.W.Actor.house c.get_ready.new.actor)
    c.requires.was.0 c.args.way c.args.tree c.args.meaning c.requires.was.1 c.requires.running
    (g.met.W.Actor.kept c.get_ready.new.actor c.in-Ok-Ready.ensures.keeps) on can means c.in-Ok-Ready.ready
    (goes-said c.in-Ok-Ready.field-0-is c.in-Ok-Ready.ensures.goes) (returns-in-Ok-Ready-clause-goes g c)

pub returns-in-Ok-Ended-clause-alone : goal.returns-in-Ok-Ended-clause-alone
returns-in-Ok-Ended-clause-alone g c = λ acts on can means.
    broken-goes g.D.Shelf.told g.D.Shelf.faults g.W.Actor.between g.W.Actor.meanwhile acts
    (g.W.Actor.own c.args.actor.now) (g.W.Actor.own c.get_ready.new.actor) (g.W.Actor.house c.args.actor.now) (g.W.Actor.house c.get_ready.new.actor)
    c.requires.was.0 c.args.way c.args.tree c.args.meaning c.requires.was.1 c.requires.running
    (g.met.W.Actor.kept c.get_ready.new.actor c.in-Ok-Ended.ensures.keeps) on can means c.in-Ok-Ended.found
    (goes-said c.in-Ok-Ended.field-0-is c.in-Ok-Ended.ensures.goes) (returns-in-Ok-Ended-clause-goes g c)

pub returns-in-Err-clause-alone : goal.returns-in-Err-clause-alone
returns-in-Err-clause-alone g c = λ acts on can means.
    halted-goes g.D.Shelf.told g.D.Shelf.faults g.W.Actor.between g.W.Actor.meanwhile acts
    (g.W.Actor.own c.args.actor.now) (g.W.Actor.own c.get_ready.new.actor) (g.W.Actor.house c.args.actor.now) (g.W.Actor.house c.get_ready.new.actor)
    c.requires.was.0 c.args.way c.args.tree (Some stage.Commit) c.requires.was.1 c.requires.running (g.met.W.Actor.kept c.get_ready.new.actor c.in-Err.ensures.keeps)
    c.in-Err.why (returns-in-Err-clause-goes g c)
