use Rattle.std.proofs.Common.{sym, subst, Some, Ok}
use Rattle.hv_base.specs.declared.gate.Stage.{Stage}
use Rattle.hv_session.specs.declared.paused.Point.TheVariants as point
use Rattle.hv_session.specs.declared.paused.Carried.TheVariants as carried
use Rattle.hv_session.specs.Doing.{GoesToHold, up_to}
use Rattle.hv_session.proofs.Takings.{started-holds}
use Rattle.hv_session.specs.Ways.{on_course, GoesAlone}
use Rattle.hv_session.proofs.AloneHolds.{started-goes}
use Rattle.hv_actor.specs.Acting.{among, known}
use Rattle.hv_session.proofs.taking.hold_at.Goals as goal

pub returns-in-Start-clause-goes : goal.returns-in-Start-clause-goes
returns-in-Start-clause-goes g c =
    subst (λ (hold : Stage). GoesToHold (among g.D.Shelf.told g.D.Shelf.faults g.W.Actor.between g.W.Actor.meanwhile) c.args.way (up_to c.args.tree (Some hold))
    (known (g.W.Actor.own c.args.actor.now) (g.W.Actor.house c.args.actor.now)) (known (g.W.Actor.own c.args.actor.now) (g.W.Actor.house c.args.actor.now))
    (Ok (carried.Kept (record { way = c.args.way; tree = c.args.tree; point = point.Started })))) (sym c.in-Start.is)
    (started-holds g.D.Shelf.told g.D.Shelf.faults g.W.Actor.between g.met.W.Actor.rows g.W.Actor.meanwhile (g.W.Actor.own c.args.actor.now)
    (g.W.Actor.house c.args.actor.now) c.requires.was.0 c.args.way c.args.tree c.requires.was.1 c.requires.running)

pub returns-in-Read-clause-goes : goal.returns-in-Read-clause-goes
returns-in-Read-clause-goes g c =
    subst (λ (hold : Stage). GoesToHold (among g.D.Shelf.told g.D.Shelf.faults g.W.Actor.between g.W.Actor.meanwhile) c.args.way (up_to c.args.tree (Some hold))
    (known (g.W.Actor.own c.args.actor.now) (g.W.Actor.house c.args.actor.now))
    (known (g.W.Actor.own c.hold_read.new.actor) (g.W.Actor.house c.hold_read.new.actor))
    c.hold_read.result) (sym c.in-Read.is) c.hold_read.ensures.goes

pub returns-in-Commit-clause-goes : goal.returns-in-Commit-clause-goes
returns-in-Commit-clause-goes g c =
    subst (λ (hold : Stage). GoesToHold (among g.D.Shelf.told g.D.Shelf.faults g.W.Actor.between g.W.Actor.meanwhile) c.args.way (up_to c.args.tree (Some hold))
    (known (g.W.Actor.own c.args.actor.now) (g.W.Actor.house c.args.actor.now))
    (known (g.W.Actor.own c.hold_commit.new.actor) (g.W.Actor.house c.hold_commit.new.actor))
    c.hold_commit.result) (sym c.in-Commit.is) c.hold_commit.ensures.goes

pub returns-in-Start-clause-alone : goal.returns-in-Start-clause-alone
returns-in-Start-clause-alone g c = λ acts on.
    let house = g.W.Actor.house c.args.actor.now in
    subst (λ (hold : Stage). GoesAlone g.D.Shelf.told g.D.Shelf.faults (on_course c.args.way (up_to c.args.tree (Some hold))) house.house house.house
    (Ok (carried.Kept (record { way = c.args.way; tree = c.args.tree; point = point.Started })))) (sym c.in-Start.is)
    (started-goes g.D.Shelf.told g.D.Shelf.faults g.W.Actor.between g.W.Actor.meanwhile acts
    (g.W.Actor.own c.args.actor.now) house c.requires.was.0 c.args.way c.args.tree c.requires.was.1 c.requires.running (g.met.W.Actor.kept c.args.actor.now c.requires.keeps) on
    (started-holds g.D.Shelf.told g.D.Shelf.faults g.W.Actor.between g.met.W.Actor.rows g.W.Actor.meanwhile (g.W.Actor.own c.args.actor.now)
    house c.requires.was.0 c.args.way c.args.tree c.requires.was.1 c.requires.running))

pub returns-in-Read-clause-alone : goal.returns-in-Read-clause-alone
returns-in-Read-clause-alone g c = λ acts on.
    subst (λ (hold : Stage). GoesAlone g.D.Shelf.told g.D.Shelf.faults (on_course c.args.way (up_to c.args.tree (Some hold))) (g.W.Actor.house c.args.actor.now).house
    (g.W.Actor.house c.hold_read.new.actor).house c.hold_read.result) (sym c.in-Read.is) (c.hold_read.ensures.alone acts on)

pub returns-in-Commit-clause-alone : goal.returns-in-Commit-clause-alone
returns-in-Commit-clause-alone g c = λ acts on.
    subst (λ (hold : Stage). GoesAlone g.D.Shelf.told g.D.Shelf.faults (on_course c.args.way (up_to c.args.tree (Some hold))) (g.W.Actor.house c.args.actor.now).house
    (g.W.Actor.house c.hold_commit.new.actor).house c.hold_commit.result) (sym c.in-Commit.is) (c.hold_commit.ensures.alone acts on)
