use Rattle.std.proofs.Common.{sym, subst, Option}
use Rattle.hv_base.specs.declared.gate.Stage.{Stage}
use Rattle.hv_session.specs.Doing.{IsHold, GoesToHold, up_to}
use Rattle.hv_session.specs.Ways.{on_course, GoesAlone}
use Rattle.hv_actor.specs.Acting.{among, known}
use Rattle.hv_session.proofs.taking.go.Goals as goal

pub hold_at-requires-clause-hold : goal.hold_at-requires-clause-hold
hold_at-requires-clause-hold g c = subst IsHold c.in-Some.is c.requires.hold

pub returns-in-None-clause-goes : goal.returns-in-None-clause-goes
returns-in-None-clause-goes g c =
    subst (λ (hold : Option Stage). GoesToHold (among g.D.Shelf.told g.D.Shelf.faults g.W.Actor.between g.W.Actor.meanwhile) c.args.way (up_to c.args.tree hold)
    (known (g.W.Actor.own c.args.actor.now) (g.W.Actor.house c.args.actor.now))
    (known (g.W.Actor.own c.go_unheld.new.actor) (g.W.Actor.house c.go_unheld.new.actor))
    c.go_unheld.result) (sym c.in-None.is) c.go_unheld.ensures.goes

pub returns-in-Some-clause-goes : goal.returns-in-Some-clause-goes
returns-in-Some-clause-goes g c =
    subst (λ (hold : Option Stage). GoesToHold (among g.D.Shelf.told g.D.Shelf.faults g.W.Actor.between g.W.Actor.meanwhile) c.args.way (up_to c.args.tree hold)
    (known (g.W.Actor.own c.args.actor.now) (g.W.Actor.house c.args.actor.now))
    (known (g.W.Actor.own c.hold_at.new.actor) (g.W.Actor.house c.hold_at.new.actor))
    c.hold_at.result) (sym c.in-Some.is) c.hold_at.ensures.goes

pub returns-in-None-clause-alone : goal.returns-in-None-clause-alone
returns-in-None-clause-alone g c = λ acts on.
    subst (λ (hold : Option Stage). GoesAlone g.D.Shelf.told g.D.Shelf.faults (on_course c.args.way (up_to c.args.tree hold)) (g.W.Actor.house c.args.actor.now).house
    (g.W.Actor.house c.go_unheld.new.actor).house c.go_unheld.result) (sym c.in-None.is) (c.go_unheld.ensures.alone acts on)

pub returns-in-Some-clause-alone : goal.returns-in-Some-clause-alone
returns-in-Some-clause-alone g c = λ acts on.
    subst (λ (hold : Option Stage). GoesAlone g.D.Shelf.told g.D.Shelf.faults (on_course c.args.way (up_to c.args.tree hold)) (g.W.Actor.house c.args.actor.now).house
    (g.W.Actor.house c.hold_at.new.actor).house c.hold_at.result) (sym c.in-Some.is) (c.hold_at.ensures.alone acts on)
