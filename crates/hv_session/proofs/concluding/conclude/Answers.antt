use Rattle.std.proofs.Common.{sym, subst}
use Rattle.hv_beginning.specs.hv_steps.specs.declared.ready.End.{End}
use Rattle.hv_beginning.specs.hv_steps.specs.Going.{faults_in, Goes}
use Rattle.hv_beginning.specs.hv_steps.specs.Phases.{CanConclude, Concludes}
use Rattle.hv_actor.specs.Acting.{among, known}
use Rattle.hv_session.proofs.concluding.conclude.Goals as goal

pub end_by_commit-requires-clause-can : goal.end_by_commit-requires-clause-can
end_by_commit-requires-clause-can g c =
    subst (λ (last : End). CanConclude g.D.Shelf.told (g.W.Actor.house c.args.actor.now) c.args.way last c.args.ready.text) c.in-Commit.is c.requires.can

pub end_by_create-requires-clause-can : goal.end_by_create-requires-clause-can
end_by_create-requires-clause-can g c =
    subst (λ (last : End). CanConclude g.D.Shelf.told (g.W.Actor.house c.args.actor.now) c.args.way last c.args.ready.text) c.in-Create.is c.requires.can

pub end_by_drop-requires-clause-can : goal.end_by_drop-requires-clause-can
end_by_drop-requires-clause-can g c =
    subst (λ (last : End). CanConclude g.D.Shelf.told (g.W.Actor.house c.args.actor.now) c.args.way last c.args.ready.text) c.in-Drop.is c.requires.can

pub returns-in-Commit-clause-goes : goal.returns-in-Commit-clause-goes
returns-in-Commit-clause-goes g c =
    let before = g.W.Actor.house c.args.actor.now in
    let now = g.W.Actor.house c.end_by_commit.new.actor in
    subst (λ (last : End). Goes (among g.D.Shelf.told g.D.Shelf.faults g.W.Actor.between g.W.Actor.meanwhile) (faults_in g.D.Shelf.faults before)
    c.args.way.txn.0
    (known (g.W.Actor.own c.args.actor.now) before) (known (g.W.Actor.own c.end_by_commit.new.actor) now)
    (Concludes c.args.way.txn.0 now (record { end = last; text = c.args.ready.text })) c.end_by_commit.result) (sym c.in-Commit.is) c.end_by_commit.ensures.goes

pub returns-in-Create-clause-goes : goal.returns-in-Create-clause-goes
returns-in-Create-clause-goes g c =
    let before = g.W.Actor.house c.args.actor.now in
    let now = g.W.Actor.house c.end_by_create.new.actor in
    subst (λ (last : End). Goes (among g.D.Shelf.told g.D.Shelf.faults g.W.Actor.between g.W.Actor.meanwhile) (faults_in g.D.Shelf.faults before)
    c.args.way.txn.0
    (known (g.W.Actor.own c.args.actor.now) before) (known (g.W.Actor.own c.end_by_create.new.actor) now)
    (Concludes c.args.way.txn.0 now (record { end = last; text = c.args.ready.text })) c.end_by_create.result) (sym c.in-Create.is) c.end_by_create.ensures.goes

pub returns-in-Drop-clause-goes : goal.returns-in-Drop-clause-goes
returns-in-Drop-clause-goes g c =
    let before = g.W.Actor.house c.args.actor.now in
    let now = g.W.Actor.house c.end_by_drop.new.actor in
    subst (λ (last : End). Goes (among g.D.Shelf.told g.D.Shelf.faults g.W.Actor.between g.W.Actor.meanwhile) (faults_in g.D.Shelf.faults before)
    c.args.way.txn.0
    (known (g.W.Actor.own c.args.actor.now) before) (known (g.W.Actor.own c.end_by_drop.new.actor) now)
    (Concludes c.args.way.txn.0 now (record { end = last; text = c.args.ready.text })) c.end_by_drop.result) (sym c.in-Drop.is) c.end_by_drop.ensures.goes
