use Rattle.std.proofs.Common.{sym, subst}
use Rattle.hv_session.specs.declared.paused.Point.{Point}
use Rattle.hv_beginning.specs.hv_steps.specs.Going.{faults_in, Goes}
use Rattle.hv_session.specs.Doing.{CanGoOn, EndsFromPoint}
use Rattle.hv_session.proofs.AloneFinishes.{held-alone}
use Rattle.hv_actor.specs.Acting.{among, known}
use Rattle.hv_session.proofs.taking.go_on.Goals as goal

pub go_to_end-result-requires-clause-was : goal.go_to_end-result-requires-clause-was
go_to_end-result-requires-clause-was g c =
    subst (CanGoOn g.D.Shelf.told (g.W.Actor.house c.args.actor.now) c.args.paused.way c.args.paused.tree) c.in-Started.is c.requires.can

pub end_as-result-requires-clause-was : goal.end_as-result-requires-clause-was
end_as-result-requires-clause-was g c =
    let can = subst (CanGoOn g.D.Shelf.told (g.W.Actor.house c.args.actor.now) c.args.paused.way c.args.paused.tree) c.in-Meant.is c.requires.can in
    (can.0, can.1)

pub end_as-result-requires-clause-comes : goal.end_as-result-requires-clause-comes
end_as-result-requires-clause-comes g c =
    let can = subst (CanGoOn g.D.Shelf.told (g.W.Actor.house c.args.actor.now) c.args.paused.way c.args.paused.tree) c.in-Meant.is c.requires.can in
    can.2

pub conclude-requires-clause-was : goal.conclude-requires-clause-was
conclude-requires-clause-was g c =
    (subst (CanGoOn g.D.Shelf.told (g.W.Actor.house c.args.actor.now) c.args.paused.way c.args.paused.tree) c.in-Ready.is c.requires.can).0

pub conclude-requires-clause-can : goal.conclude-requires-clause-can
conclude-requires-clause-can g c =
    (subst (CanGoOn g.D.Shelf.told (g.W.Actor.house c.args.actor.now) c.args.paused.way c.args.paused.tree) c.in-Ready.is c.requires.can).1

pub returns-in-Started-clause-goes : goal.returns-in-Started-clause-goes
returns-in-Started-clause-goes g c =
    let before = g.W.Actor.house c.args.actor.now in
    let now = g.W.Actor.house c.go_to_end-result.new.actor in
    subst (λ (at : Point). Goes (among g.D.Shelf.told g.D.Shelf.faults g.W.Actor.between g.W.Actor.meanwhile) (faults_in g.D.Shelf.faults before)
    c.args.paused.way.txn.0
    (known (g.W.Actor.own c.args.actor.now) before) (known (g.W.Actor.own c.go_to_end-result.new.actor) now)
    (EndsFromPoint g.D.Shelf.told now c.args.paused.way c.args.paused.tree at) c.go_to_end-result.result)
    (sym c.in-Started.is) c.go_to_end-result.ensures.goes

pub returns-in-Meant-clause-goes : goal.returns-in-Meant-clause-goes
returns-in-Meant-clause-goes g c =
    let before = g.W.Actor.house c.args.actor.now in
    let now = g.W.Actor.house c.end_as-result.new.actor in
    subst (λ (at : Point). Goes (among g.D.Shelf.told g.D.Shelf.faults g.W.Actor.between g.W.Actor.meanwhile) (faults_in g.D.Shelf.faults before)
    c.args.paused.way.txn.0
    (known (g.W.Actor.own c.args.actor.now) before) (known (g.W.Actor.own c.end_as-result.new.actor) now)
    (EndsFromPoint g.D.Shelf.told now c.args.paused.way c.args.paused.tree at) c.end_as-result.result)
    (sym c.in-Meant.is) c.end_as-result.ensures.goes

pub returns-in-Ready-clause-goes : goal.returns-in-Ready-clause-goes
returns-in-Ready-clause-goes g c =
    let before = g.W.Actor.house c.args.actor.now in
    let now = g.W.Actor.house c.conclude.new.actor in
    subst (λ (at : Point). Goes (among g.D.Shelf.told g.D.Shelf.faults g.W.Actor.between g.W.Actor.meanwhile) (faults_in g.D.Shelf.faults before)
    c.args.paused.way.txn.0
    (known (g.W.Actor.own c.args.actor.now) before) (known (g.W.Actor.own c.conclude.new.actor) now)
    (EndsFromPoint g.D.Shelf.told now c.args.paused.way c.args.paused.tree at) c.conclude.result)
    (sym c.in-Ready.is) c.conclude.ensures.goes

pub returns-in-Started-clause-alone : goal.returns-in-Started-clause-alone
returns-in-Started-clause-alone g c = λ alone held truly.
    held-alone g.D.Shelf.told g.D.Shelf.faults g.W.Actor.between g.W.Actor.meanwhile alone (g.W.Actor.own c.args.actor.now) (g.W.Actor.own c.go_to_end-result.new.actor)
    (g.W.Actor.house c.args.actor.now) (g.W.Actor.house c.go_to_end-result.new.actor) c.requires.running (g.met.W.Actor.kept c.go_to_end-result.new.actor c.go_to_end-result.ensures.keeps)
    c.args.paused c.go_to_end-result.result (returns-in-Started-clause-goes g c) c.go_to_end-result.ensures.answered held truly

pub returns-in-Meant-clause-alone : goal.returns-in-Meant-clause-alone
returns-in-Meant-clause-alone g c = λ alone held truly.
    held-alone g.D.Shelf.told g.D.Shelf.faults g.W.Actor.between g.W.Actor.meanwhile alone (g.W.Actor.own c.args.actor.now) (g.W.Actor.own c.end_as-result.new.actor)
    (g.W.Actor.house c.args.actor.now) (g.W.Actor.house c.end_as-result.new.actor) c.requires.running (g.met.W.Actor.kept c.end_as-result.new.actor c.end_as-result.ensures.keeps)
    c.args.paused c.end_as-result.result (returns-in-Meant-clause-goes g c) c.end_as-result.ensures.answered held truly

pub returns-in-Ready-clause-alone : goal.returns-in-Ready-clause-alone
returns-in-Ready-clause-alone g c = λ alone held truly.
    held-alone g.D.Shelf.told g.D.Shelf.faults g.W.Actor.between g.W.Actor.meanwhile alone (g.W.Actor.own c.args.actor.now) (g.W.Actor.own c.conclude.new.actor)
    (g.W.Actor.house c.args.actor.now) (g.W.Actor.house c.conclude.new.actor) c.requires.running (g.met.W.Actor.kept c.conclude.new.actor c.conclude.ensures.keeps)
    c.args.paused c.conclude.result (returns-in-Ready-clause-goes g c) c.conclude.ensures.answered held truly
