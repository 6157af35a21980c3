use Rattle.std.proofs.Common.{sym, subst, Result, Err}
use Rattle.hv_steps.specs.hv_table_reader.specs.hv_acts.specs.hv_telling.specs.hv_house.specs.declared.fault.HouseFault.{HouseFault}
use Rattle.hv_steps.specs.hv_table_reader.specs.hv_acts.specs.declared.fault.BeginFault.{BeginFault}
use Rattle.hv_steps.specs.declared.reply.Opened.{Opened}
use Rattle.hv_beginning.specs.Beginnings.{GoesBeginning, BeginsAtOnce, IsLeftRunning}
use Rattle.hv_actor.specs.Acting.{among, known}
use Rattle.hv_beginning.proofs.opening.not_begun.Goals as goal

pub open_hindered-requires-clause-running : goal.open_hindered-requires-clause-running
open_hindered-requires-clause-running g c = subst (λ (w : BeginFault). IsLeftRunning (g.W.Actor.house c.args.actor.now) w) c.in-Held.is c.requires.running

pub open_hindered-requires-in-Full-clause-running : goal.open_hindered-requires-in-Full-clause-running
open_hindered-requires-in-Full-clause-running g c = subst (λ (w : BeginFault). IsLeftRunning (g.W.Actor.house c.args.actor.now) w) c.in-Full.is c.requires.running

pub returns-in-Held-clause-goes : goal.returns-in-Held-clause-goes
returns-in-Held-clause-goes g c = λ first own said runs at_once.
    c.open_hindered.ensures.goes first own said runs
    (subst (λ (w : BeginFault). BeginsAtOnce (among g.D.Shelf.told g.D.Shelf.faults g.W.Actor.between g.W.Actor.meanwhile)
    (record { session = c.args.session; number = c.args.number; text = c.args.text }) said
    (known own first) (known (g.W.Actor.own c.args.actor.now) (g.W.Actor.house c.args.actor.now)) (Err w)) c.in-Held.is at_once)

pub returns-in-Full-clause-goes : goal.returns-in-Full-clause-goes
returns-in-Full-clause-goes g c = λ first own said runs at_once.
    c.open_hindered-in-Full.ensures.goes first own said runs
    (subst (λ (w : BeginFault). BeginsAtOnce (among g.D.Shelf.told g.D.Shelf.faults g.W.Actor.between g.W.Actor.meanwhile)
    (record { session = c.args.session; number = c.args.number; text = c.args.text }) said
    (known own first) (known (g.W.Actor.own c.args.actor.now) (g.W.Actor.house c.args.actor.now)) (Err w)) c.in-Full.is at_once)

pub returns-in-House-clause-goes : goal.returns-in-House-clause-goes
returns-in-House-clause-goes g c = λ first own said runs at_once.
    subst (λ (r : Result Opened HouseFault). GoesBeginning (among g.D.Shelf.told g.D.Shelf.faults g.W.Actor.between g.W.Actor.meanwhile)
    (record { session = c.args.session; number = c.args.number; text = c.args.text }) said
    (known own first) (known (g.W.Actor.own c.args.actor.now) (g.W.Actor.house c.args.actor.now)) r) (sym c.lacking.ensures.lacks)
    (subst (λ (w : BeginFault). BeginsAtOnce (among g.D.Shelf.told g.D.Shelf.faults g.W.Actor.between g.W.Actor.meanwhile)
    (record { session = c.args.session; number = c.args.number; text = c.args.text }) said
    (known own first) (known (g.W.Actor.own c.args.actor.now) (g.W.Actor.house c.args.actor.now)) (Err w)) c.in-House.is at_once)
