use Rattle.hv_steps.proofs.IdActs.{can-give, give-adds, give-left, give-ends, given-so, left-open, refused-so}
use Rattle.hv_table_reader.specs.hv_acts.specs.Told.{trail_in}
use Rattle.hv_steps.proofs.preparing.take_id.Goals as goal

pub hold-requires-clause-few : goal.hold-requires-clause-few
hold-requires-clause-few g c = g.met.W.Actor.one

pub hold-requires-clause-can : goal.hold-requires-clause-can
hold-requires-clause-can g c = λ now kept reached is.
    can-give g.D.Shelf.told g.D.Shelf.faults g.W.Actor.meanwhile g.met.W.Actor.goes_on (g.W.Actor.house c.args.actor.now) now c.args.way c.args.info.now c.args.effect.now
    c.requires.comes c.requires.some now reached is

pub returns-clause-adds : goal.returns-clause-adds
returns-clause-adds g c =
    give-adds g.D.Shelf.told g.D.Shelf.faults g.W.Actor.meanwhile g.met.W.Actor.goes_on (g.W.Actor.house c.args.actor.now) (g.W.Actor.house c.hold.new.self) c.args.way
    c.args.info.now c.args.effect.now c.requires.comes c.requires.some g.W.Actor.between (g.W.Actor.own c.args.actor.now) (g.W.Actor.own c.hold.new.self) c.hold.result
    c.hold.ensures.held c.hold.ensures.went

pub returns-clause-running : goal.returns-clause-running
returns-clause-running g c =
    left-open g.D.Shelf.told g.W.Actor.meanwhile c.args.way.txn.0 (g.W.Actor.house c.hold.new.self) c.hold.result
    (give-left g.D.Shelf.told g.D.Shelf.faults g.W.Actor.meanwhile g.met.W.Actor.goes_on (g.W.Actor.house c.args.actor.now) (g.W.Actor.house c.hold.new.self) c.args.way
    c.args.info.now c.args.effect.now c.requires.comes c.requires.some c.hold.result c.hold.ensures.held c.requires.running)

pub returns-clause-given : goal.returns-clause-given
returns-clause-given g c =
    given-so g.D.Shelf.told g.D.Shelf.faults g.W.Actor.meanwhile g.met.W.Actor.goes_on (g.W.Actor.house c.args.actor.now) (g.W.Actor.house c.hold.new.self) c.args.way
    c.args.info.now c.args.effect.now c.requires.comes c.requires.some c.what_was_meant_is_meant.ensures.still c.what_was_meant_is_meant.ensures.given
    c.hold.result c.hold.ensures.held

pub returns-clause-refusal : goal.returns-clause-refusal
returns-clause-refusal g c = λ low.
    refused-so g.D.Shelf.told g.D.Shelf.faults g.W.Actor.meanwhile low c.args.way.txn (g.W.Actor.house c.hold.new.self) c.hold.result
    (give-ends (trail_in c.hold.ensures.held.house) c.args.way.txn c.args.info.now.table c.hold.result c.hold.ensures.held.step.may)
    (give-left g.D.Shelf.told g.D.Shelf.faults g.W.Actor.meanwhile g.met.W.Actor.goes_on (g.W.Actor.house c.args.actor.now) (g.W.Actor.house c.hold.new.self) c.args.way
    c.args.info.now c.args.effect.now c.requires.comes c.requires.some c.hold.result c.hold.ensures.held c.requires.running)

pub returns-clause-why : goal.returns-clause-why
returns-clause-why g c = give-ends (trail_in c.hold.ensures.held.house) c.args.way.txn c.args.info.now.table c.hold.result c.hold.ensures.held.step.may
