use Rattle.hv_steps.proofs.Requests.{request-ends, ask-left, ask-adds, ask-was, ask-passed}
use Rattle.hv_base.specs.declared.ids.TxnId.{TxnId}
use Rattle.hv_steps.proofs.asking.ask_one.Goals as goal

pub hold-requires-clause-few : goal.hold-requires-clause-few
hold-requires-clause-few g c = g.met.W.Actor.one

pub returns-clause-adds : goal.returns-clause-adds
returns-clause-adds g c =
    ask-adds g.D.Shelf.told g.D.Shelf.faults g.W.Actor.meanwhile g.met.W.Actor.goes_on (g.W.Actor.house c.args.actor.now) (g.W.Actor.house c.hold.new.self) c.args.way
    c.args.number c.requires.place g.W.Actor.between (g.W.Actor.own c.args.actor.now) (g.W.Actor.own c.hold.new.self) c.hold.result c.hold.ensures.held c.hold.ensures.went

pub returns-clause-left : goal.returns-clause-left
returns-clause-left g c =
    ask-left g.D.Shelf.told g.D.Shelf.faults g.W.Actor.meanwhile g.met.W.Actor.goes_on (g.W.Actor.house c.args.actor.now) (g.W.Actor.house c.hold.new.self) c.args.way
    c.args.number c.requires.place c.hold.result c.hold.ensures.held c.requires.running

pub returns-clause-asked : goal.returns-clause-asked
returns-clause-asked g c =
    ask-was g.D.Shelf.told g.D.Shelf.faults g.W.Actor.meanwhile g.met.W.Actor.goes_on (g.W.Actor.house c.args.actor.now) (g.W.Actor.house c.hold.new.self) c.args.way
    c.args.number c.requires.place c.hold.result c.hold.ensures.held

pub returns-clause-passed : goal.returns-clause-passed
returns-clause-passed g c =
    ask-passed g.D.Shelf.told g.D.Shelf.faults g.W.Actor.meanwhile g.met.W.Actor.goes_on (g.W.Actor.house c.args.actor.now) (g.W.Actor.house c.hold.new.self) c.args.way
    c.args.number c.requires.place c.hold.result c.hold.ensures.held

pub returns-clause-ends : goal.returns-clause-ends
returns-clause-ends g c =
    let txn : TxnId = record { 0 = c.args.number } in
    request-ends c.args.way.txn txn c.hold.result c.hold.ensures.held.step.may
