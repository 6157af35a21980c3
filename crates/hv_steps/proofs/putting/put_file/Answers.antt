use Rattle.hv_steps.proofs.IdActs.{left-open}
use Rattle.hv_steps.proofs.FileActs.{can-put, put-adds, put-left, put-encoded, put-refused}
use Rattle.hv_steps.proofs.putting.put_file.Goals as goal

pub hold-requires-clause-few : goal.hold-requires-clause-few
hold-requires-clause-few g c = g.met.W.Actor.one

pub hold-requires-clause-can : goal.hold-requires-clause-can
hold-requires-clause-can g c = λ now kept reached.
    can-put g.D.Shelf.told g.D.Shelf.faults g.W.Actor.meanwhile g.met.W.Actor.goes_on (g.W.Actor.house c.args.actor.now) now c.args.txn c.args.place c.args.file.now
    c.requires.can c.requires.due now reached

pub returns-clause-adds : goal.returns-clause-adds
returns-clause-adds g c =
    put-adds g.D.Shelf.told g.D.Shelf.faults g.W.Actor.meanwhile g.met.W.Actor.goes_on (g.W.Actor.house c.args.actor.now) (g.W.Actor.house c.hold.new.self) c.args.txn c.args.place
    c.args.file.now g.W.Actor.between (g.W.Actor.own c.args.actor.now) (g.W.Actor.own c.hold.new.self) c.hold.result c.hold.ensures.held c.hold.ensures.went

pub returns-clause-running : goal.returns-clause-running
returns-clause-running g c =
    left-open g.D.Shelf.told g.W.Actor.meanwhile c.args.txn.0 (g.W.Actor.house c.hold.new.self) c.hold.result
    (put-left g.D.Shelf.told g.D.Shelf.faults g.W.Actor.meanwhile g.met.W.Actor.goes_on (g.W.Actor.house c.args.actor.now) (g.W.Actor.house c.hold.new.self) c.args.txn c.args.place
    c.args.file.now c.hold.result c.hold.ensures.held c.requires.running)

pub returns-clause-encoded : goal.returns-clause-encoded
returns-clause-encoded g c =
    put-encoded g.D.Shelf.told g.D.Shelf.faults g.W.Actor.meanwhile g.met.W.Actor.goes_on (g.W.Actor.house c.args.actor.now) (g.W.Actor.house c.hold.new.self) c.args.txn c.args.place
    c.args.file.now c.hold.result c.hold.ensures.held

pub returns-clause-refusal : goal.returns-clause-refusal
returns-clause-refusal g c =
    put-refused g.D.Shelf.told g.D.Shelf.faults g.W.Actor.meanwhile g.met.W.Actor.goes_on (g.W.Actor.house c.args.actor.now) (g.W.Actor.house c.hold.new.self) c.args.txn c.args.place
    c.args.file.now c.hold.result c.hold.ensures.held c.requires.running
