use Rattle.hv_steps.proofs.Gone.{end-adds, end-running, end-says, end-house, failed-adds, failed-halts}
use Rattle.hv_steps.proofs.telling.tell_end.Goals as goal

pub hold-requires-clause-few : goal.hold-requires-clause-few
hold-requires-clause-few g c = g.met.W.Actor.one

pub house_fault-requires : goal.house_fault-requires
house_fault-requires g c = record {
  house =
      end-house g.D.Shelf.told g.D.Shelf.faults g.W.Actor.between g.W.Actor.meanwhile g.met.W.Actor.goes_on (g.W.Actor.own c.args.actor.now) (g.W.Actor.own c.hold.new.self)
      (g.W.Actor.house c.args.actor.now) (g.W.Actor.house c.hold.new.self) c.requires.running c.args.txn c.hold.result c.hold.ensures.held c.hold.ensures.went
      c.in-Err.why c.in-Err.is;
}

pub returns-in-Ok-clause-adds : goal.returns-in-Ok-clause-adds
returns-in-Ok-clause-adds g c =
    end-adds g.D.Shelf.told g.D.Shelf.faults g.W.Actor.between g.W.Actor.meanwhile g.met.W.Actor.goes_on (g.W.Actor.own c.args.actor.now) (g.W.Actor.own c.hold.new.self)
    (g.W.Actor.house c.args.actor.now) (g.W.Actor.house c.hold.new.self) c.requires.running c.args.txn c.hold.result c.hold.ensures.held c.hold.ensures.went
    c.in-Ok.told c.in-Ok.is

pub returns-in-Ok-clause-running : goal.returns-in-Ok-clause-running
returns-in-Ok-clause-running g c =
    end-running g.D.Shelf.told g.D.Shelf.faults g.W.Actor.between g.W.Actor.meanwhile g.met.W.Actor.goes_on (g.W.Actor.own c.args.actor.now) (g.W.Actor.own c.hold.new.self)
    (g.W.Actor.house c.args.actor.now) (g.W.Actor.house c.hold.new.self) c.requires.running c.args.txn c.hold.result c.hold.ensures.held c.hold.ensures.went
    c.in-Ok.told c.in-Ok.is

pub returns-in-Ok-clause-says : goal.returns-in-Ok-clause-says
returns-in-Ok-clause-says g c =
    end-says g.D.Shelf.told g.D.Shelf.faults g.W.Actor.between g.W.Actor.meanwhile g.met.W.Actor.goes_on (g.W.Actor.own c.args.actor.now) (g.W.Actor.own c.hold.new.self)
    (g.W.Actor.house c.args.actor.now) (g.W.Actor.house c.hold.new.self) c.requires.running c.args.txn c.hold.result c.hold.ensures.held c.hold.ensures.went
    c.in-Ok.told c.in-Ok.is c.end_replied.result c.end_replied.ensures.replied

pub returns-in-Err-clause-adds : goal.returns-in-Err-clause-adds
returns-in-Err-clause-adds g c =
    failed-adds g.D.Shelf.told g.D.Shelf.faults g.W.Actor.between g.W.Actor.meanwhile g.met.W.Actor.goes_on (g.W.Actor.own c.args.actor.now) (g.W.Actor.own c.hold.new.self)
    (g.W.Actor.house c.args.actor.now) (g.W.Actor.house c.hold.new.self) c.requires.running c.args.txn c.hold.result c.hold.ensures.held c.hold.ensures.went
    c.in-Err.why c.in-Err.is c.house_fault.result c.house_fault.ensures.fault

pub returns-in-Err-clause-halts : goal.returns-in-Err-clause-halts
returns-in-Err-clause-halts g c =
    failed-halts g.D.Shelf.told g.D.Shelf.faults g.W.Actor.between g.W.Actor.meanwhile g.met.W.Actor.goes_on (g.W.Actor.own c.args.actor.now) (g.W.Actor.own c.hold.new.self)
    (g.W.Actor.house c.args.actor.now) (g.W.Actor.house c.hold.new.self) c.requires.running c.args.txn c.hold.result c.hold.ensures.held c.hold.ensures.went
    c.in-Err.why c.in-Err.is c.house_fault.result c.house_fault.ensures.fault
