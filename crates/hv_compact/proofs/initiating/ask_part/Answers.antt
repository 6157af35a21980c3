use Rattle.hv_actor.specs.Acting.{among, known}
use Rattle.hv_compact.specs.declared.fault.RunFault.{RunFault}
use Rattle.hv_compact.specs.Initiating.{AsksPart}
use Rattle.hv_compact.proofs.Turns.{turn-done, turn-refused}
use Rattle.std.proofs.Common.{ℕ, Ok, Err, sym, subst}
use Rattle.hv_compact.proofs.initiating.ask_part.Goals as goal

pub hold-requires-clause-few : goal.hold-requires-clause-few
hold-requires-clause-few g c = g.met.W.Actor.one

pub returns-in-Ok-clause-asks : goal.returns-in-Ok-clause-asks
returns-in-Ok-clause-asks g c =
    subst (λ (count : ℕ). AsksPart (among g.D.Shelf.told g.D.Shelf.faults g.W.Actor.between g.W.Actor.meanwhile)
    (known (g.W.Actor.own c.args.actor.now) (g.W.Actor.house c.args.actor.now)) (known (g.W.Actor.own c.hold.new.self) (g.W.Actor.house c.hold.new.self))
    c.args.part.now (Ok count)) (sym c.count_of.ensures)
    (turn-done g.D.Shelf.told g.D.Shelf.faults g.W.Actor.between g.W.Actor.meanwhile g.met.W.Actor.goes_on
    (known (g.W.Actor.own c.args.actor.now) (g.W.Actor.house c.args.actor.now)) (known (g.W.Actor.own c.hold.new.self) (g.W.Actor.house c.hold.new.self))
    c.requires.running c.args.part.now c.hold.result c.hold.ensures.held c.hold.ensures.went c.in-Ok.found c.in-Ok.is)

pub returns-in-Err-clause-asks : goal.returns-in-Err-clause-asks
returns-in-Err-clause-asks g c =
    subst (λ (why : RunFault). AsksPart (among g.D.Shelf.told g.D.Shelf.faults g.W.Actor.between g.W.Actor.meanwhile)
    (known (g.W.Actor.own c.args.actor.now) (g.W.Actor.house c.args.actor.now)) (known (g.W.Actor.own c.hold.new.self) (g.W.Actor.house c.hold.new.self))
    c.args.part.now (Err why)) (sym c.act_run.ensures)
    (turn-refused g.D.Shelf.told g.D.Shelf.faults g.W.Actor.between g.W.Actor.meanwhile g.met.W.Actor.goes_on
    (known (g.W.Actor.own c.args.actor.now) (g.W.Actor.house c.args.actor.now)) (known (g.W.Actor.own c.hold.new.self) (g.W.Actor.house c.hold.new.self))
    c.requires.running c.args.part.now c.hold.result c.hold.ensures.held c.hold.ensures.went c.in-Err.why c.in-Err.is)
