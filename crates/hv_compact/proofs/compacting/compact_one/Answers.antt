use Rattle.std.proofs.Common.{sym, subst}
use Rattle.hv_actor.specs.Acting.{among, known}
use Rattle.hv_compact.specs.declared.fault.RunFault.{RunFault}
use Rattle.hv_compact.specs.Compacting.{StopsWith}
use Rattle.hv_compact.proofs.Endings.{picked-open, if-picked, unpicked-adds, unpicked-stops, all-compacts, all-running, all-stops, all-later}
use Rattle.hv_compact.proofs.compacting.compact_one.Goals as goal

pub hold-requires-clause-few : goal.hold-requires-clause-few
hold-requires-clause-few g c = g.met.W.Actor.one

pub compact_found-requires-clause-running : goal.compact_found-requires-clause-running
compact_found-requires-clause-running g c =
    picked-open g.D.Shelf.told g.D.Shelf.faults g.W.Actor.between g.W.Actor.meanwhile g.met.W.Actor.goes_on g.met.W.Actor.rows (known (g.W.Actor.own c.args.actor.now) (g.W.Actor.house c.args.actor.now)) (known (g.W.Actor.own c.hold.new.self) (g.W.Actor.house c.hold.new.self)) c.requires.running c.hold.result c.hold.ensures.held c.hold.ensures.went c.in-Ok.found
    c.in-Ok.is

pub compact_found-requires-clause-picked : goal.compact_found-requires-clause-picked
compact_found-requires-clause-picked g c =
    if-picked g.D.Shelf.told g.D.Shelf.faults g.W.Actor.between g.W.Actor.meanwhile g.met.W.Actor.goes_on g.met.W.Actor.rows (known (g.W.Actor.own c.args.actor.now) (g.W.Actor.house c.args.actor.now)) (known (g.W.Actor.own c.hold.new.self) (g.W.Actor.house c.hold.new.self)) c.requires.running c.hold.result c.hold.ensures.held c.hold.ensures.went c.in-Ok.found c.in-Ok.is

pub returns-in-Ok-clause-later : goal.returns-in-Ok-clause-later
returns-in-Ok-clause-later g c =
    all-later g.D.Shelf.told g.D.Shelf.faults g.W.Actor.between g.W.Actor.meanwhile g.met.W.Actor.goes_on g.met.W.Actor.rows (known (g.W.Actor.own c.args.actor.now) (g.W.Actor.house c.args.actor.now)) (known (g.W.Actor.own c.hold.new.self) (g.W.Actor.house c.hold.new.self)) c.requires.running c.hold.result c.hold.ensures.held c.hold.ensures.went
    (known (g.W.Actor.own c.compact_found.new.actor) (g.W.Actor.house c.compact_found.new.actor)) c.in-Ok.found c.compact_found.result c.in-Ok.is
    c.compact_found.ensures.ends c.compact_found.ensures.less

pub returns-in-Ok-clause-running : goal.returns-in-Ok-clause-running
returns-in-Ok-clause-running g c =
    all-running g.D.Shelf.told g.D.Shelf.faults g.W.Actor.between g.W.Actor.meanwhile g.met.W.Actor.goes_on g.met.W.Actor.rows (known (g.W.Actor.own c.args.actor.now) (g.W.Actor.house c.args.actor.now)) (known (g.W.Actor.own c.hold.new.self) (g.W.Actor.house c.hold.new.self)) c.requires.running c.hold.result c.hold.ensures.held c.hold.ensures.went
    (known (g.W.Actor.own c.compact_found.new.actor) (g.W.Actor.house c.compact_found.new.actor)) c.in-Ok.found c.compact_found.result c.in-Ok.is
    c.compact_found.ensures.ends

pub returns-in-Ok-clause-compacts : goal.returns-in-Ok-clause-compacts
returns-in-Ok-clause-compacts g c =
    all-compacts g.D.Shelf.told g.D.Shelf.faults g.W.Actor.between g.W.Actor.meanwhile g.met.W.Actor.goes_on g.met.W.Actor.rows (known (g.W.Actor.own c.args.actor.now) (g.W.Actor.house c.args.actor.now)) (known (g.W.Actor.own c.hold.new.self) (g.W.Actor.house c.hold.new.self)) c.requires.running c.hold.result c.hold.ensures.held c.hold.ensures.went
    (known (g.W.Actor.own c.compact_found.new.actor) (g.W.Actor.house c.compact_found.new.actor)) c.in-Ok.found c.compact_found.result c.in-Ok.is
    c.compact_found.ensures.ends

pub returns-in-Ok-clause-stops : goal.returns-in-Ok-clause-stops
returns-in-Ok-clause-stops g c =
    all-stops g.D.Shelf.told g.D.Shelf.faults g.W.Actor.between g.W.Actor.meanwhile g.met.W.Actor.goes_on g.met.W.Actor.rows (known (g.W.Actor.own c.args.actor.now) (g.W.Actor.house c.args.actor.now)) (known (g.W.Actor.own c.hold.new.self) (g.W.Actor.house c.hold.new.self)) c.requires.running c.hold.result c.hold.ensures.held c.hold.ensures.went
    (known (g.W.Actor.own c.compact_found.new.actor) (g.W.Actor.house c.compact_found.new.actor)) c.in-Ok.found c.compact_found.result c.in-Ok.is
    c.compact_found.ensures.less

pub returns-in-Err-clause-later : goal.returns-in-Err-clause-later
returns-in-Err-clause-later g c =
    (unpicked-adds g.D.Shelf.told g.D.Shelf.faults g.W.Actor.between g.W.Actor.meanwhile g.met.W.Actor.goes_on g.met.W.Actor.rows (known (g.W.Actor.own c.args.actor.now) (g.W.Actor.house c.args.actor.now)) (known (g.W.Actor.own c.hold.new.self) (g.W.Actor.house c.hold.new.self)) c.requires.running c.hold.result c.hold.ensures.held c.hold.ensures.went c.in-Err.why
    c.in-Err.is).later

pub returns-in-Err-clause-stops : goal.returns-in-Err-clause-stops
returns-in-Err-clause-stops g c =
    subst (λ (why : RunFault). StopsWith (among g.D.Shelf.told g.D.Shelf.faults g.W.Actor.between g.W.Actor.meanwhile) (known (g.W.Actor.own c.args.actor.now) (g.W.Actor.house c.args.actor.now)) (known (g.W.Actor.own c.hold.new.self) (g.W.Actor.house c.hold.new.self)) why) (sym c.act_run.ensures)
    (unpicked-stops g.D.Shelf.told g.D.Shelf.faults g.W.Actor.between g.W.Actor.meanwhile g.met.W.Actor.goes_on g.met.W.Actor.rows (known (g.W.Actor.own c.args.actor.now) (g.W.Actor.house c.args.actor.now)) (known (g.W.Actor.own c.hold.new.self) (g.W.Actor.house c.hold.new.self)) c.requires.running c.hold.result c.hold.ensures.held c.hold.ensures.went c.in-Err.why
    c.in-Err.is)
