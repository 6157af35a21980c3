use Rattle.std.proofs.Common.{[], sym, subst}
use Rattle.hv_actor.specs.Acting.{among, known}
use Rattle.hv_compact.specs.Stopping.{StopsSo}
use Rattle.hv_compact.proofs.Ends.{given-ends, less-behind}
use Rattle.hv_compact.proofs.Endings.{can-publish, publish-ends, unpublished-adds, unpublished-stops}
use Rattle.hv_compact.proofs.compacting.publish.Goals as goal

pub hold-requires-clause-few : goal.hold-requires-clause-few
hold-requires-clause-few g c = g.met.W.Actor.one

pub hold-requires-clause-can : goal.hold-requires-clause-can
hold-requires-clause-can g c = λ now kept reached is.
    can-publish g.D.Shelf.told g.D.Shelf.faults g.W.Actor.between g.W.Actor.meanwhile g.met.W.Actor.goes_on g.met.W.Actor.rows (known (g.W.Actor.own c.args.actor.now) (g.W.Actor.house c.args.actor.now)) (known (g.W.Actor.own c.args.actor.now) (g.W.Actor.house c.args.actor.now)) c.requires.running
    (g.W.Actor.house c.args.actor.now) c.args.job c.requires.staged now kept reached is

pub returns-in-Ok-clause-ends : goal.returns-in-Ok-clause-ends
returns-in-Ok-clause-ends g c =
    publish-ends g.D.Shelf.told g.D.Shelf.faults g.W.Actor.between g.W.Actor.meanwhile g.met.W.Actor.goes_on g.met.W.Actor.rows (known (g.W.Actor.own c.args.actor.now) (g.W.Actor.house c.args.actor.now)) (known (g.W.Actor.own c.hold.new.self) (g.W.Actor.house c.hold.new.self)) c.requires.running c.args.job c.hold.result c.hold.ensures.held c.hold.ensures.went
    c.in-Ok.found c.in-Ok.is

pub end_by-requires-clause-stops : goal.end_by-requires-clause-stops
end_by-requires-clause-stops g c =
    subst (StopsSo (among g.D.Shelf.told g.D.Shelf.faults g.W.Actor.between g.W.Actor.meanwhile) c.args.job (g.W.Actor.house c.hold.new.self)) (sym c.act_stop.ensures)
    (unpublished-stops g.D.Shelf.told g.D.Shelf.faults g.W.Actor.between g.W.Actor.meanwhile g.met.W.Actor.goes_on g.met.W.Actor.rows (known (g.W.Actor.own c.args.actor.now) (g.W.Actor.house c.args.actor.now)) (known (g.W.Actor.own c.hold.new.self) (g.W.Actor.house c.hold.new.self)) c.requires.running c.args.job c.hold.result c.hold.ensures.held c.hold.ensures.went
    c.requires.there c.in-Err.why c.in-Err.is)

pub returns-in-Err-clause-ends : goal.returns-in-Err-clause-ends
returns-in-Err-clause-ends g c =
    given-ends g.D.Shelf.told g.D.Shelf.faults g.W.Actor.between g.W.Actor.meanwhile g.met.W.Actor.rows c.args.job (known (g.W.Actor.own c.args.actor.now) (g.W.Actor.house c.args.actor.now)) (known (g.W.Actor.own c.hold.new.self) (g.W.Actor.house c.hold.new.self)) (known (g.W.Actor.own c.end_by.new.actor) (g.W.Actor.house c.end_by.new.actor)) [] c.end_by.result
    (unpublished-adds g.D.Shelf.told g.D.Shelf.faults g.W.Actor.between g.W.Actor.meanwhile g.met.W.Actor.goes_on g.met.W.Actor.rows (known (g.W.Actor.own c.args.actor.now) (g.W.Actor.house c.args.actor.now)) (known (g.W.Actor.own c.hold.new.self) (g.W.Actor.house c.hold.new.self)) c.requires.running c.args.job c.hold.result c.hold.ensures.held c.hold.ensures.went
    c.in-Err.why c.in-Err.is) tt c.end_by.ensures.ends

pub returns-in-Err-clause-less : goal.returns-in-Err-clause-less
returns-in-Err-clause-less g c =
    less-behind g.D.Shelf.told g.D.Shelf.faults g.W.Actor.between g.W.Actor.meanwhile g.met.W.Actor.rows c.args.job (known (g.W.Actor.own c.args.actor.now) (g.W.Actor.house c.args.actor.now)) (known (g.W.Actor.own c.hold.new.self) (g.W.Actor.house c.hold.new.self)) (known (g.W.Actor.own c.end_by.new.actor) (g.W.Actor.house c.end_by.new.actor)) [] c.end_by.result
    (unpublished-adds g.D.Shelf.told g.D.Shelf.faults g.W.Actor.between g.W.Actor.meanwhile g.met.W.Actor.goes_on g.met.W.Actor.rows (known (g.W.Actor.own c.args.actor.now) (g.W.Actor.house c.args.actor.now)) (known (g.W.Actor.own c.hold.new.self) (g.W.Actor.house c.hold.new.self)) c.requires.running c.args.job c.hold.result c.hold.ensures.held c.hold.ensures.went
    c.in-Err.why c.in-Err.is) tt c.end_by.ensures.less
