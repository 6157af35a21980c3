use Rattle.std.proofs.Common.{Err, sym, subst}
use Rattle.hv_actor.specs.Acting.{among, known}
use Rattle.hv_compact.specs.declared.fault.Stop.{Stop}
use Rattle.hv_compact.specs.Compacting.{Works}
use Rattle.hv_compact.proofs.Puts.{can-stage, staged-works, staged-in, unstaged-works}
use Rattle.hv_compact.proofs.writing.stage.Goals as goal

pub hold-requires-clause-few : goal.hold-requires-clause-few
hold-requires-clause-few g c = g.met.W.Actor.one

pub hold-requires-clause-can : goal.hold-requires-clause-can
hold-requires-clause-can g c = λ now kept reached is.
    can-stage g.D.Shelf.told g.D.Shelf.faults g.W.Actor.between g.W.Actor.meanwhile g.met.W.Actor.goes_on (g.W.Actor.house c.args.actor.now)
    c.args.task.job c.args.name.now c.args.bucket c.args.bytes.now c.requires.truly now kept reached is

pub returns-in-Ok-clause-works : goal.returns-in-Ok-clause-works
returns-in-Ok-clause-works g c =
    staged-works g.D.Shelf.told g.D.Shelf.faults g.W.Actor.between g.W.Actor.meanwhile g.met.W.Actor.goes_on
    (known (g.W.Actor.own c.args.actor.now) (g.W.Actor.house c.args.actor.now)) (known (g.W.Actor.own c.hold.new.self) (g.W.Actor.house c.hold.new.self))
    c.requires.running c.args.task.job c.args.name.now c.args.bucket c.args.bytes.now c.hold.result c.hold.ensures.held c.hold.ensures.went
    c.in-Ok._place tt c.in-Ok.is

pub returns-in-Ok-clause-staged : goal.returns-in-Ok-clause-staged
returns-in-Ok-clause-staged g c =
    staged-in g.D.Shelf.told g.D.Shelf.faults g.W.Actor.between g.W.Actor.meanwhile g.met.W.Actor.goes_on
    (known (g.W.Actor.own c.args.actor.now) (g.W.Actor.house c.args.actor.now)) (known (g.W.Actor.own c.hold.new.self) (g.W.Actor.house c.hold.new.self))
    c.requires.running c.args.task.job c.args.name.now c.args.bucket c.args.bytes.now c.hold.result c.hold.ensures.held c.hold.ensures.went
    c.in-Ok._place c.in-Ok.is

pub returns-in-Err-clause-works : goal.returns-in-Err-clause-works
returns-in-Err-clause-works g c =
    let a = known (g.W.Actor.own c.args.actor.now) (g.W.Actor.house c.args.actor.now) in
    let b = known (g.W.Actor.own c.hold.new.self) (g.W.Actor.house c.hold.new.self) in
    subst (λ (why : Stop). Works {T = Unit {0}} (among g.D.Shelf.told g.D.Shelf.faults g.W.Actor.between g.W.Actor.meanwhile) c.args.task.job a b (Err why))
    (sym c.act_stop.ensures)
    (unstaged-works g.D.Shelf.told g.D.Shelf.faults g.W.Actor.between g.W.Actor.meanwhile g.met.W.Actor.goes_on a b c.requires.running c.args.task.job
    c.args.name.now c.args.bucket c.args.bytes.now c.hold.result c.hold.ensures.held c.hold.ensures.went c.in-Err.why c.in-Err.is)
