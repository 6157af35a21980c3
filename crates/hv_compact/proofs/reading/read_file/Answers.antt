use Rattle.std.proofs.Common.{Err, sym, subst}
use Rattle.std.specs.Global.{Vec}
use Rattle.hv_rowfile.specs.declared.record.Rec.{Rec}
use Rattle.hv_actor.specs.Acting.{among, known}
use Rattle.hv_compact.specs.declared.fault.Stop.{Stop}
use Rattle.hv_compact.specs.Compacting.{Works}
use Rattle.hv_compact.proofs.Gets.{got-works, ungot-works, got-made}
use Rattle.hv_compact.proofs.reading.read_file.Goals as goal

pub hold-requires-clause-few : goal.hold-requires-clause-few
hold-requires-clause-few g c = g.met.W.Actor.one

pub returns-in-Ok-clause-works : goal.returns-in-Ok-clause-works
returns-in-Ok-clause-works g c =
    got-works g.D.Shelf.told g.D.Shelf.faults g.W.Actor.between g.W.Actor.meanwhile c.args.task.job g.met.W.Actor.goes_on
    (known (g.W.Actor.own c.args.actor.now) (g.W.Actor.house c.args.actor.now)) (known (g.W.Actor.own c.hold.new.self) (g.W.Actor.house c.hold.new.self))
    c.requires.running c.args.file.now.place c.hold.result c.hold.ensures.held c.hold.ensures.went c.in-Ok.found c.records_in.result c.in-Ok.is
    c.records_in.ensures.spoilt

pub returns-in-Ok-clause-made : goal.returns-in-Ok-clause-made
returns-in-Ok-clause-made g c = λ recs was_told stands.
    c.records_in.ensures.made recs
    (got-made g.D.Shelf.told g.D.Shelf.faults g.W.Actor.between g.W.Actor.meanwhile c.args.task.job g.met.W.Actor.goes_on
    (known (g.W.Actor.own c.args.actor.now) (g.W.Actor.house c.args.actor.now)) (known (g.W.Actor.own c.hold.new.self) (g.W.Actor.house c.hold.new.self))
    c.requires.running c.args.file.now.place c.hold.result c.hold.ensures.held c.hold.ensures.went c.args.deletes recs c.in-Ok.found c.in-Ok.is was_told stands)

pub returns-in-Err-clause-works : goal.returns-in-Err-clause-works
returns-in-Err-clause-works g c =
    let a = known (g.W.Actor.own c.args.actor.now) (g.W.Actor.house c.args.actor.now) in
    let b = known (g.W.Actor.own c.hold.new.self) (g.W.Actor.house c.hold.new.self) in
    subst (λ (why : Stop). Works {T = Vec Rec} (among g.D.Shelf.told g.D.Shelf.faults g.W.Actor.between g.W.Actor.meanwhile) c.args.task.job a b (Err why))
    (sym c.act_stop.ensures)
    (ungot-works g.D.Shelf.told g.D.Shelf.faults g.W.Actor.between g.W.Actor.meanwhile c.args.task.job g.met.W.Actor.goes_on a b c.requires.running c.args.file.now.place
    c.hold.result c.hold.ensures.held c.hold.ensures.went c.in-Err.why c.in-Err.is)
