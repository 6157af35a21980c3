use Rattle.hv_clean.specs.Stopping.{refusal_of}
use Rattle.std.specs.Prelude.{None, Result}
use Rattle.hv_trail.specs.Steps.{HouseSeen, Read}
use Rattle.hv_job_acts.specs.Reading.{PlacesSo}
use Rattle.hv_clean.proofs.Holds.{behind-err, read-swept, read-quietly}
use Rattle.hv_clean.proofs.Forgets.{listed-refused, list-sweeps, list-less}
use Rattle.hv_clean.proofs.forgetting.list.Goals as goal

pub hold-requires-clause-few : goal.hold-requires-clause-few
hold-requires-clause-few g c = g.met.W.Actor.one

pub returns-in-Ok-clause-sweeps : goal.returns-in-Ok-clause-sweeps
returns-in-Ok-clause-sweeps g c =
    read-swept g.D.Shelf.told g.D.Shelf.faults g.W.Actor.between g.W.Actor.meanwhile g.met.W.Actor.goes_on (λ (seen : HouseSeen g.row.D.Denot) (r : Result _ _). PlacesSo g.D.Shelf.told seen c.args.table r)
    (g.W.Actor.own c.args.actor.now) (g.W.Actor.own c.hold.new.self) (g.W.Actor.house c.args.actor.now) (g.W.Actor.house c.hold.new.self) c.requires.running c.args.swept.now c.in-Ok.places c.hold.result c.in-Ok.is c.hold.ensures.held c.hold.ensures.went

pub returns-in-Err-clause-sweeps : goal.returns-in-Err-clause-sweeps
returns-in-Err-clause-sweeps g c =
    list-sweeps g.D.Shelf.told g.D.Shelf.faults g.W.Actor.between g.met.W.Actor.rows g.W.Actor.meanwhile g.met.W.Actor.goes_on c.args.table (g.W.Actor.own c.args.actor.now) (g.W.Actor.own c.hold.new.self) (g.W.Actor.house c.args.actor.now) (g.W.Actor.house c.hold.new.self) c.requires.running c.args.swept.now c.counted.result
    (refusal_of c.in-Err.why) c.refusal_of-why.result c.not_listed.result c.refusal_of-why.ensures c.counted.ensures c.not_listed.ensures
    (behind-err g.D.Shelf.told g.D.Shelf.faults g.W.Actor.between g.W.Actor.meanwhile g.met.W.Actor.goes_on (λ (seen : HouseSeen g.row.D.Denot) (r : Result _ _). PlacesSo g.D.Shelf.told seen c.args.table r)
    (g.W.Actor.own c.args.actor.now) (g.W.Actor.own c.hold.new.self) (g.W.Actor.house c.args.actor.now) (g.W.Actor.house c.hold.new.self) c.requires.running c.args.swept.now (Read None) read-quietly (λ seen entries so. absurd so.others) c.hold.result c.in-Err.why c.in-Err.is c.hold.ensures.held c.hold.ensures.went)

pub returns-in-Err-clause-listed : goal.returns-in-Err-clause-listed
returns-in-Err-clause-listed g c =
    listed-refused g.D.Shelf.told g.D.Shelf.faults g.W.Actor.between g.met.W.Actor.rows g.W.Actor.meanwhile g.met.W.Actor.goes_on c.args.table (g.W.Actor.own c.args.actor.now) (g.W.Actor.own c.hold.new.self) (g.W.Actor.house c.args.actor.now) (g.W.Actor.house c.hold.new.self) c.requires.running c.hold.result c.in-Err.why c.args.swept.now
    c.counted.result c.refusal_of-why.result c.not_listed.result c.in-Err.is c.hold.ensures.held c.refusal_of-why.ensures c.counted.ensures c.not_listed.ensures

pub returns-in-Err-clause-less : goal.returns-in-Err-clause-less
returns-in-Err-clause-less g c =
    list-less g.D.Shelf.told g.D.Shelf.faults g.W.Actor.between g.met.W.Actor.rows g.W.Actor.meanwhile g.met.W.Actor.goes_on c.args.table (g.W.Actor.own c.args.actor.now) (g.W.Actor.own c.hold.new.self) (g.W.Actor.house c.args.actor.now) (g.W.Actor.house c.hold.new.self) c.requires.running c.args.swept.now
    (refusal_of c.in-Err.why) c.refusal_of-why.result c.not_listed.result c.refusal_of-why.ensures c.not_listed.ensures
    (behind-err g.D.Shelf.told g.D.Shelf.faults g.W.Actor.between g.W.Actor.meanwhile g.met.W.Actor.goes_on (λ (seen : HouseSeen g.row.D.Denot) (r : Result _ _). PlacesSo g.D.Shelf.told seen c.args.table r)
    (g.W.Actor.own c.args.actor.now) (g.W.Actor.own c.hold.new.self) (g.W.Actor.house c.args.actor.now) (g.W.Actor.house c.hold.new.self) c.requires.running c.args.swept.now (Read None) read-quietly (λ seen entries so. absurd so.others) c.hold.result c.in-Err.why c.in-Err.is c.hold.ensures.held c.hold.ensures.went)
