use Rattle.std.proofs.Common.{Err, sym, subst}
use Rattle.hv_actor.specs.Acting.{among, known}
use Rattle.hv_job_acts.specs.hv_acts.specs.hv_telling.specs.hv_house.specs.declared.listing.Listing.{Listing}
use Rattle.hv_compact.specs.declared.fault.Stop.{Stop}
use Rattle.hv_compact.specs.Compacting.{Works}
use Rattle.hv_compact.proofs.Listings.{listed-works, unlisted-works, listed-job}
use Rattle.hv_compact.proofs.compacting.list.Goals as goal

pub hold-requires-clause-few : goal.hold-requires-clause-few
hold-requires-clause-few g c = g.met.W.Actor.one

pub returns-in-Ok-clause-works : goal.returns-in-Ok-clause-works
returns-in-Ok-clause-works g c =
    listed-works g.D.Shelf.told g.D.Shelf.faults g.W.Actor.between g.W.Actor.meanwhile g.met.W.Actor.goes_on (known (g.W.Actor.own c.args.actor.now) (g.W.Actor.house c.args.actor.now)) (known (g.W.Actor.own c.hold.new.self) (g.W.Actor.house c.hold.new.self)) c.requires.running c.args.task.job c.hold.result c.hold.ensures.held c.hold.ensures.went c.in-Ok.listing
    c.in-Ok.is

pub returns-in-Err-clause-works : goal.returns-in-Err-clause-works
returns-in-Err-clause-works g c =
    let a = (known (g.W.Actor.own c.args.actor.now) (g.W.Actor.house c.args.actor.now)) in
    let b = (known (g.W.Actor.own c.hold.new.self) (g.W.Actor.house c.hold.new.self)) in
    subst (λ (why : Stop). Works {T = Listing} (among g.D.Shelf.told g.D.Shelf.faults g.W.Actor.between g.W.Actor.meanwhile) c.args.task.job a b (Err why)) (sym c.act_stop.ensures)
    (unlisted-works g.D.Shelf.told g.D.Shelf.faults g.W.Actor.between g.W.Actor.meanwhile g.met.W.Actor.goes_on a b c.requires.running c.args.task.job c.hold.result c.hold.ensures.held c.hold.ensures.went c.in-Err.why c.in-Err.is)

pub returns-in-Ok-clause-listed : goal.returns-in-Ok-clause-listed
returns-in-Ok-clause-listed g c is =
    let a = (known (g.W.Actor.own c.args.actor.now) (g.W.Actor.house c.args.actor.now)) in
    let b = (known (g.W.Actor.own c.hold.new.self) (g.W.Actor.house c.hold.new.self)) in
    listed-job g.D.Shelf.told g.D.Shelf.faults g.W.Actor.between g.W.Actor.meanwhile g.met.W.Actor.goes_on a b c.requires.running c.args.task.job c.hold.result c.hold.ensures.held c.hold.ensures.went
    c.args.task.kind c.args.task.low c.args.task.high c.in-Ok.listing c.in-Ok.is is c.requires.picked
