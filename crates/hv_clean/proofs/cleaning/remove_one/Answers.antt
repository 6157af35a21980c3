use Rattle.hv_history.specs.Lasting.{IsFront}
use Rattle.hv_job_acts.specs.hv_acts.specs.Told.{trail_in}
use Rattle.hv_actor.specs.Acting.{known}
use Rattle.hv_clean.specs.Stopping.{refusal_of}
use Rattle.hv_clean.proofs.Lasts.{covered-lasts}
use Rattle.hv_clean.proofs.Turns.{remove-behind, remove-done, remove-went, removal-sweeps, removal-less, removal-says, removal-went}
use Rattle.hv_clean.proofs.cleaning.remove_one.Goals as goal

pub hold-requires-clause-few : goal.hold-requires-clause-few
hold-requires-clause-few g c = g.met.W.Actor.one

pub hold-requires-clause-can : goal.hold-requires-clause-can
hold-requires-clause-can g c = λ house kept reached.
    let later = g.met.W.Actor.goes_on (g.W.Actor.house c.args.actor.now) house reached in
    let front : IsFront (trail_in (g.W.Actor.house c.args.actor.now)) (trail_in house) = record { more = later.added; is = later.trail } in
    covered-lasts (trail_in (g.W.Actor.house c.args.actor.now)) (trail_in house) front c.args.job c.args.dir c.requires.covered

pub returns-in-Ok-clause-sweeps : goal.returns-in-Ok-clause-sweeps
returns-in-Ok-clause-sweeps g c =
    remove-done g.D.Shelf.told g.D.Shelf.faults g.W.Actor.between g.W.Actor.meanwhile g.met.W.Actor.goes_on c.args.job c.args.dir (g.W.Actor.own c.args.actor.now) (g.W.Actor.own c.hold.new.self) (g.W.Actor.house c.args.actor.now) (g.W.Actor.house c.hold.new.self) c.requires.running
    c.hold.result c.hold.ensures.held c.hold.ensures.went c.args.swept.now c.in-Ok.is

pub returns-in-Ok-clause-went : goal.returns-in-Ok-clause-went
returns-in-Ok-clause-went g c =
    remove-went g.D.Shelf.told g.D.Shelf.faults g.W.Actor.between g.W.Actor.meanwhile g.met.W.Actor.goes_on c.args.job c.args.dir (g.W.Actor.own c.args.actor.now) (g.W.Actor.own c.hold.new.self) (g.W.Actor.house c.args.actor.now) (g.W.Actor.house c.hold.new.self) c.requires.running
    c.hold.result c.hold.ensures.held c.hold.ensures.went c.in-Ok.is

pub returns-in-Err-clause-sweeps : goal.returns-in-Err-clause-sweeps
returns-in-Err-clause-sweeps g c =
    removal-sweeps g.D.Shelf.told g.D.Shelf.faults g.W.Actor.between g.W.Actor.meanwhile g.met.W.Actor.goes_on (known (g.W.Actor.own c.args.actor.now) (g.W.Actor.house c.args.actor.now)) (known (g.W.Actor.own c.hold.new.self) (g.W.Actor.house c.hold.new.self))
    c.args.swept.now c.counted.result (refusal_of c.in-Err.why) c.refusal_of-why.result c.removal_by.result c.refusal_of-why.ensures c.counted.ensures c.removal_by.ensures
    (remove-behind g.D.Shelf.told g.D.Shelf.faults g.W.Actor.between g.W.Actor.meanwhile g.met.W.Actor.goes_on c.args.job c.args.dir (g.W.Actor.own c.args.actor.now) (g.W.Actor.own c.hold.new.self) (g.W.Actor.house c.args.actor.now) (g.W.Actor.house c.hold.new.self) c.requires.running
    c.hold.result c.hold.ensures.held c.hold.ensures.went c.in-Err.why c.args.swept.now c.in-Err.is)

pub returns-in-Err-clause-less : goal.returns-in-Err-clause-less
returns-in-Err-clause-less g c =
    removal-less g.D.Shelf.told g.D.Shelf.faults g.W.Actor.between g.W.Actor.meanwhile g.met.W.Actor.goes_on (known (g.W.Actor.own c.args.actor.now) (g.W.Actor.house c.args.actor.now)) (known (g.W.Actor.own c.hold.new.self) (g.W.Actor.house c.hold.new.self))
    c.args.swept.now c.counted.result (refusal_of c.in-Err.why) c.refusal_of-why.result c.removal_by.result c.refusal_of-why.ensures c.removal_by.ensures
    (remove-behind g.D.Shelf.told g.D.Shelf.faults g.W.Actor.between g.W.Actor.meanwhile g.met.W.Actor.goes_on c.args.job c.args.dir (g.W.Actor.own c.args.actor.now) (g.W.Actor.own c.hold.new.self) (g.W.Actor.house c.args.actor.now) (g.W.Actor.house c.hold.new.self) c.requires.running
    c.hold.result c.hold.ensures.held c.hold.ensures.went c.in-Err.why c.args.swept.now c.in-Err.is)

pub returns-in-Err-clause-says : goal.returns-in-Err-clause-says
returns-in-Err-clause-says g c =
    removal-says g.D.Shelf.told g.D.Shelf.faults g.W.Actor.between g.W.Actor.meanwhile g.met.W.Actor.goes_on c.args.job c.args.dir (g.W.Actor.own c.args.actor.now) (g.W.Actor.own c.hold.new.self) (g.W.Actor.house c.args.actor.now) (g.W.Actor.house c.hold.new.self) c.requires.running
    c.hold.result c.in-Err.why c.args.swept.now c.counted.result c.refusal_of-why.result c.removal_by.result c.in-Err.is c.hold.ensures.held c.refusal_of-why.ensures
    c.counted.ensures c.removal_by.ensures

pub returns-in-Err-clause-went : goal.returns-in-Err-clause-went
returns-in-Err-clause-went g c =
    removal-went g.D.Shelf.told g.D.Shelf.faults g.W.Actor.between g.W.Actor.meanwhile g.met.W.Actor.goes_on c.args.job c.args.dir (g.W.Actor.own c.args.actor.now) (g.W.Actor.own c.hold.new.self) (g.W.Actor.house c.args.actor.now) (g.W.Actor.house c.hold.new.self) c.requires.running
    c.refusal_of-why.result c.removal_by.result c.removal_by.ensures
