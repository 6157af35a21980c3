use Rattle.hv_history.specs.Lasting.{IsFront}
use Rattle.hv_job_acts.specs.hv_acts.specs.Told.{trail_in}
use Rattle.hv_actor.specs.Acting.{known}
use Rattle.hv_clean.specs.Stopping.{refusal_of}
use Rattle.hv_trail.specs.Steps.{HouseSeen, Remove}
use Rattle.hv_trail.specs.Trail.{state_at}
use Rattle.std.specs.Prelude.{None, Result}
use Rattle.hv_job_acts.specs.Doing.{SweepsSo}
use Rattle.hv_clean.proofs.Holds.{behind-err, went-swept, remove-quietly}
use Rattle.hv_clean.proofs.Lasts.{sweepable-lasts}
use Rattle.hv_clean.proofs.Turns.{refused-sweeps, refused-less}
use Rattle.hv_clean.proofs.sweeping.sweep_one.Goals as goal

pub hold-requires-clause-few : goal.hold-requires-clause-few
hold-requires-clause-few g c = g.met.W.Actor.one

pub hold-requires-clause-can : goal.hold-requires-clause-can
hold-requires-clause-can g c = λ house kept reached.
    let later = g.met.W.Actor.goes_on (g.W.Actor.house c.args.actor.now) house reached in
    let front : IsFront (trail_in (g.W.Actor.house c.args.actor.now)) (trail_in house) = record { more = later.added; is = later.trail } in
    sweepable-lasts (trail_in (g.W.Actor.house c.args.actor.now)) (trail_in house) front c.args.dir c.requires.can

pub returns-in-Ok-clause-sweeps : goal.returns-in-Ok-clause-sweeps
returns-in-Ok-clause-sweeps g c =
    went-swept g.D.Shelf.told g.D.Shelf.faults g.W.Actor.between g.W.Actor.meanwhile g.met.W.Actor.goes_on (λ (seen : HouseSeen g.row.D.Denot) (r : Result _ _). SweepsSo (state_at seen.trail) c.args.dir r)
    (g.W.Actor.own c.args.actor.now) (g.W.Actor.own c.hold.new.self) (g.W.Actor.house c.args.actor.now) (g.W.Actor.house c.hold.new.self) c.requires.running c.args.swept.now c.args.dir tt c.hold.result c.in-Ok.is c.hold.ensures.held c.hold.ensures.went

pub returns-in-Err-clause-sweeps : goal.returns-in-Err-clause-sweeps
returns-in-Err-clause-sweeps g c =
    refused-sweeps g.D.Shelf.told g.D.Shelf.faults g.W.Actor.between g.W.Actor.meanwhile g.met.W.Actor.goes_on (known (g.W.Actor.own c.args.actor.now) (g.W.Actor.house c.args.actor.now)) (known (g.W.Actor.own c.hold.new.self) (g.W.Actor.house c.hold.new.self))
    c.args.swept.now c.counted.result (refusal_of c.in-Err.why) c.refusal_of-why.result c.unless_stopped.result c.refusal_of-why.ensures c.counted.ensures
    c.unless_stopped.ensures
    (behind-err g.D.Shelf.told g.D.Shelf.faults g.W.Actor.between g.W.Actor.meanwhile g.met.W.Actor.goes_on (λ (seen : HouseSeen g.row.D.Denot) (r : Result _ _). SweepsSo (state_at seen.trail) c.args.dir r)
    (g.W.Actor.own c.args.actor.now) (g.W.Actor.own c.hold.new.self) (g.W.Actor.house c.args.actor.now) (g.W.Actor.house c.hold.new.self) c.requires.running c.args.swept.now (Remove None c.args.dir) (remove-quietly c.args.dir) (λ seen entries so. absurd so.others) c.hold.result c.in-Err.why c.in-Err.is
    c.hold.ensures.held c.hold.ensures.went)

pub returns-in-Err-clause-less : goal.returns-in-Err-clause-less
returns-in-Err-clause-less g c =
    refused-less g.D.Shelf.told g.D.Shelf.faults g.W.Actor.between g.W.Actor.meanwhile g.met.W.Actor.goes_on (known (g.W.Actor.own c.args.actor.now) (g.W.Actor.house c.args.actor.now)) (known (g.W.Actor.own c.hold.new.self) (g.W.Actor.house c.hold.new.self))
    c.args.swept.now c.args.swept.now (refusal_of c.in-Err.why) c.refusal_of-why.result c.unless_stopped.result c.refusal_of-why.ensures
    c.unless_stopped.ensures
    (behind-err g.D.Shelf.told g.D.Shelf.faults g.W.Actor.between g.W.Actor.meanwhile g.met.W.Actor.goes_on (λ (seen : HouseSeen g.row.D.Denot) (r : Result _ _). SweepsSo (state_at seen.trail) c.args.dir r)
    (g.W.Actor.own c.args.actor.now) (g.W.Actor.own c.hold.new.self) (g.W.Actor.house c.args.actor.now) (g.W.Actor.house c.hold.new.self) c.requires.running c.args.swept.now (Remove None c.args.dir) (remove-quietly c.args.dir) (λ seen entries so. absurd so.others) c.hold.result c.in-Err.why c.in-Err.is
    c.hold.ensures.held c.hold.ensures.went)
