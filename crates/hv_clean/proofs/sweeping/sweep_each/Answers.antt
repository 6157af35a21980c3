use Rattle.hv_actor.specs.Acting.{known}
use Rattle.std.proofs.Common.{rules, subst}
use Rattle.std.specs.List.{AllByRecursion}
use Rattle.hv_job_acts.specs.hv_acts.specs.Told.{trail_in}
use Rattle.hv_trail.specs.Trail.{state_at}
use Rattle.hv_job_acts.specs.hv_job_calls.specs.Refusals.{CanSweep}
use Rattle.hv_clean.proofs.Lasts.{all-sweepable}
use Rattle.hv_clean.proofs.Moved.{sweeps-none, sweeps-then, moves-sweeps, moves-front, less-behind}
use Rattle.hv_clean.proofs.Turns.{head-of, tail-of}
use Rattle.hv_clean.proofs.sweeping.sweep_each.Goals as goal

pub loop-dir-init : goal.loop-dir-init
loop-dir-init g c = (
  c.requires.keeps,
  sweeps-none g.D.Shelf.told g.D.Shelf.faults g.W.Actor.between g.met.W.Actor.rows g.W.Actor.meanwhile (known (g.W.Actor.own c.args.actor.now) (g.W.Actor.house c.args.actor.now)) c.args.swept.now c.requires.running,
  subst (AllByRecursion (CanSweep (state_at (trail_in (g.W.Actor.house c.args.actor.now))))) (search rules) c.requires.can,
)

pub sweep_one-requires : goal.sweep_one-requires
sweep_one-requires g c = record {
  keeps = c.loop-dir.invariant.0;
  running = c.loop-dir.invariant.1.running;
  can = head-of (CanSweep (state_at (trail_in (g.W.Actor.house c.loop-dir.actor)))) c.in-Some.dir c.loop-dir.dir-iterator.rest.items c.next.new.self.rest.items
      c.in-Some.ensures.steps.0 c.loop-dir.invariant.2;
}

pub returns-in-Err-clause-less : goal.returns-in-Err-clause-less
returns-in-Err-clause-less g c =
    less-behind g.D.Shelf.told g.D.Shelf.faults g.W.Actor.between g.met.W.Actor.rows g.W.Actor.meanwhile (known (g.W.Actor.own c.args.actor.now) (g.W.Actor.house c.args.actor.now)) (known (g.W.Actor.own c.loop-dir.actor) (g.W.Actor.house c.loop-dir.actor)) (known (g.W.Actor.own c.sweep_one.new.actor) (g.W.Actor.house c.sweep_one.new.actor)) c.args.swept.now c.loop-dir.swept c.in-Err.why c.loop-dir.invariant.1 c.in-Err.ensures.less

pub loop-dir-preserved : goal.loop-dir-preserved
loop-dir-preserved g c =
    let s = c.in_default.ensures.sweeps in
    let front = moves-front g.D.Shelf.told g.D.Shelf.faults g.W.Actor.between g.met.W.Actor.rows g.W.Actor.meanwhile (known (g.W.Actor.own c.loop-dir.actor) (g.W.Actor.house c.loop-dir.actor)) (known (g.W.Actor.own c.sweep_one.new.actor) (g.W.Actor.house c.sweep_one.new.actor)) (moves-sweeps g.D.Shelf.told g.D.Shelf.faults g.W.Actor.between g.met.W.Actor.rows g.W.Actor.meanwhile (known (g.W.Actor.own c.loop-dir.actor) (g.W.Actor.house c.loop-dir.actor)) (known (g.W.Actor.own c.sweep_one.new.actor) (g.W.Actor.house c.sweep_one.new.actor)) c.loop-dir.swept c.sweep_one.new.swept s) in (
      c.sweep_one.ensures.keeps,
      sweeps-then g.D.Shelf.told g.D.Shelf.faults g.W.Actor.between g.met.W.Actor.rows g.W.Actor.meanwhile (known (g.W.Actor.own c.args.actor.now) (g.W.Actor.house c.args.actor.now)) (known (g.W.Actor.own c.loop-dir.actor) (g.W.Actor.house c.loop-dir.actor)) (known (g.W.Actor.own c.sweep_one.new.actor) (g.W.Actor.house c.sweep_one.new.actor)) c.args.swept.now c.loop-dir.swept c.sweep_one.new.swept c.loop-dir.invariant.1 s,
      all-sweepable (trail_in (g.W.Actor.house c.loop-dir.actor)) (trail_in (g.W.Actor.house c.sweep_one.new.actor)) front c.next.new.self.rest.items
          (tail-of (CanSweep (state_at (trail_in (g.W.Actor.house c.loop-dir.actor)))) c.in-Some.dir c.loop-dir.dir-iterator.rest.items c.next.new.self.rest.items c.in-Some.ensures.steps.0
          c.loop-dir.invariant.2),
    )

pub returns-clause-sweeps : goal.returns-clause-sweeps
returns-clause-sweeps g c = c.loop-dir.invariant.1
