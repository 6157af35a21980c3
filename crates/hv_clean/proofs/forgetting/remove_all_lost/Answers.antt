use Rattle.hv_actor.specs.Acting.{known}
use Rattle.std.proofs.Common.{rules, subst}
use Rattle.std.specs.List.{AllByRecursion}
use Rattle.hv_job_acts.specs.hv_acts.specs.Told.{trail_in}
use Rattle.hv_clean.specs.Removing.{IsLostDir}
use Rattle.hv_clean.proofs.Lasts.{lost-lasts}
use Rattle.hv_clean.proofs.Moved.{sweeps-none, sweeps-then, moves-sweeps, moves-front, less-behind}
use Rattle.hv_clean.proofs.Turns.{head-of, tail-of}
use Rattle.hv_clean.proofs.forgetting.remove_all_lost.Goals as goal

pub loop-dir-init : goal.loop-dir-init
loop-dir-init g c = (
  c.requires.keeps,
  sweeps-none g.D.Shelf.told g.D.Shelf.faults g.W.Actor.between g.met.W.Actor.rows g.W.Actor.meanwhile (known (g.W.Actor.own c.args.actor.now) (g.W.Actor.house c.args.actor.now)) c.args.swept.now c.requires.running,
  (c.requires.lost.0, subst (AllByRecursion (IsLostDir c.args.id)) (search rules) c.requires.lost.1),
)

pub remove_lost-requires : goal.remove_lost-requires
remove_lost-requires g c = record {
  keeps = c.loop-dir.invariant.0;
  running = c.loop-dir.invariant.1.running;
  lost = (
    c.loop-dir.invariant.2.0,
    (
      head-of (IsLostDir c.args.id) c.in-Some.dir c.loop-dir.dir-iterator.rest.items c.next.new.self.rest.items
          c.in-Some.ensures.steps.0 c.loop-dir.invariant.2.1,
      tt,
    ),
  );
}

pub returns-in-Err-clause-less : goal.returns-in-Err-clause-less
returns-in-Err-clause-less g c =
    less-behind g.D.Shelf.told g.D.Shelf.faults g.W.Actor.between g.met.W.Actor.rows g.W.Actor.meanwhile (known (g.W.Actor.own c.args.actor.now) (g.W.Actor.house c.args.actor.now)) (known (g.W.Actor.own c.loop-dir.actor) (g.W.Actor.house c.loop-dir.actor)) (known (g.W.Actor.own c.remove_lost.new.actor) (g.W.Actor.house c.remove_lost.new.actor)) c.args.swept.now c.loop-dir.swept c.in-Err.why c.loop-dir.invariant.1 c.in-Err.ensures.less

pub loop-dir-preserved : goal.loop-dir-preserved
loop-dir-preserved g c =
    let s = c.in_default.ensures.sweeps in
    let front = moves-front g.D.Shelf.told g.D.Shelf.faults g.W.Actor.between g.met.W.Actor.rows g.W.Actor.meanwhile (known (g.W.Actor.own c.loop-dir.actor) (g.W.Actor.house c.loop-dir.actor)) (known (g.W.Actor.own c.remove_lost.new.actor) (g.W.Actor.house c.remove_lost.new.actor)) (moves-sweeps g.D.Shelf.told g.D.Shelf.faults g.W.Actor.between g.met.W.Actor.rows g.W.Actor.meanwhile (known (g.W.Actor.own c.loop-dir.actor) (g.W.Actor.house c.loop-dir.actor)) (known (g.W.Actor.own c.remove_lost.new.actor) (g.W.Actor.house c.remove_lost.new.actor)) c.loop-dir.swept c.remove_lost.new.swept s) in (
      c.remove_lost.ensures.keeps,
      sweeps-then g.D.Shelf.told g.D.Shelf.faults g.W.Actor.between g.met.W.Actor.rows g.W.Actor.meanwhile (known (g.W.Actor.own c.args.actor.now) (g.W.Actor.house c.args.actor.now)) (known (g.W.Actor.own c.loop-dir.actor) (g.W.Actor.house c.loop-dir.actor)) (known (g.W.Actor.own c.remove_lost.new.actor) (g.W.Actor.house c.remove_lost.new.actor)) c.args.swept.now c.loop-dir.swept c.remove_lost.new.swept c.loop-dir.invariant.1 s,
      (
        lost-lasts (trail_in (g.W.Actor.house c.loop-dir.actor)) (trail_in (g.W.Actor.house c.remove_lost.new.actor)) front c.args.id c.loop-dir.invariant.2.0,
        tail-of (IsLostDir c.args.id) c.in-Some.dir c.loop-dir.dir-iterator.rest.items c.next.new.self.rest.items c.in-Some.ensures.steps.0
            c.loop-dir.invariant.2.1,
      ),
    )

pub returns-clause-sweeps : goal.returns-clause-sweeps
returns-clause-sweeps g c = c.loop-dir.invariant.1
