use Rattle.hv_actor.specs.Acting.{known}
use Rattle.hv_job_acts.specs.hv_acts.specs.Told.{trail_in}
use Rattle.hv_clean.proofs.Moved.{sweeps-ok, less-up, moves-sweeps, moves-front}
use Rattle.hv_clean.proofs.Lasts.{dropped-lasts}
use Rattle.hv_clean.proofs.sweeping.sweep_table.Goals as goal

pub sweep_found-requires : goal.sweep_found-requires
sweep_found-requires g c =
    let s = c.in-Ok.ensures.sweeps in
    record {
      keeps = c.list.ensures.keeps;
      running = s.running;
      dropped = λ dead. dropped-lasts (trail_in (g.W.Actor.house c.args.actor.now)) (trail_in (g.W.Actor.house c.list.new.actor))
          (moves-front g.D.Shelf.told g.D.Shelf.faults g.W.Actor.between g.met.W.Actor.rows g.W.Actor.meanwhile (known (g.W.Actor.own c.args.actor.now) (g.W.Actor.house c.args.actor.now)) (known (g.W.Actor.own c.list.new.actor) (g.W.Actor.house c.list.new.actor)) (moves-sweeps g.D.Shelf.told g.D.Shelf.faults g.W.Actor.between g.met.W.Actor.rows g.W.Actor.meanwhile (known (g.W.Actor.own c.args.actor.now) (g.W.Actor.house c.args.actor.now)) (known (g.W.Actor.own c.list.new.actor) (g.W.Actor.house c.list.new.actor)) c.args.swept.now c.list.new.swept s)) c.args.table (c.requires.dropped dead);
    }

pub returns-in-Ok-clause-sweeps : goal.returns-in-Ok-clause-sweeps
returns-in-Ok-clause-sweeps g c =
    sweeps-ok g.D.Shelf.told g.D.Shelf.faults g.W.Actor.between g.met.W.Actor.rows g.W.Actor.meanwhile (known (g.W.Actor.own c.args.actor.now) (g.W.Actor.house c.args.actor.now)) (known (g.W.Actor.own c.list.new.actor) (g.W.Actor.house c.list.new.actor)) (known (g.W.Actor.own c.sweep_found.new.actor) (g.W.Actor.house c.sweep_found.new.actor)) c.args.swept.now c.list.new.swept c.sweep_found.new.swept c.sweep_found.result c.in-Ok.ensures.sweeps
    c.sweep_found.ensures.sweeps

pub returns-in-Ok-clause-less : goal.returns-in-Ok-clause-less
returns-in-Ok-clause-less g c =
    less-up g.D.Shelf.told g.D.Shelf.faults g.W.Actor.between g.met.W.Actor.rows g.W.Actor.meanwhile (known (g.W.Actor.own c.args.actor.now) (g.W.Actor.house c.args.actor.now)) (known (g.W.Actor.own c.list.new.actor) (g.W.Actor.house c.list.new.actor)) (known (g.W.Actor.own c.sweep_found.new.actor) (g.W.Actor.house c.sweep_found.new.actor)) c.args.swept.now c.list.new.swept c.sweep_found.result c.in-Ok.ensures.sweeps c.sweep_found.ensures.less
