use Rattle.hv_actor.specs.Acting.{known}
use Rattle.std.proofs.Common.{false, arith}
use Rattle.hv_job_acts.specs.hv_acts.specs.Told.{trail_in}
use Rattle.hv_clean.proofs.Moved.{sweeps-none, sweeps-then, moves-sweeps, moves-front, less-behind}
use Rattle.hv_clean.proofs.Lasts.{dead-dropped, tables-last}
use Rattle.hv_clean.proofs.sweeping.sweep_tables.Goals as goal

pub loop-i-init : goal.loop-i-init
loop-i-init g c = (
  c.requires.keeps,
  sweeps-none g.D.Shelf.told g.D.Shelf.faults g.W.Actor.between g.met.W.Actor.rows g.W.Actor.meanwhile (known (g.W.Actor.own c.args.actor.now) (g.W.Actor.house c.args.actor.now)) c.args.swept.now c.requires.running,
  c.requires.tables,
)

pub sweep_table-requires : goal.sweep_table-requires
sweep_table-requires g c = record {
  keeps = c.loop-i.invariant.0;
  running = c.loop-i.invariant.1.running;
  dropped = λ dead. dead-dropped (trail_in (g.W.Actor.house c.loop-i.actor)) c.args.live.now c.loop-i.i false c.loop-i.invariant.2
      (omega (arith, c.loop-i-test.true)) dead;
}

pub returns-in-Err-clause-less : goal.returns-in-Err-clause-less
returns-in-Err-clause-less g c =
    less-behind g.D.Shelf.told g.D.Shelf.faults g.W.Actor.between g.met.W.Actor.rows g.W.Actor.meanwhile (known (g.W.Actor.own c.args.actor.now) (g.W.Actor.house c.args.actor.now)) (known (g.W.Actor.own c.loop-i.actor) (g.W.Actor.house c.loop-i.actor)) (known (g.W.Actor.own c.sweep_table.new.actor) (g.W.Actor.house c.sweep_table.new.actor)) c.args.swept.now c.loop-i.swept c.in-Err.why c.loop-i.invariant.1 c.in-Err.ensures.less

pub loop-i-preserved : goal.loop-i-preserved
loop-i-preserved g c =
    let s = c.in_default.ensures.sweeps in (
      c.sweep_table.ensures.keeps,
      sweeps-then g.D.Shelf.told g.D.Shelf.faults g.W.Actor.between g.met.W.Actor.rows g.W.Actor.meanwhile (known (g.W.Actor.own c.args.actor.now) (g.W.Actor.house c.args.actor.now)) (known (g.W.Actor.own c.loop-i.actor) (g.W.Actor.house c.loop-i.actor)) (known (g.W.Actor.own c.sweep_table.new.actor) (g.W.Actor.house c.sweep_table.new.actor)) c.args.swept.now c.loop-i.swept c.sweep_table.new.swept c.loop-i.invariant.1 s,
      tables-last (trail_in (g.W.Actor.house c.loop-i.actor)) (trail_in (g.W.Actor.house c.sweep_table.new.actor))
          (moves-front g.D.Shelf.told g.D.Shelf.faults g.W.Actor.between g.met.W.Actor.rows g.W.Actor.meanwhile (known (g.W.Actor.own c.loop-i.actor) (g.W.Actor.house c.loop-i.actor)) (known (g.W.Actor.own c.sweep_table.new.actor) (g.W.Actor.house c.sweep_table.new.actor)) (moves-sweeps g.D.Shelf.told g.D.Shelf.faults g.W.Actor.between g.met.W.Actor.rows g.W.Actor.meanwhile (known (g.W.Actor.own c.loop-i.actor) (g.W.Actor.house c.loop-i.actor)) (known (g.W.Actor.own c.sweep_table.new.actor) (g.W.Actor.house c.sweep_table.new.actor)) c.loop-i.swept c.sweep_table.new.swept s)) c.args.live.now c.loop-i.invariant.2,
    )

pub returns-clause-sweeps : goal.returns-clause-sweeps
returns-clause-sweeps g c = c.loop-i.invariant.1
