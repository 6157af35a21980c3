use Rattle.hv_actor.specs.Acting.{known}
use Rattle.std.proofs.Common.{sym, ◌∙◌}
use Rattle.hv_job_acts.specs.hv_acts.specs.Told.{trail_in}
use Rattle.hv_clean.specs.Passing.{ids_of}
use Rattle.hv_clean.proofs.Moved.{moves-sweeps, moves-front}
use Rattle.hv_clean.proofs.Lasts.{all-lost}
use Rattle.hv_clean.proofs.Forgets.{no-table, no-ids, table-ok}
use Rattle.hv_clean.proofs.Came.{table-up, table-stop}
use Rattle.hv_clean.proofs.forgetting.forget_table.Goals as goal

pub returns-then-not-is_any_of-clause-forgets : goal.returns-then-not-is_any_of-clause-forgets
returns-then-not-is_any_of-clause-forgets g c =
    no-table g.D.Shelf.told g.D.Shelf.faults g.W.Actor.between g.met.W.Actor.rows g.W.Actor.meanwhile (known (g.W.Actor.own c.args.actor.now) (g.W.Actor.house c.args.actor.now)) (ids_of c.args.table c.args.ids.now) c.args.swept.now c.requires.running
    (no-ids c.args.table c.args.ids.now (sym c.is_any_of.ensures ∙ c.if-not-is_any_of.true))

pub forget_found-requires : goal.forget_found-requires
forget_found-requires g c =
    let s = c.in-Ok.ensures.sweeps in
    record {
      keeps = c.list.ensures.keeps;
      running = s.running;
      lost = all-lost (trail_in (g.W.Actor.house c.args.actor.now)) (trail_in (g.W.Actor.house c.list.new.actor))
          (moves-front g.D.Shelf.told g.D.Shelf.faults g.W.Actor.between g.met.W.Actor.rows g.W.Actor.meanwhile (known (g.W.Actor.own c.args.actor.now) (g.W.Actor.house c.args.actor.now)) (known (g.W.Actor.own c.list.new.actor) (g.W.Actor.house c.list.new.actor)) (moves-sweeps g.D.Shelf.told g.D.Shelf.faults g.W.Actor.between g.met.W.Actor.rows g.W.Actor.meanwhile (known (g.W.Actor.own c.args.actor.now) (g.W.Actor.house c.args.actor.now)) (known (g.W.Actor.own c.list.new.actor) (g.W.Actor.house c.list.new.actor)) c.args.swept.now c.list.new.swept s)) c.args.ids.now c.requires.lost;
    }

pub returns-in-Ok-clause-forgets : goal.returns-in-Ok-clause-forgets
returns-in-Ok-clause-forgets g c =
    table-ok g.D.Shelf.told g.D.Shelf.faults g.W.Actor.between g.met.W.Actor.rows g.W.Actor.meanwhile (known (g.W.Actor.own c.args.actor.now) (g.W.Actor.house c.args.actor.now)) (known (g.W.Actor.own c.list.new.actor) (g.W.Actor.house c.list.new.actor)) (known (g.W.Actor.own c.forget_found.new.actor) (g.W.Actor.house c.forget_found.new.actor)) (ids_of c.args.table c.args.ids.now) c.in-Ok.found
    c.args.swept.now c.list.new.swept c.forget_found.new.swept c.forget_found.result c.in-Ok.ensures.sweeps c.in-Ok.ensures.listed
    c.forget_found.ensures.forgets

pub returns-in-Ok-clause-less : goal.returns-in-Ok-clause-less
returns-in-Ok-clause-less g c =
    table-up g.D.Shelf.told g.D.Shelf.faults g.W.Actor.between g.met.W.Actor.rows g.W.Actor.meanwhile (known (g.W.Actor.own c.args.actor.now) (g.W.Actor.house c.args.actor.now)) (known (g.W.Actor.own c.list.new.actor) (g.W.Actor.house c.list.new.actor)) (known (g.W.Actor.own c.forget_found.new.actor) (g.W.Actor.house c.forget_found.new.actor)) (ids_of c.args.table c.args.ids.now) c.args.swept.now c.list.new.swept c.forget_found.result c.in-Ok.ensures.sweeps c.forget_found.ensures.less

pub returns-in-Err-clause-less : goal.returns-in-Err-clause-less
returns-in-Err-clause-less g c =
    table-stop g.D.Shelf.told g.D.Shelf.faults g.W.Actor.between g.met.W.Actor.rows g.W.Actor.meanwhile (known (g.W.Actor.own c.args.actor.now) (g.W.Actor.house c.args.actor.now)) (known (g.W.Actor.own c.list.new.actor) (g.W.Actor.house c.list.new.actor)) (ids_of c.args.table c.args.ids.now) c.args.swept.now c.in-Err.why
    c.requires.running c.in-Err.ensures.less
