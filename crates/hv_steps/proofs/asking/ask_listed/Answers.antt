use Rattle.hv_table_reader.specs.hv_acts.specs.Told.{trail_in}
use Rattle.hv_steps.specs.Going.{faults_in}
use Rattle.hv_steps.proofs.Joining.{adds-front, opened-lasts}
use Rattle.hv_steps.proofs.AsksMade.{all-asked, stopped-asking, stopped-asked}
use Rattle.hv_steps.proofs.asking.ask_listed.Goals as goal

pub returns-in-Ok-clause-goes : goal.returns-in-Ok-clause-goes
returns-in-Ok-clause-goes g c =
    all-asked g.D.Shelf.told g.D.Shelf.faults g.W.Actor.between g.W.Actor.meanwhile (faults_in g.D.Shelf.faults (g.W.Actor.house c.args.actor.now))
    (g.W.Actor.own c.args.actor.now) (g.W.Actor.own c.ask_each.new.actor) (g.W.Actor.house c.args.actor.now) (g.W.Actor.house c.ask_each.new.actor) c.args.way c.args.numbers.now
    c.ask_each.ensures.asks c.in-Ok.ensures.left

pub end_without-requires-clause-was : goal.end_without-requires-clause-was
end_without-requires-clause-was g c =
    let a = g.W.Actor.house c.args.actor.now in
    let b = g.W.Actor.house c.ask_each.new.actor in
    opened-lasts c.args.way.txn.0 (trail_in a) (trail_in b)
    (adds-front g.D.Shelf.faults g.W.Actor.between g.met.W.Actor.rows (g.W.Actor.own c.args.actor.now) (g.W.Actor.own c.ask_each.new.actor) a b _ c.ask_each.ensures.asks.adds)
    c.requires.was

pub returns-in-Err-clause-goes : goal.returns-in-Err-clause-goes
returns-in-Err-clause-goes g c =
    let a = g.W.Actor.house c.args.actor.now in
    let b = g.W.Actor.house c.ask_each.new.actor in
    let e = g.W.Actor.house c.end_without.new.actor in
    stopped-asking g.D.Shelf.told g.D.Shelf.faults g.W.Actor.between g.met.W.Actor.rows g.W.Actor.meanwhile (faults_in g.D.Shelf.faults a)
    (g.W.Actor.own c.args.actor.now) (g.W.Actor.own c.ask_each.new.actor) (g.W.Actor.own c.end_without.new.actor) a b e c.args.way c.args.numbers.now
    c.end_without.result c.stopped.result c.stopped.ensures c.ask_each.ensures.asks (c.end_without.ensures.goes (faults_in g.D.Shelf.faults a))

pub returns-in-Err-clause-asked : goal.returns-in-Err-clause-asked
returns-in-Err-clause-asked g c =
    stopped-asked (g.W.Actor.house c.end_without.new.actor) c.args.way c.args.numbers.now c.end_without.result c.stopped.result c.stopped.ensures
