use Rattle.hv_steps.proofs.Joining.{adds-front, opened-lasts, on-way-opened}
use Rattle.hv_steps.proofs.Unseen.{goes-meaning, goes-ended}
use Rattle.hv_steps.proofs.seeing.see.Goals as goal
use Rattle.hv_table_reader.specs.hv_acts.specs.Told.{trail_in}
use Rattle.std.proofs.Common.{[]}

pub see_meaning-requires-clause-built : goal.see_meaning-requires-clause-built
see_meaning-requires-clause-built g c = c.requires.was.1.was.runs.built

pub end_unseen-requires-clause-unseen : goal.end_unseen-requires-clause-unseen
end_unseen-requires-clause-unseen g c = c.in-Err.ensures.looks.unseen

pub end_unseen-requires-clause-was : goal.end_unseen-requires-clause-was
end_unseen-requires-clause-was g c =
    let before = g.W.Actor.house c.args.actor.now in
    let now = g.W.Actor.house c.see_meaning.new.actor in
    opened-lasts c.args.way.txn.0 (trail_in before) (trail_in now)
    (adds-front g.D.Shelf.faults g.W.Actor.between g.met.W.Actor.rows (g.W.Actor.own c.args.actor.now) (g.W.Actor.own c.see_meaning.new.actor) before now [] c.in-Err.ensures.looks.adds)
    (on-way-opened (trail_in before) c.requires.was.0 c.args.way c.args.tree.now c.requires.was.1)

pub returns-in-Ok-clause-goes : goal.returns-in-Ok-clause-goes
returns-in-Ok-clause-goes g c =
    goes-meaning g.D.Shelf.told g.D.Shelf.faults g.W.Actor.between g.met.W.Actor.rows g.W.Actor.meanwhile c.args.way c.args.tree.now
    (g.W.Actor.own c.args.actor.now) (g.W.Actor.own c.see_meaning.new.actor) (g.W.Actor.house c.args.actor.now) (g.W.Actor.house c.see_meaning.new.actor)
    c.in-Ok.meaning c.in-Ok.ensures.looks c.in-Ok.ensures.comes

pub returns-in-Err-clause-goes : goal.returns-in-Err-clause-goes
returns-in-Err-clause-goes g c =
    goes-ended g.D.Shelf.told g.D.Shelf.faults g.W.Actor.between g.met.W.Actor.rows g.W.Actor.meanwhile c.args.way c.args.tree.now
    (g.W.Actor.own c.args.actor.now) (g.W.Actor.own c.see_meaning.new.actor) (g.W.Actor.house c.args.actor.now) (g.W.Actor.house c.see_meaning.new.actor)
    (g.W.Actor.own c.end_unseen.new.actor) (g.W.Actor.house c.end_unseen.new.actor) c.end_unseen.result c.in-Err.fault c.in-Err.ensures.looks c.end_unseen.ensures.goes
