use Rattle.std.proofs.Common.{[]}
use Rattle.hv_table_reader.specs.hv_acts.specs.Told.{trail_in}
use Rattle.hv_table_reader.specs.hv_acts.proofs.Readings.{reader-lasts}
use Rattle.hv_steps.proofs.Joining.{adds-front}
use Rattle.hv_steps.proofs.Looks.{looks-house}
use Rattle.hv_steps.proofs.SeenRows.{found-as}
use Rattle.hv_steps.proofs.seeing.look.Goals as goal

pub find_table-requires-clause-place : goal.find_table-requires-clause-place
find_table-requires-clause-place g c = c.requires.reader.has

pub returns-clause-looks : goal.returns-clause-looks
returns-clause-looks g c =
    looks-house g.D.Shelf.told g.D.Shelf.faults g.W.Actor.between g.met.W.Actor.rows g.W.Actor.meanwhile c.args.by
    (g.W.Actor.own c.args.actor.now) (g.W.Actor.own c.find_table.new.actor) (g.W.Actor.house c.args.actor.now) (g.W.Actor.house c.find_table.new.actor)
    c.find_table.result (c.find_table.ensures.looks c.args.by) c.find_table.ensures.house

pub returns-clause-found : goal.returns-clause-found
returns-clause-found g c =
    let before = trail_in (g.W.Actor.house c.args.actor.now) in
    let now = trail_in (g.W.Actor.house c.find_table.new.actor) in
    found-as now c.args.by c.args.place c.args.name.now c.find_table.result c.find_table.ensures.book c.find_table.ensures.found
    (reader-lasts before now
    (adds-front g.D.Shelf.faults g.W.Actor.between g.met.W.Actor.rows (g.W.Actor.own c.args.actor.now) (g.W.Actor.own c.find_table.new.actor)
    (g.W.Actor.house c.args.actor.now) (g.W.Actor.house c.find_table.new.actor) [] (c.find_table.ensures.looks c.args.by).adds)
    c.args.by c.args.place c.args.name.now c.requires.reader)
