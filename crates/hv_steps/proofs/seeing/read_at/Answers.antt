use Rattle.hv_table_reader.specs.hv_acts.specs.hv_telling.specs.Telling.{IsToldHouse}
use Rattle.hv_steps.specs.Wanting.{picked, needs_in}
use Rattle.hv_steps.specs.Seeing.{tables_then}
use Rattle.hv_steps.proofs.Joining.{adds-none}
use Rattle.hv_steps.proofs.Looks.{looks-lack}
use Rattle.hv_steps.proofs.SeenRows.{needed-as}
use Rattle.hv_steps.proofs.seeing.read_at.Goals as goal

pub returns-clause-rows : goal.returns-clause-rows
returns-clause-rows g c =
    needed-as (IsToldHouse g.D.Shelf.told (g.W.Actor.house c.args.actor.now).house) (tables_then (g.W.Actor.house c.args.actor.now) c.args.way.place)
    (picked c.in_ok-wanting.wanting) (needs_in c.args.studied.now c.args.place) c.args.info.now c.in_ok-wanting.ensures c.read_wanted.result c.read_wanted.ensures.rows

pub returns-in_err-wanting-clause-looks : goal.returns-in_err-wanting-clause-looks
returns-in_err-wanting-clause-looks g c =
    let own = g.W.Actor.own c.args.actor.now in
    let house = g.W.Actor.house c.args.actor.now in
    looks-lack g.D.Shelf.told g.D.Shelf.faults g.W.Actor.between g.met.W.Actor.rows g.W.Actor.meanwhile c.args.way.txn own own house house
    c.from_residual.result c.from_residual.ensures.1 (adds-none g.D.Shelf.faults g.W.Actor.between g.met.W.Actor.rows own house) c.requires.running
