use Rattle.std.proofs.Common.{take}
use Rattle.hv_actor.specs.Acting.{known}
use Rattle.hv_table_reader.specs.hv_acts.specs.hv_telling.specs.Telling.{IsToldHouse}
use Rattle.hv_steps.specs.Wanting.{needs_in}
use Rattle.hv_steps.specs.Seeing.{tables_then, AreRead, SeesUpTo}
use Rattle.hv_steps.proofs.seeing.read_all.Given as goal

abbrev pub invariant-loop-i : goal.invariant-loop-i
invariant-loop-i g l =
    g.W.Actor.keeps l.actor
    × SeesUpTo g.D.Shelf.faults g.W.Actor.between l.fn.way.txn.0
    (known (g.W.Actor.own l.fn.actor) (g.W.Actor.house l.fn.actor)) (known (g.W.Actor.own l.actor) (g.W.Actor.house l.actor))
    (AreRead (IsToldHouse g.D.Shelf.told (g.W.Actor.house l.fn.actor).house) (tables_then (g.W.Actor.house l.fn.actor) l.fn.way.place) (needs_in l.studied)
    (take l.i l.studied.infos.items) l.rows.items)
