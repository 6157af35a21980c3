use Rattle.hv_actor.specs.Acting.{known}
use Rattle.hv_steps.specs.Seeing.{SeesUpTo, infos_then, AreFound}
use Rattle.std.proofs.Common.{◌≡◌, take}
use Rattle.hv_table_reader.specs.hv_acts.specs.Told.{trail_in}
use Rattle.hv_steps.proofs.seeing.find_all.Given as goal

abbrev pub invariant-loop-i : goal.invariant-loop-i
invariant-loop-i g l =
    g.W.Actor.keeps l.actor
    × SeesUpTo g.D.Shelf.faults g.W.Actor.between l.fn.way.txn.0
    (known (g.W.Actor.own l.fn.actor) (g.W.Actor.house l.fn.actor)) (known (g.W.Actor.own l.actor) (g.W.Actor.house l.actor))
    ((l.infos.items ≡ infos_then (g.W.Actor.house l.fn.actor) l.fn.way.place (take l.i l.names.items))
    × AreFound (trail_in (g.W.Actor.house l.actor)) l.fn.way.txn l.fn.way.place l.infos.items)
