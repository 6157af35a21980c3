use Rattle.std.proofs.Common.{take}
use Rattle.hv_actor.specs.Acting.{known}
use Rattle.hv_steps.specs.Preparing.{ArePutUpTo}
use Rattle.hv_steps.proofs.FileActs.{PutsUpTo}
use Rattle.hv_steps.proofs.putting.put_each.Given as goal

abbrev pub invariant-loop-file : goal.invariant-loop-file
invariant-loop-file g l =
    g.W.Actor.keeps l.actor
    × PutsUpTo g.D.Shelf.faults g.W.Actor.between l.txn.0
    (known (g.W.Actor.own l.fn.actor) (g.W.Actor.house l.fn.actor)) (known (g.W.Actor.own l.actor) (g.W.Actor.house l.actor))
    (ArePutUpTo l.table.0 l.write.0 (take l.file-index l.files) l.places.items)
