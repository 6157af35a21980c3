use Rattle.hv_actor.specs.Acting.{known}
use Rattle.hv_clean.proofs.Turns.{RemovesUpTo}
use Rattle.hv_clean.proofs.cleaning.remove_each.Given as goal

abbrev pub invariant-loop-dir : goal.invariant-loop-dir
invariant-loop-dir g l =
    g.W.Actor.keeps l.actor
    × RemovesUpTo g.D.Shelf.told g.D.Shelf.faults g.W.Actor.between g.W.Actor.meanwhile l.job
    (known (g.W.Actor.own l.fn.actor) (g.W.Actor.house l.fn.actor)) (known (g.W.Actor.own l.actor) (g.W.Actor.house l.actor))
    l.fn.dirs.items l.dir-iterator.rest.items l.fn.swept l.swept l.removal
