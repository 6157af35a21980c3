use Rattle.std.proofs.Common.{◌≤◌, take}
use Rattle.hv_actor.specs.Acting.{among, known}
use Rattle.hv_compact.specs.Initiating.{AsksSome}
use Rattle.hv_compact.proofs.initiating.ask_each.Given as goal

abbrev pub invariant-loop-part : goal.invariant-loop-part
invariant-loop-part g l =
    g.W.Actor.keeps l.actor
    × AsksSome (among g.D.Shelf.told g.D.Shelf.faults g.W.Actor.between g.W.Actor.meanwhile)
    (known (g.W.Actor.own l.fn.actor) (g.W.Actor.house l.fn.actor)) (known (g.W.Actor.own l.actor) (g.W.Actor.house l.actor))
    (take l.part-index l.parts) l.count
    × (l.count ≤ l.part-index)
