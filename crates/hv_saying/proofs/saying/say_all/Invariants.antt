use Rattle.std.proofs.Common.{◌≤◌, ◌+◌, length}
use Rattle.std.specs.Prelude.{vec_len, vec_capacity}
use Rattle.hv_actor.specs.Acting.{among, known}
use Rattle.hv_saying.proofs.Sayings.{SaysUpTo}
use Rattle.hv_saying.proofs.saying.say_all.Given as goal

-- what is done with the rest of the statements is done with all of them, and there is room for their replies
abbrev pub invariant-loop-asking : goal.invariant-loop-asking
invariant-loop-asking g l =
    g.W.Actor.keeps l.actor
    × SaysUpTo (among g.D.Shelf.told g.D.Shelf.faults g.W.Actor.between g.W.Actor.meanwhile)
    (known (g.W.Actor.own l.fn.actor) (g.W.Actor.house l.fn.actor)) (known (g.W.Actor.own l.actor) (g.W.Actor.house l.actor))
    l.fn.askings.items l.asking-iterator.rest.items l.replies.items
    × (length l.asking-iterator.rest.items + vec_len l.replies ≤ vec_capacity l.replies)
