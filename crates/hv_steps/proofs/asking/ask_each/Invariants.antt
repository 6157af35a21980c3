use Rattle.std.proofs.Common.{take}
use Rattle.hv_table_reader.specs.hv_acts.specs.Told.{trail_in}
use Rattle.hv_table_reader.specs.hv_acts.specs.Passing.{AllPassed}
use Rattle.hv_table_reader.specs.hv_acts.specs.Reading.{HasPlace}
use Rattle.hv_steps.specs.Going.{IsOpenHouse}
use Rattle.hv_steps.specs.Requests.{AsksSoFar}
use Rattle.hv_steps.proofs.asking.ask_each.Given as goal
use Rattle.hv_actor.specs.Acting.{known}

abbrev pub invariant-loop-number : goal.invariant-loop-number
invariant-loop-number g l =
    g.W.Actor.keeps l.actor
    × IsOpenHouse (g.W.Actor.house l.actor)
    × HasPlace (trail_in (g.W.Actor.house l.actor)) l.way.place
    × AsksSoFar g.D.Shelf.faults g.W.Actor.between (known (g.W.Actor.own l.fn.actor) (g.W.Actor.house l.fn.actor))
    (known (g.W.Actor.own l.actor) (g.W.Actor.house l.actor)) l.way l.numbers
    × AllPassed (trail_in (g.W.Actor.house l.actor)) l.way.txn l.way.place (take l.number-index l.numbers)
