use Rattle.hv_actor.specs.Acting.{known}
use Rattle.hv_actor.specs.Acting.{among, numbers_from}
use Rattle.hv_job_acts.specs.hv_acts.specs.Told.{trail_in}
use Rattle.hv_job_acts.specs.hv_acts.specs.Going.{IsOpenHouse}
use Rattle.hv_clean.specs.Passing.{ForgetTables}
use Rattle.hv_clean.specs.Removing.{AreLost}
use Rattle.hv_clean.proofs.forgetting.forget_each.Given as goal

abbrev pub invariant-loop-i : goal.invariant-loop-i
invariant-loop-i g l =
    g.W.Actor.keeps l.actor
    × IsOpenHouse (g.W.Actor.house l.actor)
    × AreLost (trail_in (g.W.Actor.house l.actor)) l.ids
    × ForgetTables (among g.D.Shelf.told g.D.Shelf.faults g.W.Actor.between g.W.Actor.meanwhile)
    (known (g.W.Actor.own l.fn.actor) (g.W.Actor.house l.fn.actor)) (known (g.W.Actor.own l.actor) (g.W.Actor.house l.actor))
    (numbers_from 1 l.i) l.ids l.fn.swept l.swept
