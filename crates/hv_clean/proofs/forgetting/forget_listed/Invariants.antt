use Rattle.hv_actor.specs.Acting.{known}
use Rattle.std.proofs.Common.{take}
use Rattle.hv_actor.specs.Acting.{among}
use Rattle.hv_job_acts.specs.hv_acts.specs.Told.{trail_in}
use Rattle.hv_job_acts.specs.hv_acts.specs.Going.{IsOpenHouse}
use Rattle.hv_clean.specs.Passing.{ForgetEach, ids_of}
use Rattle.hv_clean.specs.Removing.{AreLost}
use Rattle.hv_clean.proofs.forgetting.forget_listed.Given as goal

abbrev pub invariant-loop-id : goal.invariant-loop-id
invariant-loop-id g l =
    g.W.Actor.keeps l.actor
    × IsOpenHouse (g.W.Actor.house l.actor)
    × AreLost (trail_in (g.W.Actor.house l.actor)) l.ids
    × ForgetEach (among g.D.Shelf.told g.D.Shelf.faults g.W.Actor.between g.W.Actor.meanwhile)
    (known (g.W.Actor.own l.fn.actor) (g.W.Actor.house l.fn.actor)) (known (g.W.Actor.own l.actor) (g.W.Actor.house l.actor))
    (ids_of l.table (take l.id-index l.ids)) l.fn.swept l.swept
