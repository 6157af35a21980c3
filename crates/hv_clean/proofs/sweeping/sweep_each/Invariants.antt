use Rattle.hv_actor.specs.Acting.{known}
use Rattle.hv_actor.specs.Acting.{among}
use Rattle.hv_job_acts.specs.hv_acts.specs.Told.{trail_in}
use Rattle.hv_clean.specs.Passing.{Sweeps}
use Rattle.hv_clean.specs.Removing.{AreSweepable}
use Rattle.hv_clean.proofs.sweeping.sweep_each.Given as goal

abbrev pub invariant-loop-dir : goal.invariant-loop-dir
invariant-loop-dir g l =
    g.W.Actor.keeps l.actor
    × Sweeps (among g.D.Shelf.told g.D.Shelf.faults g.W.Actor.between g.W.Actor.meanwhile)
    (known (g.W.Actor.own l.fn.actor) (g.W.Actor.house l.fn.actor)) (known (g.W.Actor.own l.actor) (g.W.Actor.house l.actor)) l.fn.swept l.swept
    × AreSweepable (trail_in (g.W.Actor.house l.actor)) l.dir-iterator.rest.items
