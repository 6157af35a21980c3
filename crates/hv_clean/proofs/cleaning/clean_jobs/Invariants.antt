use Rattle.hv_actor.specs.Acting.{known}
use Rattle.std.proofs.Common.{take}
use Rattle.hv_actor.specs.Acting.{among}
use Rattle.hv_job_acts.specs.hv_acts.specs.Told.{trail_in}
use Rattle.hv_job_acts.specs.hv_acts.specs.Going.{IsOpenHouse}
use Rattle.hv_clean.specs.Passing.{CleanEach}
use Rattle.hv_clean.specs.Removing.{AreKnown}
use Rattle.hv_clean.proofs.cleaning.clean_jobs.Given as goal

abbrev pub invariant-loop-job : goal.invariant-loop-job
invariant-loop-job g l =
    g.W.Actor.keeps l.actor
    × IsOpenHouse (g.W.Actor.house l.actor)
    × AreKnown (trail_in (g.W.Actor.house l.actor)) l.jobs
    × CleanEach (among g.D.Shelf.told g.D.Shelf.faults g.W.Actor.between g.W.Actor.meanwhile)
    (known (g.W.Actor.own l.fn.actor) (g.W.Actor.house l.fn.actor)) (known (g.W.Actor.own l.actor) (g.W.Actor.house l.actor))
    (take l.job-index l.jobs) l.fn.swept l.swept
