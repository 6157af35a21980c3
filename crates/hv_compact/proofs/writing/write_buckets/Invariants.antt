use Rattle.std.proofs.Common.{Ok}
use Rattle.hv_actor.specs.Acting.{among, known}
use Rattle.hv_job_acts.specs.hv_acts.specs.Told.{trail_in}
use Rattle.hv_job_acts.specs.hv_acts.specs.hv_telling.specs.Telling.{IsToldHouse}
use Rattle.hv_compact.specs.Compacting.{Works}
use Rattle.hv_compact.specs.Gathering.{ListsJob}
use Rattle.hv_compact.specs.Writing.{HasBaseStaged}
use Rattle.hv_compact.proofs.writing.write_buckets.Given as goal

abbrev pub invariant-loop-bucket : goal.invariant-loop-bucket
invariant-loop-bucket g l =
    g.W.Actor.keeps l.actor
    × Works {T = Unit {0}} (among g.D.Shelf.told g.D.Shelf.faults g.W.Actor.between g.W.Actor.meanwhile) l.task.job
    (known (g.W.Actor.own l.fn.actor) (g.W.Actor.house l.fn.actor)) (known (g.W.Actor.own l.actor) (g.W.Actor.house l.actor)) (Ok tt)
    × (IsToldHouse g.D.Shelf.told (g.W.Actor.house l.fn.actor).house
    → (lists : ListsJob (trail_in (g.W.Actor.house l.fn.actor)) l.task l.listing)
    → HasBaseStaged (trail_in (g.W.Actor.house l.actor)) l.task lists.recs_of l.bucket l.listing l.some)
