use Rattle.hv_actor.specs.Acting.{among, known}
use Rattle.hv_clean.specs.hv_job_acts.specs.hv_acts.specs.Going.{IsOpenHouse}
use Rattle.hv_background.specs.Rounds.{is_compactors, AddsTested}
use Rattle.hv_background.proofs.compactor.compact_until.Given as goal

-- the rounds so far added items of this kind alone
abbrev pub invariant-loop : goal.invariant-loop
invariant-loop g l =
    g.W.Actor.keeps l.actor
    × IsOpenHouse (g.W.Actor.house l.actor)
    × AddsTested (among g.D.Shelf.told g.D.Shelf.faults g.W.Actor.between g.W.Actor.meanwhile) is_compactors
    (known (g.W.Actor.own l.fn.actor) (g.W.Actor.house l.fn.actor)) (known (g.W.Actor.own l.actor) (g.W.Actor.house l.actor))
