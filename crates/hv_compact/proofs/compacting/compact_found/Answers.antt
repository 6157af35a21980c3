use Rattle.std.proofs.Common.{Option, sym, subst}
use Rattle.std.specs.Prelude.{IfOk, IfErr}
use Rattle.hv_actor.specs.Acting.{among, known}
use Rattle.hv_job_acts.specs.declared.noting.PickedJob.{PickedJob}
use Rattle.hv_compact.specs.Ending.{EndsIn, EndsFound, LessFound}
use Rattle.hv_compact.proofs.AtWork.{work-ok, work-less}
use Rattle.hv_compact.proofs.compacting.compact_found.Goals as goal

pub returns-in-Some-clause-ends : goal.returns-in-Some-clause-ends
returns-in-Some-clause-ends g c =
    subst (λ (found : Option PickedJob). IfOk c.at_work.result (EndsFound (among g.D.Shelf.told g.D.Shelf.faults g.W.Actor.between g.W.Actor.meanwhile) found
    (known (g.W.Actor.own c.args.actor.now) (g.W.Actor.house c.args.actor.now))
    (known (g.W.Actor.own c.compact_picked.new.actor) (g.W.Actor.house c.compact_picked.new.actor)))) (sym c.in-Some.is)
    (work-ok c.compact_picked.result c.at_work.result (EndsIn (among g.D.Shelf.told g.D.Shelf.faults g.W.Actor.between g.W.Actor.meanwhile) c.in-Some.picked.job
    (known (g.W.Actor.own c.args.actor.now) (g.W.Actor.house c.args.actor.now))
    (known (g.W.Actor.own c.compact_picked.new.actor) (g.W.Actor.house c.compact_picked.new.actor))) c.at_work.ensures c.compact_picked.ensures.ends)

pub returns-in-Some-clause-less : goal.returns-in-Some-clause-less
returns-in-Some-clause-less g c =
    subst (λ (found : Option PickedJob). IfErr c.at_work.result (LessFound (among g.D.Shelf.told g.D.Shelf.faults g.W.Actor.between g.W.Actor.meanwhile) found
    (known (g.W.Actor.own c.args.actor.now) (g.W.Actor.house c.args.actor.now))
    (known (g.W.Actor.own c.compact_picked.new.actor) (g.W.Actor.house c.compact_picked.new.actor)))) (sym c.in-Some.is)
    (work-less (among g.D.Shelf.told g.D.Shelf.faults g.W.Actor.between g.W.Actor.meanwhile) c.in-Some.picked.job
    (known (g.W.Actor.own c.args.actor.now) (g.W.Actor.house c.args.actor.now))
    (known (g.W.Actor.own c.compact_picked.new.actor) (g.W.Actor.house c.compact_picked.new.actor)) c.compact_picked.result c.at_work.result c.at_work.ensures
    c.compact_picked.ensures.less)
