use Rattle.std.proofs.Common.{Ok, sym, subst}
use Rattle.std.specs.List.{AllByRecursion}
use Rattle.hv_actor.specs.Acting.{among, known}
use Rattle.hv_job_acts.specs.hv_acts.specs.Told.{trail_in}
use Rattle.hv_compact.specs.declared.task.Task.{Task}
use Rattle.hv_compact.specs.Stopping.{StopsSo}
use Rattle.hv_compact.specs.Compacting.{IsMarkOf, IsWroteOf, HasStaged}
use Rattle.hv_compact.specs.Ending.{IsPicked, IsThere}
use Rattle.hv_compact.proofs.Gets.{works-front}
use Rattle.hv_compact.proofs.Ends.{given-ends, staged-ends, less-behind}
use Rattle.hv_compact.proofs.Endings.{picked-there}
use Rattle.hv_compact.proofs.compacting.compact_picked.Goals as goal

pub write_listed-requires-clause-picked : goal.write_listed-requires-clause-picked
write_listed-requires-clause-picked g c =
    subst (IsPicked (trail_in (g.W.Actor.house c.args.actor.now))) (sym c.task_of.ensures) c.requires.picked

pub publish-requires-clause-running : goal.publish-requires-clause-running
publish-requires-clause-running g c = c.in-Ok.ensures.works.running

pub publish-requires-clause-there : goal.publish-requires-clause-there
publish-requires-clause-there g c =
    let a = (known (g.W.Actor.own c.args.actor.now) (g.W.Actor.house c.args.actor.now)) in
    let b = known (g.W.Actor.own c.write_listed.new.actor) (g.W.Actor.house c.write_listed.new.actor) in
    subst (λ (t : Task). IsThere (trail_in b.house) t.job) c.task_of.ensures
    (picked-there (trail_in a.house) (trail_in b.house) c.task_of.result
    (works-front g.D.Shelf.told g.D.Shelf.faults g.W.Actor.between g.W.Actor.meanwhile c.task_of.result.job a b (Ok tt) c.in-Ok.ensures.works)
    (subst (IsPicked (trail_in a.house)) (sym c.task_of.ensures) c.requires.picked))

pub publish-requires-clause-staged : goal.publish-requires-clause-staged
publish-requires-clause-staged g c =
    subst (λ (t : Task). HasStaged g.D.Shelf.told t.job (g.W.Actor.house c.write_listed.new.actor)) c.task_of.ensures c.in-Ok.ensures.staged

pub returns-in-Ok-clause-ends : goal.returns-in-Ok-clause-ends
returns-in-Ok-clause-ends g c =
    staged-ends g.D.Shelf.told g.D.Shelf.faults g.W.Actor.between g.W.Actor.meanwhile g.met.W.Actor.rows c.args.picked.job (known (g.W.Actor.own c.args.actor.now) (g.W.Actor.house c.args.actor.now)) (known (g.W.Actor.own c.write_listed.new.actor) (g.W.Actor.house c.write_listed.new.actor))
    (known (g.W.Actor.own c.publish.new.actor) (g.W.Actor.house c.publish.new.actor)) c.in-Ok.ensures.works.items c.publish.result c.in-Ok.ensures.works.adds
    (subst (λ (t : Task). AllByRecursion (IsWroteOf t.job) c.in-Ok.ensures.works.items) c.task_of.ensures c.in-Ok.ensures.works.wrote) c.publish.ensures.ends

pub returns-in-Ok-clause-less : goal.returns-in-Ok-clause-less
returns-in-Ok-clause-less g c =
    less-behind g.D.Shelf.told g.D.Shelf.faults g.W.Actor.between g.W.Actor.meanwhile g.met.W.Actor.rows c.args.picked.job (known (g.W.Actor.own c.args.actor.now) (g.W.Actor.house c.args.actor.now)) (known (g.W.Actor.own c.write_listed.new.actor) (g.W.Actor.house c.write_listed.new.actor))
    (known (g.W.Actor.own c.publish.new.actor) (g.W.Actor.house c.publish.new.actor)) c.in-Ok.ensures.works.items c.publish.result c.in-Ok.ensures.works.adds
    (subst (λ (t : Task). AllByRecursion (IsMarkOf t.job) c.in-Ok.ensures.works.items) c.task_of.ensures c.in-Ok.ensures.works.marks) c.publish.ensures.less

pub end_by-requires-clause-stops : goal.end_by-requires-clause-stops
end_by-requires-clause-stops g c =
    subst
    (λ (t : Task). StopsSo (among g.D.Shelf.told g.D.Shelf.faults g.W.Actor.between g.W.Actor.meanwhile) t.job
    (g.W.Actor.house c.write_listed.new.actor) c.in-Err.why) c.task_of.ensures c.in-Err.ensures.works.stops

pub returns-in-Err-clause-ends : goal.returns-in-Err-clause-ends
returns-in-Err-clause-ends g c =
    given-ends g.D.Shelf.told g.D.Shelf.faults g.W.Actor.between g.W.Actor.meanwhile g.met.W.Actor.rows c.args.picked.job (known (g.W.Actor.own c.args.actor.now) (g.W.Actor.house c.args.actor.now)) (known (g.W.Actor.own c.write_listed.new.actor) (g.W.Actor.house c.write_listed.new.actor))
    (known (g.W.Actor.own c.end_by.new.actor) (g.W.Actor.house c.end_by.new.actor)) c.in-Err.ensures.works.items c.end_by.result c.in-Err.ensures.works.adds
    (subst (λ (t : Task). AllByRecursion (IsMarkOf t.job) c.in-Err.ensures.works.items) c.task_of.ensures c.in-Err.ensures.works.marks) c.end_by.ensures.ends

pub returns-in-Err-clause-less : goal.returns-in-Err-clause-less
returns-in-Err-clause-less g c =
    less-behind g.D.Shelf.told g.D.Shelf.faults g.W.Actor.between g.W.Actor.meanwhile g.met.W.Actor.rows c.args.picked.job (known (g.W.Actor.own c.args.actor.now) (g.W.Actor.house c.args.actor.now)) (known (g.W.Actor.own c.write_listed.new.actor) (g.W.Actor.house c.write_listed.new.actor))
    (known (g.W.Actor.own c.end_by.new.actor) (g.W.Actor.house c.end_by.new.actor)) c.in-Err.ensures.works.items c.end_by.result c.in-Err.ensures.works.adds
    (subst (λ (t : Task). AllByRecursion (IsMarkOf t.job) c.in-Err.ensures.works.items) c.task_of.ensures c.in-Err.ensures.works.marks) c.end_by.ensures.less
