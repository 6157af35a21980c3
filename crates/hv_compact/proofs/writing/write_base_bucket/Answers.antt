use Rattle.std.proofs.Common.{Ok, ◌∙◌}
use Rattle.hv_actor.specs.Acting.{known}
use Rattle.hv_job_acts.specs.hv_acts.specs.Told.{trail_in}
use Rattle.hv_compact.proofs.Gets.{works-up, works-then, works-front, works-untold}
use Rattle.hv_compact.proofs.Lists.{lists-later, major-due, major-so}
use Rattle.hv_compact.proofs.writing.write_base_bucket.Goals as goal

pub stage_left-requires-clause-truly : goal.stage_left-requires-clause-truly
stage_left-requires-clause-truly g c = λ is.
    let a = (known (g.W.Actor.own c.args.actor.now) (g.W.Actor.house c.args.actor.now)) in
    let b = known (g.W.Actor.own c.merge_bucket.new.actor) (g.W.Actor.house c.merge_bucket.new.actor) in
    let was = works-untold g.D.Shelf.told g.D.Shelf.faults g.W.Actor.between g.W.Actor.meanwhile c.args.task.job a b (Ok c.in-Ok.recs) c.in-Ok.ensures.works is in
    let lists = c.requires.listed was in
    major-due (trail_in b.house) c.args.task c.args.listing.now
    (lists-later (trail_in a.house) (trail_in b.house) c.args.task c.args.listing.now
    (works-front g.D.Shelf.told g.D.Shelf.faults g.W.Actor.between g.W.Actor.meanwhile c.args.task.job a b (Ok c.in-Ok.recs) c.in-Ok.ensures.works) lists) c.requires.major c.args.bucket c.deref.result.now
    (c.deref.ensures.value ∙ c.in-Ok.ensures.left was lists)

pub returns-in-Ok-clause-works : goal.returns-in-Ok-clause-works
returns-in-Ok-clause-works g c =
    works-then g.D.Shelf.told g.D.Shelf.faults g.W.Actor.between g.W.Actor.meanwhile c.args.task.job g.met.W.Actor.rows (known (g.W.Actor.own c.args.actor.now) (g.W.Actor.house c.args.actor.now))
    (known (g.W.Actor.own c.merge_bucket.new.actor) (g.W.Actor.house c.merge_bucket.new.actor))
    (known (g.W.Actor.own c.stage_left.new.actor) (g.W.Actor.house c.stage_left.new.actor)) c.in-Ok.recs c.stage_left.result c.in-Ok.ensures.works
    c.stage_left.ensures.works

pub returns-in-Ok-clause-staged : goal.returns-in-Ok-clause-staged
returns-in-Ok-clause-staged g c = λ is lists.
    major-so (trail_in (g.W.Actor.house c.stage_left.new.actor)) c.args.task lists.recs_of c.args.bucket c.args.listing.now c.deref.result.now
    c.stage_left.result (c.deref.ensures.value ∙ c.in-Ok.ensures.left is lists) c.stage_left.ensures.staged c.stage_left.ensures.none c.stage_left.ensures.rows

pub returns-in-Err-clause-works : goal.returns-in-Err-clause-works
returns-in-Err-clause-works g c =
    works-up g.D.Shelf.told g.D.Shelf.faults g.W.Actor.between g.W.Actor.meanwhile c.args.task.job (known (g.W.Actor.own c.args.actor.now) (g.W.Actor.house c.args.actor.now))
    (known (g.W.Actor.own c.merge_bucket.new.actor) (g.W.Actor.house c.merge_bucket.new.actor)) c.in-Err.why c.in-Err.ensures.works
