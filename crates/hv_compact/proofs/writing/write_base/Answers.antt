use Rattle.std.proofs.Common.{Ok}
use Rattle.hv_actor.specs.Acting.{known}
use Rattle.hv_job_acts.specs.hv_acts.specs.Told.{trail_in}
use Rattle.hv_compact.proofs.Gets.{works-up, works-then, works-front, works-told, works-untold}
use Rattle.hv_compact.proofs.Lists.{written-base}
use Rattle.hv_compact.proofs.writing.write_base.Goals as goal

pub write_bare-requires-clause-listed : goal.write_bare-requires-clause-listed
write_bare-requires-clause-listed g c = λ is.
    let a = (known (g.W.Actor.own c.args.actor.now) (g.W.Actor.house c.args.actor.now)) in
    let b = known (g.W.Actor.own c.write_buckets.new.actor) (g.W.Actor.house c.write_buckets.new.actor) in
    let was = works-untold g.D.Shelf.told g.D.Shelf.faults g.W.Actor.between g.W.Actor.meanwhile c.args.task.job a b (Ok c.in-Ok.some) c.in-Ok.ensures.works is in
    let lists = c.requires.listed was in
    written-base (trail_in a.house) (trail_in b.house) c.args.task c.args.listing.now c.in-Ok.some c.deref.result.now c.buckets_of.result
    (works-front g.D.Shelf.told g.D.Shelf.faults g.W.Actor.between g.W.Actor.meanwhile c.args.task.job a b (Ok c.in-Ok.some) c.in-Ok.ensures.works) c.deref.ensures.value c.buckets_of.ensures.count lists
    (c.in-Ok.ensures.staged was lists)

pub returns-in-Ok-clause-works : goal.returns-in-Ok-clause-works
returns-in-Ok-clause-works g c =
    works-then g.D.Shelf.told g.D.Shelf.faults g.W.Actor.between g.W.Actor.meanwhile c.args.task.job g.met.W.Actor.rows (known (g.W.Actor.own c.args.actor.now) (g.W.Actor.house c.args.actor.now))
    (known (g.W.Actor.own c.write_buckets.new.actor) (g.W.Actor.house c.write_buckets.new.actor))
    (known (g.W.Actor.own c.write_bare.new.actor) (g.W.Actor.house c.write_bare.new.actor)) c.in-Ok.some c.write_bare.result c.in-Ok.ensures.works
    c.write_bare.ensures.works

pub returns-in-Ok-clause-staged : goal.returns-in-Ok-clause-staged
returns-in-Ok-clause-staged g c = λ is.
    c.write_bare.ensures.staged
    (works-told g.D.Shelf.told g.D.Shelf.faults g.W.Actor.between g.W.Actor.meanwhile c.args.task.job (known (g.W.Actor.own c.args.actor.now) (g.W.Actor.house c.args.actor.now)) (known (g.W.Actor.own c.write_buckets.new.actor) (g.W.Actor.house c.write_buckets.new.actor)) (Ok c.in-Ok.some)
    c.in-Ok.ensures.works is)

pub returns-in-Err-clause-works : goal.returns-in-Err-clause-works
returns-in-Err-clause-works g c =
    works-up g.D.Shelf.told g.D.Shelf.faults g.W.Actor.between g.W.Actor.meanwhile c.args.task.job (known (g.W.Actor.own c.args.actor.now) (g.W.Actor.house c.args.actor.now))
    (known (g.W.Actor.own c.write_buckets.new.actor) (g.W.Actor.house c.write_buckets.new.actor)) c.in-Err.why c.in-Err.ensures.works
