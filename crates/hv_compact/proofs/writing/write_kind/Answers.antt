use Rattle.std.proofs.Common.{Ok, refl}
use Rattle.hv_actor.specs.Acting.{known}
use Rattle.hv_job_acts.specs.hv_acts.specs.Told.{trail_in}
use Rattle.hv_compact.proofs.Gets.{works-none, works-then, works-up, works-front, works-told, works-untold}
use Rattle.hv_compact.proofs.Lists.{lists-later, kind-none, kind-more}
use Rattle.hv_compact.proofs.writing.write_kind.Goals as goal

pub loop-bucket-init : goal.loop-bucket-init
loop-bucket-init g c = (
  c.requires.keeps,
  works-none g.D.Shelf.told g.D.Shelf.faults g.W.Actor.between g.W.Actor.meanwhile c.args.task.job g.met.W.Actor.rows (known (g.W.Actor.own c.args.actor.now) (g.W.Actor.house c.args.actor.now)) c.requires.running,
  λ is lists. kind-none (trail_in (g.W.Actor.house c.args.actor.now)) c.args.task lists.recs_of c.args.deletes c.args.listing.now,
)

pub write_wide-requires-clause-running : goal.write_wide-requires-clause-running
write_wide-requires-clause-running g c = c.loop-bucket.invariant.1.running

pub write_wide-requires-clause-listed : goal.write_wide-requires-clause-listed
write_wide-requires-clause-listed g c = λ is.
    let a = (known (g.W.Actor.own c.args.actor.now) (g.W.Actor.house c.args.actor.now)) in
    let b = known (g.W.Actor.own c.loop-bucket.actor) (g.W.Actor.house c.loop-bucket.actor) in
    lists-later (trail_in a.house) (trail_in b.house) c.args.task c.args.listing.now
    (works-front g.D.Shelf.told g.D.Shelf.faults g.W.Actor.between g.W.Actor.meanwhile c.args.task.job a b (Ok tt) c.loop-bucket.invariant.1)
    (c.requires.listed (works-untold g.D.Shelf.told g.D.Shelf.faults g.W.Actor.between g.W.Actor.meanwhile c.args.task.job a b (Ok tt) c.loop-bucket.invariant.1 is))

pub loop-bucket-preserved : goal.loop-bucket-preserved
loop-bucket-preserved g c =
    let a = (known (g.W.Actor.own c.args.actor.now) (g.W.Actor.house c.args.actor.now)) in
    let b = known (g.W.Actor.own c.loop-bucket.actor) (g.W.Actor.house c.loop-bucket.actor) in
    let e = known (g.W.Actor.own c.write_wide.new.actor) (g.W.Actor.house c.write_wide.new.actor) in
    let works = c.loop-bucket.invariant.1 in (
      c.write_wide.ensures.keeps,
      works-then g.D.Shelf.told g.D.Shelf.faults g.W.Actor.between g.W.Actor.meanwhile c.args.task.job g.met.W.Actor.rows a b e tt (Ok tt) works c.in-Ok.ensures.works,
      λ is lists.
          kind-more (trail_in b.house) (trail_in e.house) c.args.task lists.recs_of c.args.deletes c.loop-bucket.bucket _ c.args.listing.now
          (works-front g.D.Shelf.told g.D.Shelf.faults g.W.Actor.between g.W.Actor.meanwhile c.args.task.job b e (Ok tt) c.in-Ok.ensures.works) refl (c.loop-bucket.invariant.2 is lists)
          (c.in-Ok.ensures.staged (works-told g.D.Shelf.told g.D.Shelf.faults g.W.Actor.between g.W.Actor.meanwhile c.args.task.job a b (Ok tt) works is)
          (lists-later (trail_in a.house) (trail_in b.house) c.args.task c.args.listing.now (works-front g.D.Shelf.told g.D.Shelf.faults g.W.Actor.between g.W.Actor.meanwhile c.args.task.job a b (Ok tt) works) lists)),
    )

pub returns-in-Err-clause-works : goal.returns-in-Err-clause-works
returns-in-Err-clause-works g c =
    let a = (known (g.W.Actor.own c.args.actor.now) (g.W.Actor.house c.args.actor.now)) in
    let b = known (g.W.Actor.own c.loop-bucket.actor) (g.W.Actor.house c.loop-bucket.actor) in
    let e = known (g.W.Actor.own c.write_wide.new.actor) (g.W.Actor.house c.write_wide.new.actor) in
    works-then g.D.Shelf.told g.D.Shelf.faults g.W.Actor.between g.W.Actor.meanwhile c.args.task.job g.met.W.Actor.rows a b e tt _ c.loop-bucket.invariant.1
    (works-up g.D.Shelf.told g.D.Shelf.faults g.W.Actor.between g.W.Actor.meanwhile c.args.task.job b e c.in-Err.why c.in-Err.ensures.works)
