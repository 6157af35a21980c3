use Rattle.std.proofs.Common.{◌≡◌, ℕ, Ok, refl, subst, arith}
use Rattle.hv_actor.specs.Acting.{known}
use Rattle.hv_job_acts.specs.hv_acts.specs.Told.{trail_in}
use Rattle.hv_compact.specs.Writing.{HasBaseStaged}
use Rattle.hv_compact.proofs.Gets.{works-none, works-then, works-up, works-done, works-front, works-told, works-untold}
use Rattle.hv_compact.proofs.Lists.{lists-later, base-none, base-more}
use Rattle.hv_compact.proofs.writing.write_buckets.Goals as goal

pub loop-bucket-init : goal.loop-bucket-init
loop-bucket-init g c = (
  c.requires.keeps,
  works-none g.D.Shelf.told g.D.Shelf.faults g.W.Actor.between g.W.Actor.meanwhile c.args.task.job g.met.W.Actor.rows (known (g.W.Actor.own c.args.actor.now) (g.W.Actor.house c.args.actor.now)) c.requires.running,
  λ is lists. base-none (trail_in (g.W.Actor.house c.args.actor.now)) c.args.task lists.recs_of c.args.listing.now,
)

pub write_base_bucket-requires-clause-running : goal.write_base_bucket-requires-clause-running
write_base_bucket-requires-clause-running g c = c.loop-bucket.invariant.1.running

pub write_base_bucket-requires-clause-listed : goal.write_base_bucket-requires-clause-listed
write_base_bucket-requires-clause-listed g c = λ is.
    let a = (known (g.W.Actor.own c.args.actor.now) (g.W.Actor.house c.args.actor.now)) in
    let b = known (g.W.Actor.own c.loop-bucket.actor) (g.W.Actor.house c.loop-bucket.actor) in
    lists-later (trail_in a.house) (trail_in b.house) c.args.task c.args.listing.now
    (works-front g.D.Shelf.told g.D.Shelf.faults g.W.Actor.between g.W.Actor.meanwhile c.args.task.job a b (Ok tt) c.loop-bucket.invariant.1)
    (c.requires.listed (works-untold g.D.Shelf.told g.D.Shelf.faults g.W.Actor.between g.W.Actor.meanwhile c.args.task.job a b (Ok tt) c.loop-bucket.invariant.1 is))

pub loop-bucket-preserved : goal.loop-bucket-preserved
loop-bucket-preserved g c =
    let a = (known (g.W.Actor.own c.args.actor.now) (g.W.Actor.house c.args.actor.now)) in
    let b = known (g.W.Actor.own c.loop-bucket.actor) (g.W.Actor.house c.loop-bucket.actor) in
    let e = known (g.W.Actor.own c.write_base_bucket.new.actor) (g.W.Actor.house c.write_base_bucket.new.actor) in
    let works = c.loop-bucket.invariant.1 in (
      c.write_base_bucket.ensures.keeps,
      works-then g.D.Shelf.told g.D.Shelf.faults g.W.Actor.between g.W.Actor.meanwhile c.args.task.job g.met.W.Actor.rows a b e tt (Ok tt) works
          (works-done g.D.Shelf.told g.D.Shelf.faults g.W.Actor.between g.W.Actor.meanwhile c.args.task.job b e c.in-Ok.more tt c.in-Ok.ensures.works),
      λ is lists.
          base-more (trail_in b.house) (trail_in e.house) c.args.task lists.recs_of c.loop-bucket.bucket _ c.args.listing.now c.loop-bucket.some c.in-Ok.more
          (works-front g.D.Shelf.told g.D.Shelf.faults g.W.Actor.between g.W.Actor.meanwhile c.args.task.job b e (Ok c.in-Ok.more) c.in-Ok.ensures.works) refl (c.loop-bucket.invariant.2 is lists)
          (c.in-Ok.ensures.staged (works-told g.D.Shelf.told g.D.Shelf.faults g.W.Actor.between g.W.Actor.meanwhile c.args.task.job a b (Ok tt) works is)
          (lists-later (trail_in a.house) (trail_in b.house) c.args.task c.args.listing.now (works-front g.D.Shelf.told g.D.Shelf.faults g.W.Actor.between g.W.Actor.meanwhile c.args.task.job a b (Ok tt) works) lists)),
    )

pub returns-in-Err-clause-works : goal.returns-in-Err-clause-works
returns-in-Err-clause-works g c =
    let a = (known (g.W.Actor.own c.args.actor.now) (g.W.Actor.house c.args.actor.now)) in
    let b = known (g.W.Actor.own c.loop-bucket.actor) (g.W.Actor.house c.loop-bucket.actor) in
    let e = known (g.W.Actor.own c.write_base_bucket.new.actor) (g.W.Actor.house c.write_base_bucket.new.actor) in
    works-then g.D.Shelf.told g.D.Shelf.faults g.W.Actor.between g.W.Actor.meanwhile c.args.task.job g.met.W.Actor.rows a b e tt _ c.loop-bucket.invariant.1
    (works-up g.D.Shelf.told g.D.Shelf.faults g.W.Actor.between g.W.Actor.meanwhile c.args.task.job b e c.in-Err.why c.in-Err.ensures.works)

pub returns-clause-works : goal.returns-clause-works
returns-clause-works g c =
    works-done g.D.Shelf.told g.D.Shelf.faults g.W.Actor.between g.W.Actor.meanwhile c.args.task.job (known (g.W.Actor.own c.args.actor.now) (g.W.Actor.house c.args.actor.now)) (known (g.W.Actor.own c.loop-bucket.actor) (g.W.Actor.house c.loop-bucket.actor)) tt c.loop-bucket.some
    c.loop-bucket.invariant.1

pub returns-clause-staged : goal.returns-clause-staged
returns-clause-staged g c = λ is lists.
    let end : c.loop-bucket.bucket ≡ c.args.buckets = omega (arith, c.loop-bucket-test.false, c.loop-bucket.auto.bucket-end) in
    subst
    (λ (n : ℕ). HasBaseStaged (trail_in (g.W.Actor.house c.loop-bucket.actor)) c.args.task lists.recs_of n c.args.listing.now c.loop-bucket.some) end
    (c.loop-bucket.invariant.2 is lists)
