use Rattle.std.proofs.Common.{◌≡◌, List, Ok, subst}
use Rattle.hv_rowfile.specs.declared.record.Rec.{Rec}
use Rattle.hv_actor.specs.Acting.{known}
use Rattle.hv_job_acts.specs.hv_acts.specs.Told.{trail_in}
use Rattle.hv_job_acts.specs.hv_job_calls.proofs.OnOk.{ok-weaker}
use Rattle.hv_compact.specs.Gathering.{wide_of, minor_recs}
use Rattle.hv_compact.specs.Writing.{IfSome, IsStagedIn}
use Rattle.hv_compact.proofs.Gets.{works-up, works-then, works-front, works-untold}
use Rattle.hv_compact.proofs.Lists.{lists-later, minor-due, minor-same}
use Rattle.hv_compact.proofs.writing.write_wide.Goals as goal

pub stage_some-requires-clause-truly : goal.stage_some-requires-clause-truly
stage_some-requires-clause-truly g c = λ is.
    let a = (known (g.W.Actor.own c.args.actor.now) (g.W.Actor.house c.args.actor.now)) in
    let b = known (g.W.Actor.own c.gather_bucket.new.actor) (g.W.Actor.house c.gather_bucket.new.actor) in
    let was = works-untold g.D.Shelf.told g.D.Shelf.faults g.W.Actor.between g.W.Actor.meanwhile c.args.task.job a b (Ok c.in-Ok.recs) c.in-Ok.ensures.works is in
    let lists = c.requires.listed was in
    minor-due (trail_in b.house) c.args.task c.args.listing.now
    (lists-later (trail_in a.house) (trail_in b.house) c.args.task c.args.listing.now
    (works-front g.D.Shelf.told g.D.Shelf.faults g.W.Actor.between g.W.Actor.meanwhile c.args.task.job a b (Ok c.in-Ok.recs) c.in-Ok.ensures.works) lists) c.requires.minor c.args.deletes c.args.bucket c.deref.result.now
    (minor-same (trail_in a.house) c.args.task c.args.listing.now lists c.requires.minor c.args.deletes c.args.bucket c.files_in-files.result.now c.in-Ok.recs.items
    c.deref.result.now c.files_in-files.ensures c.deref.ensures.value (λ each. c.in-Ok.ensures.gathered lists.recs_of was each))

pub returns-in-Ok-clause-works : goal.returns-in-Ok-clause-works
returns-in-Ok-clause-works g c =
    works-then g.D.Shelf.told g.D.Shelf.faults g.W.Actor.between g.W.Actor.meanwhile c.args.task.job g.met.W.Actor.rows (known (g.W.Actor.own c.args.actor.now) (g.W.Actor.house c.args.actor.now))
    (known (g.W.Actor.own c.gather_bucket.new.actor) (g.W.Actor.house c.gather_bucket.new.actor))
    (known (g.W.Actor.own c.stage_some.new.actor) (g.W.Actor.house c.stage_some.new.actor)) c.in-Ok.recs c.stage_some.result c.in-Ok.ensures.works
    c.stage_some.ensures.works

pub returns-in-Ok-clause-staged : goal.returns-in-Ok-clause-staged
returns-in-Ok-clause-staged g c = λ is lists.
    let same : c.deref.result.now ≡ minor_recs lists.recs_of c.args.task c.args.deletes c.args.bucket c.args.listing.now =
    minor-same (trail_in (g.W.Actor.house c.args.actor.now)) c.args.task c.args.listing.now lists c.requires.minor c.args.deletes c.args.bucket
    c.files_in-files.result.now c.in-Ok.recs.items c.deref.result.now c.files_in-files.ensures c.deref.ensures.value
    (λ each. c.in-Ok.ensures.gathered lists.recs_of is each) in
    ok-weaker c.stage_some.result _ _
    (λ x staged. subst (λ (recs : List Rec). IfSome recs
    (IsStagedIn (trail_in (g.W.Actor.house c.stage_some.new.actor)) c.args.task.job (wide_of c.args.task c.args.deletes) c.args.bucket)) same staged)
    c.stage_some.ensures.staged

pub returns-clause-works : goal.returns-clause-works
returns-clause-works g c =
    works-up g.D.Shelf.told g.D.Shelf.faults g.W.Actor.between g.W.Actor.meanwhile c.args.task.job (known (g.W.Actor.own c.args.actor.now) (g.W.Actor.house c.args.actor.now))
    (known (g.W.Actor.own c.gather_bucket.new.actor) (g.W.Actor.house c.gather_bucket.new.actor)) c.in-Err.why c.in-Err.ensures.works
