use Rattle.std.proofs.Common.{true, false, List, Ok, map, sym, ap, ◌∙◌, subst}
use Rattle.hv_choosing.specs.declared.listing.DirFile.{DirFile}
use Rattle.hv_actor.specs.Acting.{known}
use Rattle.hv_job_acts.specs.hv_acts.specs.Told.{trail_in}
use Rattle.hv_compact.specs.Gathering.{taken_in}
use Rattle.hv_compact.specs.Reading.{ReadsEach}
use Rattle.hv_compact.proofs.Gets.{items_in, works-up, works-then, works-front, works-told, each-later}
use Rattle.hv_compact.proofs.Gathers.{left-so}
use Rattle.hv_compact.proofs.writing.merge_bucket.Goals as goal

pub returns-in-Ok-clause-works : goal.returns-in-Ok-clause-works
returns-in-Ok-clause-works g c =
    works-then g.D.Shelf.told g.D.Shelf.faults g.W.Actor.between g.W.Actor.meanwhile c.args.task.job g.met.W.Actor.rows (known (g.W.Actor.own c.args.actor.now) (g.W.Actor.house c.args.actor.now))
    (known (g.W.Actor.own c.read_bucket.new.actor) (g.W.Actor.house c.read_bucket.new.actor))
    (known (g.W.Actor.own c.merge_read.new.actor) (g.W.Actor.house c.merge_read.new.actor)) c.in-Ok.deletes c.merge_read.result c.in-Ok.ensures.works
    c.merge_read.ensures.works

pub returns-in-Ok-clause-left : goal.returns-in-Ok-clause-left
returns-in-Ok-clause-left g c = λ is lists.
    let a = (known (g.W.Actor.own c.args.actor.now) (g.W.Actor.house c.args.actor.now)) in
    let b = known (g.W.Actor.own c.read_bucket.new.actor) (g.W.Actor.house c.read_bucket.new.actor) in
    let front = works-front g.D.Shelf.told g.D.Shelf.faults g.W.Actor.between g.W.Actor.meanwhile c.args.task.job a b (Ok c.in-Ok.deletes) c.in-Ok.ensures.works in
    left-so lists.recs_of c.args.task c.args.bucket c.args.listing.now (items_in c.deref-in-Ok.result.now) c.merge_read.result c.requires.major
    (ap items_in c.deref-in-Ok.ensures.value
    ∙ c.in-Ok.ensures.made lists.recs_of is
    (subst (ReadsEach (trail_in a.house) c.args.task.job true lists.recs_of) (sym c.deref.ensures.value) lists.deletes)
    ∙ ap (λ (fs : List DirFile). map lists.recs_of (taken_in c.args.task.kind c.args.bucket fs)) c.deref.ensures.value)
    (c.merge_read.ensures.left lists.recs_of (works-told g.D.Shelf.told g.D.Shelf.faults g.W.Actor.between g.W.Actor.meanwhile c.args.task.job a b (Ok c.in-Ok.deletes) c.in-Ok.ensures.works is)
    (each-later (trail_in a.house) (trail_in b.house) c.args.task.job false lists.recs_of c.args.listing.now.inserts.items front lists.inserts))

pub returns-in-Err-clause-works : goal.returns-in-Err-clause-works
returns-in-Err-clause-works g c =
    works-up g.D.Shelf.told g.D.Shelf.faults g.W.Actor.between g.W.Actor.meanwhile c.args.task.job (known (g.W.Actor.own c.args.actor.now) (g.W.Actor.house c.args.actor.now))
    (known (g.W.Actor.own c.read_bucket.new.actor) (g.W.Actor.house c.read_bucket.new.actor)) c.in-Err.why c.in-Err.ensures.works
