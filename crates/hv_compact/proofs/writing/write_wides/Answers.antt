use Rattle.std.proofs.Common.{Ok}
use Rattle.hv_actor.specs.Acting.{known}
use Rattle.hv_job_acts.specs.hv_acts.specs.Told.{trail_in}
use Rattle.hv_job_acts.specs.hv_job_calls.proofs.OnOk.{ok-weaker}
use Rattle.hv_compact.proofs.Gets.{works-up, works-then, works-front, works-told, works-untold}
use Rattle.hv_compact.proofs.Lists.{lists-later, all-by-kinds}
use Rattle.hv_compact.proofs.writing.write_wides.Goals as goal

pub write_kind-requires-in-Ok-clause-listed : goal.write_kind-requires-in-Ok-clause-listed
write_kind-requires-in-Ok-clause-listed g c = λ is.
    let a = (known (g.W.Actor.own c.args.actor.now) (g.W.Actor.house c.args.actor.now)) in
    let b = known (g.W.Actor.own c.write_kind.new.actor) (g.W.Actor.house c.write_kind.new.actor) in
    lists-later (trail_in a.house) (trail_in b.house) c.args.task c.args.listing.now (works-front g.D.Shelf.told g.D.Shelf.faults g.W.Actor.between g.W.Actor.meanwhile c.args.task.job a b (Ok tt) c.in-Ok.ensures.works)
    (c.requires.listed (works-untold g.D.Shelf.told g.D.Shelf.faults g.W.Actor.between g.W.Actor.meanwhile c.args.task.job a b (Ok tt) c.in-Ok.ensures.works is))

pub returns-in-Ok-clause-works : goal.returns-in-Ok-clause-works
returns-in-Ok-clause-works g c =
    works-then g.D.Shelf.told g.D.Shelf.faults g.W.Actor.between g.W.Actor.meanwhile c.args.task.job g.met.W.Actor.rows (known (g.W.Actor.own c.args.actor.now) (g.W.Actor.house c.args.actor.now))
    (known (g.W.Actor.own c.write_kind.new.actor) (g.W.Actor.house c.write_kind.new.actor))
    (known (g.W.Actor.own c.write_kind-in-Ok.new.actor) (g.W.Actor.house c.write_kind-in-Ok.new.actor)) tt c.write_kind-in-Ok.result c.in-Ok.ensures.works
    c.write_kind-in-Ok.ensures.works

pub returns-in-Ok-clause-staged : goal.returns-in-Ok-clause-staged
returns-in-Ok-clause-staged g c = λ is.
    let a = (known (g.W.Actor.own c.args.actor.now) (g.W.Actor.house c.args.actor.now)) in
    let b = known (g.W.Actor.own c.write_kind.new.actor) (g.W.Actor.house c.write_kind.new.actor) in
    let e = known (g.W.Actor.own c.write_kind-in-Ok.new.actor) (g.W.Actor.house c.write_kind-in-Ok.new.actor) in
    let lists = c.requires.listed is in
    let mid = works-told g.D.Shelf.told g.D.Shelf.faults g.W.Actor.between g.W.Actor.meanwhile c.args.task.job a b (Ok tt) c.in-Ok.ensures.works is in
    let front = works-front g.D.Shelf.told g.D.Shelf.faults g.W.Actor.between g.W.Actor.meanwhile c.args.task.job a b (Ok tt) c.in-Ok.ensures.works in
    let later = works-front g.D.Shelf.told g.D.Shelf.faults g.W.Actor.between g.W.Actor.meanwhile c.args.task.job b e c.write_kind-in-Ok.result c.write_kind-in-Ok.ensures.works in
    ok-weaker c.write_kind-in-Ok.result _ _
    (λ x staged. all-by-kinds (trail_in a.house) (trail_in b.house) (trail_in e.house) c.args.task c.args.listing.now c.buckets_of-rows.result c.buckets_of-gone.result
    c.deref.result.now c.deref-in-Ok.result.now c.requires.minor front later
    c.deref.ensures.value c.deref-in-Ok.ensures.value c.buckets_of-rows.ensures.count c.buckets_of-gone.ensures.count lists (c.in-Ok.ensures.staged is lists) staged)
    (c.write_kind-in-Ok.ensures.staged mid (lists-later (trail_in a.house) (trail_in b.house) c.args.task c.args.listing.now front lists))

pub returns-in-Err-clause-works : goal.returns-in-Err-clause-works
returns-in-Err-clause-works g c =
    works-up g.D.Shelf.told g.D.Shelf.faults g.W.Actor.between g.W.Actor.meanwhile c.args.task.job (known (g.W.Actor.own c.args.actor.now) (g.W.Actor.house c.args.actor.now))
    (known (g.W.Actor.own c.write_kind.new.actor) (g.W.Actor.house c.write_kind.new.actor)) c.in-Err.why c.in-Err.ensures.works
