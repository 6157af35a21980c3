use Rattle.std.proofs.Common.{List, map, sym, ap, ◌∙◌, subst}
use Rattle.hv_choosing.specs.declared.listing.DirFile.{DirFile}
use Rattle.hv_actor.specs.Acting.{known}
use Rattle.hv_job_acts.specs.hv_acts.specs.Told.{trail_in}
use Rattle.hv_compact.specs.Gathering.{taken_in}
use Rattle.hv_compact.specs.Reading.{ReadsEach}
use Rattle.hv_compact.proofs.Gets.{items_in, works-or-lacking, works-up}
use Rattle.hv_compact.proofs.Buckets.{files-rise}
use Rattle.hv_compact.proofs.Gathers.{left-if, merged-if}
use Rattle.hv_compact.proofs.writing.merge_read.Goals as goal

pub left_read-requires : goal.left_read-requires
left_read-requires g c = record { rises = files-rise _ c.args.bucket (items_in c.in-Ok.inserts.items) c.in-Ok.ensures.files }

pub returns-in-Ok-clause-works : goal.returns-in-Ok-clause-works
returns-in-Ok-clause-works g c =
    works-or-lacking g.D.Shelf.told g.D.Shelf.faults g.W.Actor.between g.W.Actor.meanwhile c.args.task.job (known (g.W.Actor.own c.args.actor.now) (g.W.Actor.house c.args.actor.now))
    (known (g.W.Actor.own c.read_bucket.new.actor) (g.W.Actor.house c.read_bucket.new.actor)) c.in-Ok.inserts c.left_read.result c.in-Ok.ensures.works
    c.left_read.ensures.memory

pub returns-in-Ok-clause-writes : goal.returns-in-Ok-clause-writes
returns-in-Ok-clause-writes g c =
    left-if c.args.bucket c.args.listing.now.list (items_in c.in-Ok.inserts.items) (items_in c.args.deletes.now) c.left_read.result c.in-Ok.ensures.files
    c.left_read.ensures.left

pub returns-in-Ok-clause-left : goal.returns-in-Ok-clause-left
returns-in-Ok-clause-left g c = λ recs_of is each.
    merged-if c.args.listing.now.list (items_in c.in-Ok.inserts.items)
    (map recs_of (taken_in c.args.task.kind c.args.bucket c.args.listing.now.inserts.items)) (items_in c.args.deletes.now) (items_in c.args.deletes.now)
    c.left_read.result
    (c.in-Ok.ensures.made recs_of is
    (subst (ReadsEach (trail_in (g.W.Actor.house c.args.actor.now)) c.args.task.job _ recs_of) (sym c.deref.ensures.value) each)
    ∙ ap (λ (fs : List DirFile). map recs_of (taken_in c.args.task.kind c.args.bucket fs)) c.deref.ensures.value) (λ i. items_in c.args.deletes.now)
    c.left_read.ensures.left

pub returns-in-Err-clause-works : goal.returns-in-Err-clause-works
returns-in-Err-clause-works g c =
    works-up g.D.Shelf.told g.D.Shelf.faults g.W.Actor.between g.W.Actor.meanwhile c.args.task.job (known (g.W.Actor.own c.args.actor.now) (g.W.Actor.house c.args.actor.now))
    (known (g.W.Actor.own c.read_bucket.new.actor) (g.W.Actor.house c.read_bucket.new.actor)) c.in-Err.why c.in-Err.ensures.works
