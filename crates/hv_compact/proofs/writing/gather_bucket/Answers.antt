use Rattle.hv_actor.specs.Acting.{known}
use Rattle.hv_compact.proofs.Gets.{items_in, works-or-lacking, works-up}
use Rattle.hv_compact.proofs.Buckets.{files-rise}
use Rattle.hv_compact.proofs.Gathers.{written-if, gathered-if}
use Rattle.hv_compact.proofs.writing.gather_bucket.Goals as goal

pub gather_read-requires : goal.gather_read-requires
gather_read-requires g c = record { rises = files-rise c.args.deletes c.args.bucket (items_in c.in-Ok.read.items) c.in-Ok.ensures.files }

pub returns-in-Ok-clause-works : goal.returns-in-Ok-clause-works
returns-in-Ok-clause-works g c =
    works-or-lacking g.D.Shelf.told g.D.Shelf.faults g.W.Actor.between g.W.Actor.meanwhile c.args.task.job
    (known (g.W.Actor.own c.args.actor.now) (g.W.Actor.house c.args.actor.now))
    (known (g.W.Actor.own c.read_bucket.new.actor) (g.W.Actor.house c.read_bucket.new.actor)) c.in-Ok.read c.gather_read.result c.in-Ok.ensures.works
    c.gather_read.ensures.memory

pub returns-in-Ok-clause-writes : goal.returns-in-Ok-clause-writes
returns-in-Ok-clause-writes g c =
    written-if c.args.deletes c.args.bucket c.args.task.low c.args.task.high (items_in c.in-Ok.read.items) c.gather_read.result c.in-Ok.ensures.files
    c.gather_read.ensures.gathered c.gather_read.ensures.rising

pub returns-in-Ok-clause-gathered : goal.returns-in-Ok-clause-gathered
returns-in-Ok-clause-gathered g c = λ recs_of is each.
    gathered-if c.args.task.low c.args.task.high (items_in c.in-Ok.read.items) _ c.gather_read.result (c.in-Ok.ensures.made recs_of is each)
    c.gather_read.ensures.gathered

pub returns-in-Err-clause-works : goal.returns-in-Err-clause-works
returns-in-Err-clause-works g c =
    works-up g.D.Shelf.told g.D.Shelf.faults g.W.Actor.between g.W.Actor.meanwhile c.args.task.job
    (known (g.W.Actor.own c.args.actor.now) (g.W.Actor.house c.args.actor.now))
    (known (g.W.Actor.own c.read_bucket.new.actor) (g.W.Actor.house c.read_bucket.new.actor)) c.in-Err.why c.in-Err.ensures.works
