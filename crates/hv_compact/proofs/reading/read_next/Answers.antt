use Rattle.std.proofs.lemmas.Result.{on_ok_weaker}
use Rattle.hv_actor.specs.Acting.{known}
use Rattle.hv_compact.proofs.Gets.{works-or-lacking, works-up, kept-more}
use Rattle.hv_compact.proofs.reading.read_next.Goals as goal

pub returns-in-Ok-clause-works : goal.returns-in-Ok-clause-works
returns-in-Ok-clause-works g c =
    works-or-lacking g.D.Shelf.told g.D.Shelf.faults g.W.Actor.between g.W.Actor.meanwhile c.args.task.job
    (known (g.W.Actor.own c.args.actor.now) (g.W.Actor.house c.args.actor.now)) (known (g.W.Actor.own c.read_file.new.actor) (g.W.Actor.house c.read_file.new.actor))
    c.in-Ok.recs c.keep.result c.in-Ok.ensures.works c.keep.ensures.memory

pub returns-in-Ok-clause-read : goal.returns-in-Ok-clause-read
returns-in-Ok-clause-read g c =
    on_ok_weaker c.keep.result (λ kept. record { recs = c.in-Ok.recs; file = c.in-Ok.ensures.file; kept = kept }) c.keep.ensures.kept

pub returns-in-Ok-clause-made : goal.returns-in-Ok-clause-made
returns-in-Ok-clause-made g c = λ recs was_told stands.
    on_ok_weaker c.keep.result
    (λ kept. kept-more c.args.read.now.items c.keep.new.read.items c.in-Ok.recs recs kept (c.in-Ok.ensures.made recs was_told stands)) c.keep.ensures.kept

pub returns-in-Err-clause-works : goal.returns-in-Err-clause-works
returns-in-Err-clause-works g c =
    works-up g.D.Shelf.told g.D.Shelf.faults g.W.Actor.between g.W.Actor.meanwhile c.args.task.job
    (known (g.W.Actor.own c.args.actor.now) (g.W.Actor.house c.args.actor.now)) (known (g.W.Actor.own c.read_file.new.actor) (g.W.Actor.house c.read_file.new.actor))
    c.in-Err.why c.in-Err.ensures.works
