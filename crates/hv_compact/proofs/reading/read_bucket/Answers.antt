use Rattle.std.proofs.Common.{List, map, Ok, ap, sym, ◌∙◌, subst}
use Rattle.std.proofs.lemmas.List.{take_all}
use Rattle.hv_choosing.specs.declared.listing.DirFile.{DirFile}
use Rattle.hv_actor.specs.Acting.{known}
use Rattle.hv_job_acts.specs.hv_acts.specs.Told.{trail_in}
use Rattle.hv_compact.specs.Gathering.{taken_in}
use Rattle.hv_compact.specs.Reading.{AreFilesOf}
use Rattle.hv_compact.proofs.Gets.{items_in, works-none, works-then, works-up, works-done, works-front, works-told, taken-more, each-one, stands-later}
use Rattle.hv_compact.proofs.reading.read_bucket.Goals as goal

pub loop-file-init : goal.loop-file-init
loop-file-init g c = (
  c.requires.keeps,
  works-none g.D.Shelf.told g.D.Shelf.faults g.W.Actor.between g.W.Actor.meanwhile c.args.task.job g.met.W.Actor.rows
      (known (g.W.Actor.own c.args.actor.now) (g.W.Actor.house c.args.actor.now)) c.requires.running,
  subst (λ xs. AreFilesOf c.args.deletes c.args.bucket (items_in xs)) (sym c.new-read.ensures.items) tt,
  λ recs_of was_told each. ap items_in c.new-read.ensures.items,
)

pub read_taken-requires-clause-running : goal.read_taken-requires-clause-running
read_taken-requires-clause-running g c = c.loop-file.invariant.1.running

pub loop-file-preserved : goal.loop-file-preserved
loop-file-preserved g c =
    let a = known (g.W.Actor.own c.args.actor.now) (g.W.Actor.house c.args.actor.now) in
    let b = known (g.W.Actor.own c.loop-file.actor) (g.W.Actor.house c.loop-file.actor) in
    let e = known (g.W.Actor.own c.read_taken.new.actor) (g.W.Actor.house c.read_taken.new.actor) in
    let file = c.file-item.result in
    let works = c.loop-file.invariant.1 in (
      c.read_taken.ensures.keeps,
      works-then g.D.Shelf.told g.D.Shelf.faults g.W.Actor.between g.W.Actor.meanwhile c.args.task.job g.met.W.Actor.rows a b e tt (Ok tt) works
          c.in_default.ensures.works,
      c.in_default.ensures.files c.loop-file.invariant.2,
      λ recs_of was_told each.
          taken-more c.args.task.kind c.args.bucket recs_of c.args.files.now c.loop-file.file-index file (items_in c.loop-file.read.items)
          (items_in c.read_taken.new.read.items) c.loop-file-test.true c.file-item.is (c.loop-file.invariant.3 recs_of was_told each)
          (c.in_default.ensures.made recs_of
          (works-told g.D.Shelf.told g.D.Shelf.faults g.W.Actor.between g.W.Actor.meanwhile c.args.task.job a b (Ok tt) works was_told)
          (stands-later (trail_in a.house) (trail_in b.house) c.args.task.job file.place c.args.deletes (recs_of file)
          (works-front g.D.Shelf.told g.D.Shelf.faults g.W.Actor.between g.W.Actor.meanwhile c.args.task.job a b (Ok tt) works)
          (each-one (trail_in a.house) c.args.task.job c.args.deletes recs_of c.args.files.now c.loop-file.file-index file c.loop-file-test.true c.file-item.is each))),
    )

pub returns-in-Err-clause-works : goal.returns-in-Err-clause-works
returns-in-Err-clause-works g c =
    let a = known (g.W.Actor.own c.args.actor.now) (g.W.Actor.house c.args.actor.now) in
    let b = known (g.W.Actor.own c.loop-file.actor) (g.W.Actor.house c.loop-file.actor) in
    let e = known (g.W.Actor.own c.read_taken.new.actor) (g.W.Actor.house c.read_taken.new.actor) in
    works-then g.D.Shelf.told g.D.Shelf.faults g.W.Actor.between g.W.Actor.meanwhile c.args.task.job g.met.W.Actor.rows a b e tt _ c.loop-file.invariant.1
    (works-up g.D.Shelf.told g.D.Shelf.faults g.W.Actor.between g.W.Actor.meanwhile c.args.task.job b e c.in-Err.why c.in-Err.ensures.works)

pub returns-clause-works : goal.returns-clause-works
returns-clause-works g c =
    works-done g.D.Shelf.told g.D.Shelf.faults g.W.Actor.between g.W.Actor.meanwhile c.args.task.job
    (known (g.W.Actor.own c.args.actor.now) (g.W.Actor.house c.args.actor.now)) (known (g.W.Actor.own c.loop-file.actor) (g.W.Actor.house c.loop-file.actor))
    tt c.loop-file.read c.loop-file.invariant.1

pub returns-clause-made : goal.returns-clause-made
returns-clause-made g c = λ recs_of was_told each.
    c.loop-file.invariant.3 recs_of was_told each
    ∙ ap (λ (fs : List DirFile). map recs_of (taken_in c.args.task.kind c.args.bucket fs))
    (take_all c.loop-file.file-index c.args.files.now c.loop-file-test.false)
