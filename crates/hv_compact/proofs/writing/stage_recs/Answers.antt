use Rattle.std.proofs.Common.{refl, ◌∙◌}
use Rattle.hv_actor.specs.Acting.{known}
use Rattle.hv_job_acts.specs.hv_acts.specs.Told.{trail_in}
use Rattle.hv_compact.specs.Reading.{lacking}
use Rattle.hv_compact.proofs.Gets.{works-none, works-lacking}
use Rattle.hv_compact.proofs.Puts.{due-bytes}
use Rattle.hv_compact.proofs.writing.stage_recs.Goals as goal

pub stage-requires-clause-truly : goal.stage-requires-clause-truly
stage-requires-clause-truly g c = λ is.
    due-bytes (trail_in (g.W.Actor.house c.args.actor.now)) c.args.task.job c.args.name.now c.args.deletes c.args.bucket c.args.recs.now
    c.deref.result.now c.in-Ok.ensures.file (c.deref.ensures.value ∙ c.in-Ok.ensures.spelled) (c.requires.truly is)

pub returns-in-Err-clause-works : goal.returns-in-Err-clause-works
returns-in-Err-clause-works g c =
    let a = known (g.W.Actor.own c.args.actor.now) (g.W.Actor.house c.args.actor.now) in
    works-lacking g.D.Shelf.told g.D.Shelf.faults g.W.Actor.between g.W.Actor.meanwhile c.args.task.job a a tt lacking
    (works-none g.D.Shelf.told g.D.Shelf.faults g.W.Actor.between g.W.Actor.meanwhile c.args.task.job g.met.W.Actor.rows a c.requires.running) refl
