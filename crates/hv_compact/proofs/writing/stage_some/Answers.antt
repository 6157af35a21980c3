use Rattle.hv_actor.specs.Acting.{known}
use Rattle.hv_job_acts.specs.hv_acts.specs.Told.{trail_in}
use Rattle.hv_job_acts.specs.hv_job_calls.proofs.OnOk.{ok-weaker}
use Rattle.hv_compact.specs.Gathering.{AreDue}
use Rattle.hv_compact.specs.Writing.{IsStagedIn}
use Rattle.hv_compact.proofs.Gets.{works-none}
use Rattle.hv_compact.proofs.Lists.{some-if, if-some, if-none, empty-so, empty-not}
use Rattle.hv_compact.proofs.writing.stage_some.Goals as goal

pub returns-then-is_empty-clause-works : goal.returns-then-is_empty-clause-works
returns-then-is_empty-clause-works g c =
    works-none g.D.Shelf.told g.D.Shelf.faults g.W.Actor.between g.W.Actor.meanwhile c.args.task.job g.met.W.Actor.rows (known (g.W.Actor.own c.args.actor.now) (g.W.Actor.house c.args.actor.now)) c.requires.running

pub returns-then-is_empty-clause-staged : goal.returns-then-is_empty-clause-staged
returns-then-is_empty-clause-staged g c =
    if-none c.args.recs.now (IsStagedIn (trail_in (g.W.Actor.house c.args.actor.now)) c.args.task.job c.args.name.now c.args.bucket)
    (empty-so c.args.recs.now c.is_empty.result c.is_empty.ensures c.if-is_empty.true)

pub stage_recs-requires-clause-truly : goal.stage_recs-requires-clause-truly
stage_recs-requires-clause-truly g c = λ is.
    if-some c.args.recs.now
    (AreDue (trail_in (g.W.Actor.house c.args.actor.now)) c.args.task.job c.args.name.now c.args.deletes c.args.bucket c.args.recs.now)
    (empty-not c.args.recs.now c.is_empty.result c.is_empty.ensures c.if-is_empty.false) (c.requires.truly is)

pub returns-else-is_empty-clause-staged : goal.returns-else-is_empty-clause-staged
returns-else-is_empty-clause-staged g c =
    ok-weaker c.stage_recs.result _ _
    (λ x staged. some-if c.args.recs.now
    (IsStagedIn (trail_in (g.W.Actor.house c.stage_recs.new.actor)) c.args.task.job c.args.name.now c.args.bucket) staged) c.stage_recs.ensures.staged
