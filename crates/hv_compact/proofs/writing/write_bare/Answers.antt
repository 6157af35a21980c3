use Rattle.hv_actor.specs.Acting.{known}
use Rattle.hv_job_acts.specs.hv_acts.specs.Told.{trail_in}
use Rattle.hv_job_acts.specs.hv_job_calls.proofs.OnOk.{ok-weaker}
use Rattle.hv_compact.proofs.Gets.{works-none, works-front}
use Rattle.hv_compact.proofs.Lists.{bare-due, all-by-some, all-by-bare}
use Rattle.hv_compact.proofs.writing.write_bare.Goals as goal

pub returns-then-some-clause-works : goal.returns-then-some-clause-works
returns-then-some-clause-works g c = works-none g.D.Shelf.told g.D.Shelf.faults g.W.Actor.between g.W.Actor.meanwhile c.args.task.job g.met.W.Actor.rows (known (g.W.Actor.own c.args.actor.now) (g.W.Actor.house c.args.actor.now)) c.requires.running

pub returns-then-some-clause-staged : goal.returns-then-some-clause-staged
returns-then-some-clause-staged g c = λ is.
    all-by-some (trail_in (g.W.Actor.house c.args.actor.now)) c.args.task c.args.listing.now c.args.some c.requires.major c.if-some.true
    (c.requires.listed is)

pub stage_recs-requires-clause-writes : goal.stage_recs-requires-clause-writes
stage_recs-requires-clause-writes g c = record { each = tt; rising = tt }

pub stage_recs-requires-clause-truly : goal.stage_recs-requires-clause-truly
stage_recs-requires-clause-truly g c = λ is.
    bare-due (trail_in (g.W.Actor.house c.args.actor.now)) c.args.task c.args.listing.now c.args.some c.requires.major c.if-some.false (c.requires.listed is)

pub returns-clause-staged : goal.returns-clause-staged
returns-clause-staged g c = λ is.
    let a = (known (g.W.Actor.own c.args.actor.now) (g.W.Actor.house c.args.actor.now)) in
    let b = known (g.W.Actor.own c.stage_recs.new.actor) (g.W.Actor.house c.stage_recs.new.actor) in
    ok-weaker c.stage_recs.result _ _
    (λ x staged. all-by-bare (trail_in a.house) (trail_in b.house) c.args.task c.args.listing.now c.args.some c.requires.major c.if-some.false
    (works-front g.D.Shelf.told g.D.Shelf.faults g.W.Actor.between g.W.Actor.meanwhile c.args.task.job a b c.stage_recs.result c.stage_recs.ensures.works)
    (c.requires.listed is) staged)
    c.stage_recs.ensures.staged
