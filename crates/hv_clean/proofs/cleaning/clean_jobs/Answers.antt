use Rattle.hv_actor.specs.Acting.{known}
use Rattle.std.proofs.Common.{List, take, get_or, sym, subst}
use Rattle.std.proofs.lemmas.List.{take_more, take_all}
use Rattle.hv_base.specs.declared.ids.JobId.{JobId}
use Rattle.hv_actor.specs.Acting.{among}
use Rattle.hv_job_acts.specs.hv_acts.specs.Told.{trail_in}
use Rattle.hv_clean.specs.Passing.{CleanEach}
use Rattle.hv_clean.proofs.Moved.{sweeps-none, each-more, moves-one, moves-front}
use Rattle.hv_clean.proofs.Came.{jobs-stop}
use Rattle.hv_clean.proofs.Lasts.{all-known}
use Rattle.hv_clean.proofs.Forgets.{known-at}
use Rattle.hv_clean.proofs.cleaning.clean_jobs.Goals as goal

pub loop-job-init : goal.loop-job-init
loop-job-init g c = (
  c.requires.keeps,
  c.requires.running,
  c.requires.there,
  sweeps-none g.D.Shelf.told g.D.Shelf.faults g.W.Actor.between g.met.W.Actor.rows g.W.Actor.meanwhile (known (g.W.Actor.own c.args.actor.now) (g.W.Actor.house c.args.actor.now)) c.args.swept.now c.requires.running,
)

pub clean_job-requires-clause-there : goal.clean_job-requires-clause-there
clean_job-requires-clause-there g c =
    known-at (trail_in (g.W.Actor.house c.loop-job.actor)) c.args.jobs.now c.loop-job.job-index (record { 0 = 0 }) c.loop-job-test.true c.loop-job.invariant.2

pub returns-in-Err-clause-less : goal.returns-in-Err-clause-less
returns-in-Err-clause-less g c =
    jobs-stop g.D.Shelf.told g.D.Shelf.faults g.W.Actor.between g.met.W.Actor.rows g.W.Actor.meanwhile (known (g.W.Actor.own c.args.actor.now) (g.W.Actor.house c.args.actor.now)) (known (g.W.Actor.own c.loop-job.actor) (g.W.Actor.house c.loop-job.actor)) (known (g.W.Actor.own c.clean_job.new.actor) (g.W.Actor.house c.clean_job.new.actor)) c.args.jobs.now c.loop-job.job-index c.args.swept.now c.loop-job.swept c.in-Err.why c.loop-job.invariant.3 c.in-Err.ensures.less

pub loop-job-preserved : goal.loop-job-preserved
loop-job-preserved g c =
    let jobs = c.args.jobs.now in
    let i = c.loop-job.job-index in
    let job : JobId = get_or jobs i (record { 0 = 0 }) in
    let one = c.in_default.ensures.cleans in
    let moves = moves-one g.D.Shelf.told g.D.Shelf.faults g.W.Actor.between g.met.W.Actor.rows g.W.Actor.meanwhile (known (g.W.Actor.own c.loop-job.actor) (g.W.Actor.house c.loop-job.actor)) (known (g.W.Actor.own c.clean_job.new.actor) (g.W.Actor.house c.clean_job.new.actor)) job c.loop-job.swept c.clean_job.new.swept one in (
      c.clean_job.ensures.keeps,
      moves.running,
      all-known (trail_in (g.W.Actor.house c.loop-job.actor)) (trail_in (g.W.Actor.house c.clean_job.new.actor)) (moves-front g.D.Shelf.told g.D.Shelf.faults g.W.Actor.between g.met.W.Actor.rows g.W.Actor.meanwhile (known (g.W.Actor.own c.loop-job.actor) (g.W.Actor.house c.loop-job.actor)) (known (g.W.Actor.own c.clean_job.new.actor) (g.W.Actor.house c.clean_job.new.actor)) moves) jobs c.loop-job.invariant.2,
      subst (λ (xs : List JobId). CleanEach (among g.D.Shelf.told g.D.Shelf.faults g.W.Actor.between g.W.Actor.meanwhile) (known (g.W.Actor.own c.args.actor.now) (g.W.Actor.house c.args.actor.now)) (known (g.W.Actor.own c.clean_job.new.actor) (g.W.Actor.house c.clean_job.new.actor)) xs c.args.swept.now c.clean_job.new.swept)
          (sym (take_more jobs i (record { 0 = 0 }) c.loop-job-test.true))
          (each-more g.D.Shelf.told g.D.Shelf.faults g.W.Actor.between g.met.W.Actor.rows g.W.Actor.meanwhile (known (g.W.Actor.own c.args.actor.now) (g.W.Actor.house c.args.actor.now)) (known (g.W.Actor.own c.loop-job.actor) (g.W.Actor.house c.loop-job.actor)) (known (g.W.Actor.own c.clean_job.new.actor) (g.W.Actor.house c.clean_job.new.actor)) (take i jobs) job c.args.swept.now c.loop-job.swept c.clean_job.new.swept c.loop-job.invariant.3 one),
    )

pub returns-clause-cleans : goal.returns-clause-cleans
returns-clause-cleans g c =
    subst (λ (xs : List JobId). CleanEach (among g.D.Shelf.told g.D.Shelf.faults g.W.Actor.between g.W.Actor.meanwhile) (known (g.W.Actor.own c.args.actor.now) (g.W.Actor.house c.args.actor.now)) (known (g.W.Actor.own c.loop-job.actor) (g.W.Actor.house c.loop-job.actor)) xs c.args.swept.now c.loop-job.swept)
    (take_all c.loop-job.job-index c.args.jobs.now c.loop-job-test.false) c.loop-job.invariant.3
