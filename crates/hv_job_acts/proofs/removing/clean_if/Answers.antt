use Rattle.hv_history.specs.State.{state_of}
use Rattle.hv_trail.specs.Kept.{trail_of}
use Rattle.hv_acts.specs.hv_telling.specs.hv_house.specs.House.{entries_of}
use Rattle.hv_acts.specs.hv_telling.specs.hv_house.specs.Steps.{seen_of}
use Rattle.hv_acts.specs.hv_telling.specs.hv_house.proofs.Hards.{shuts_later}
use Rattle.hv_job_acts.proofs.Cleanings.{if-may, left-out, cleaned-step, uncleaned}
use Rattle.hv_job_acts.proofs.removing.clean_if.Goals as goal

pub cleaned-requires-clause-marked : goal.cleaned-requires-clause-marked
cleaned-requires-clause-marked g c =
    if-may (state_of (entries_of c.args.house.now)) c.args.job.0 (trail_of c.args.house.now.trail) c.requires.ready (c.requires.may c.if-may.true)

pub returns-then-may : goal.returns-then-may
returns-then-may g c = record {
  cleaned =
      cleaned-step g.D.Shelf.told g.D.Shelf.faults c.args.house.now c.cleaned.new.house c.requires.whole c.args.job c.cleaned.result c.passed.result
      c.passed.ensures c.cleaned.ensures.step c.requires.ready
      (if-may (state_of (entries_of c.args.house.now)) c.args.job.0 (trail_of c.args.house.now.trail) c.requires.ready (c.requires.may c.if-may.true))
      c.cleaned.ensures.gone c.cleaned.ensures.full c.cleaned.ensures.needed c.cleaned.ensures.others;
  hard =
      shuts_later g.D.Shelf.told g.D.Shelf.faults g.D.Shelf.hard _ _ (seen_of c.args.house.now) (seen_of c.cleaned.new.house) c.cleaned.ensures.step.step
      c.cleaned.ensures.hard c.requires.hard;
}

pub returns-else-may : goal.returns-else-may
returns-else-may g c = record {
  cleaned =
      uncleaned g.D.Shelf.told g.D.Shelf.faults c.args.house.now c.args.house.now c.requires.whole c.args.job
      (λ ready names gone.
      left-out (state_of (entries_of c.args.house.now)) c.args.job.0 (trail_of c.args.house.now.trail) (c.requires.left c.if-may.false) names gone);
  hard = c.requires.hard;
}
