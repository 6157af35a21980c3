use Rattle.hv_history.specs.State.{State}
use Rattle.hv_acts.specs.hv_telling.specs.hv_house.specs.Steps.{seen_of}
use Rattle.hv_acts.specs.hv_telling.specs.hv_house.proofs.Hards.{shuts_later}
use Rattle.hv_job_calls.specs.Refusals.{CanSweep}
use Rattle.hv_job_acts.proofs.Passed.{at-book}
use Rattle.hv_job_acts.proofs.Removals.{sweeps}
use Rattle.hv_job_acts.proofs.removing.sweep_dir.Goals as goal

pub sweep-requires-clause-can : goal.sweep-requires-clause-can
sweep-requires-clause-can g c = at-book c.args.house.now (λ (state : State). CanSweep state c.args.dir) c.requires.can

pub returns : goal.returns
returns g c = record {
  removed =
      sweeps g.D.Shelf.told g.D.Shelf.faults c.args.dir c.args.house.now c.sweep.new.house c.sweep.result c.passed.result c.passed.ensures c.requires.whole
      c.sweep.ensures.step c.sweep.ensures.working c.sweep.ensures.idle c.sweep.ensures.others;
  hard =
      shuts_later g.D.Shelf.told g.D.Shelf.faults g.D.Shelf.hard _ _ (seen_of c.args.house.now) (seen_of c.sweep.new.house) c.sweep.ensures.step.step
      c.sweep.ensures.hard c.requires.hard;
}
