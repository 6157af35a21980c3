use Rattle.hv_history.specs.State.{State}
use Rattle.hv_acts.specs.hv_telling.specs.hv_house.specs.Steps.{seen_of}
use Rattle.hv_acts.specs.hv_telling.specs.hv_house.proofs.Hards.{shuts_later}
use Rattle.hv_job_calls.specs.Refusals.{IsLostIn}
use Rattle.hv_job_acts.proofs.Passed.{at-book}
use Rattle.hv_job_acts.proofs.Removals.{own-goes}
use Rattle.hv_job_acts.proofs.removing.remove_lost.Goals as goal

pub remove_own-requires-clause-lost : goal.remove_own-requires-clause-lost
remove_own-requires-clause-lost g c = λ live.
    at-book c.args.house.now (λ (state : State). IsLostIn state c.args.table.0 c.args.write.0) c.requires.lost

pub returns : goal.returns
returns g c = record {
  removed =
      own-goes g.D.Shelf.told g.D.Shelf.faults c.args.dir c.args.house.now c.remove_own.new.house c.remove_own.result c.passed.result c.passed.ensures c.requires.whole
      c.remove_own.ensures.step c.args.table c.remove_own.ensures.gone c.remove_own.ensures.others;
  hard =
      shuts_later g.D.Shelf.told g.D.Shelf.faults g.D.Shelf.hard _ _ (seen_of c.args.house.now) (seen_of c.remove_own.new.house) c.remove_own.ensures.step.step
      c.remove_own.ensures.hard c.requires.hard;
}
