use Rattle.hv_acts.specs.hv_telling.specs.hv_house.specs.Steps.{seen_of}
use Rattle.hv_acts.specs.hv_telling.specs.hv_house.proofs.Hards.{shuts_later}
use Rattle.hv_job_acts.proofs.Notings.{pick-ok, pick-refused}
use Rattle.hv_job_acts.proofs.noting.pick_job.Goals as goal

pub returns-in-Ok : goal.returns-in-Ok
returns-in-Ok g c = record {
  picked =
      pick-ok g.D.Shelf.told g.D.Shelf.faults c.args.house.now c.pick.new.house c.requires.whole c.in-Ok.found c.pick_found.result c.book.result.now.entries c.book.ensures.entries
      c.pick_found.ensures.picked c.in-Ok.ensures.step c.in-Ok.ensures.job c.in-Ok.ensures.none;
  hard =
      shuts_later g.D.Shelf.told g.D.Shelf.faults g.D.Shelf.hard _ _ (seen_of c.args.house.now) (seen_of c.pick.new.house) c.pick.ensures.step.step
      c.pick.ensures.hard c.requires.hard;
}

pub returns-in-Err : goal.returns-in-Err
returns-in-Err g c = record {
  picked =
      pick-refused g.D.Shelf.told g.D.Shelf.faults c.args.house.now c.pick.new.house c.requires.whole c.in-Err.why c.in-Err.ensures.step c.in-Err.ensures.full
      c.in-Err.ensures.not_gone c.in-Err.ensures.others;
  hard =
      shuts_later g.D.Shelf.told g.D.Shelf.faults g.D.Shelf.hard _ _ (seen_of c.args.house.now) (seen_of c.pick.new.house) c.pick.ensures.step.step
      c.pick.ensures.hard c.requires.hard;
}
