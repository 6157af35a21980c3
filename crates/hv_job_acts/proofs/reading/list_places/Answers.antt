use Rattle.hv_acts.specs.hv_telling.specs.hv_house.specs.Steps.{seen_of}
use Rattle.hv_acts.specs.hv_telling.specs.hv_house.proofs.Hards.{shuts_later}
use Rattle.hv_job_acts.proofs.Readers.{places-listed}
use Rattle.hv_job_acts.proofs.reading.list_places.Goals as goal

pub returns : goal.returns
returns g c = record {
  listed =
      places-listed g.D.Shelf.told g.D.Shelf.faults c.args.house.now c.places.new.house c.requires.whole c.args.table c.places.result c.passed.result c.passed.ensures
      c.places.ensures.step c.places.ensures.places c.places.ensures.others;
  hard =
      shuts_later g.D.Shelf.told g.D.Shelf.faults g.D.Shelf.hard _ _ (seen_of c.args.house.now) (seen_of c.places.new.house) c.places.ensures.step.step
      c.places.ensures.hard c.requires.hard;
}
