use Rattle.hv_telling.specs.hv_house.specs.Steps.{seen_of}
use Rattle.hv_telling.specs.hv_house.proofs.Hards.{shuts_later}
use Rattle.hv_acts.proofs.ReadSteps.{get-step}
use Rattle.hv_acts.proofs.getting.get_file.Goals as goal

pub returns : goal.returns
returns g c = record {
  got =
      get-step g.D.Shelf.told g.D.Shelf.faults c.args.by c.args.place.now c.get.result c.args.house.now c.get.new.self c.requires.whole c.get.ensures.bytes c.get.ensures.none
      c.get.ensures.needed c.get.ensures.found c.get.ensures.not_open c.get.ensures.ready c.get.ensures.stays c.get.ensures.asked.book
      c.get.ensures.cause.failed c.get.ensures.step;
  hard = shuts_later g.D.Shelf.told g.D.Shelf.faults g.D.Shelf.hard _ _ (seen_of c.args.house.now) (seen_of c.get.new.self) c.get.ensures.step c.get.ensures.hard c.requires.hard;
}
