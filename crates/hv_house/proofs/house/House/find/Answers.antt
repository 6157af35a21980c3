use Rattle.hv_house.specs.House.{entries_of}
use Rattle.hv_house.proofs.Listings.{on-found, found-named}
use Rattle.hv_house.proofs.house.House.find.Goals as goal

pub returns : goal.returns
returns g c = record {
  found =
      on-found c.find_at.result _ _
      (found-named (entries_of c.args.self.now) c.args.place c.book.result.now.entries c.book.ensures.entries c.args.name.now)
      c.find_at.ensures.found;
}
