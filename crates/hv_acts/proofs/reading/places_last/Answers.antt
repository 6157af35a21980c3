use Rattle.std.proofs.Common.{ap, option_map}
use Rattle.hv_history.specs.State.{State}
use Rattle.hv_stands.specs.Reading.{table_of_name}
use Rattle.hv_telling.specs.hv_house.specs.Listing.{info_in}
use Rattle.hv_telling.specs.hv_house.specs.Seeing.{ids_in}
use Rattle.hv_acts.proofs.Readings.{place-lasts, front-same, then-same}
use Rattle.hv_acts.proofs.reading.places_last.Goals as goal

pub returns : goal.returns
returns c = record {
  has = λ before now place front. place-lasts before now front place;
  front = λ before now place front. front-same before now front place;
  found = λ before now place name front has. ap (λ (s : State). option_map info_in (table_of_name name s.tables)) (then-same before now front place has);
  list = λ before now place table front has. ap (λ (s : State). ids_in s table) (then-same before now front place has);
}
