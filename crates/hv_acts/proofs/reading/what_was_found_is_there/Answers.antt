use Rattle.hv_acts.proofs.Readings.{found-there}
use Rattle.hv_acts.proofs.reading.what_was_found_is_there.Goals as goal

pub returns : goal.returns
returns c = record { law = found-there }
