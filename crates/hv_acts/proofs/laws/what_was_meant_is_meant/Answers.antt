use Rattle.hv_acts.proofs.Meant.{begun-means, started-means, given-means}
use Rattle.hv_acts.proofs.Truths.{just-given}
use Rattle.hv_acts.proofs.laws.what_was_meant_is_meant.Goals as goal

pub returns : goal.returns
returns c = record {
  begun = begun-means;
  started = started-means;
  given = given-means;
  still = λ trail txn given means has runs. just-given trail txn runs.0 given means has runs.1;
}
