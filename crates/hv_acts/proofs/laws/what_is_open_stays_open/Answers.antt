use Rattle.std.proofs.Common.{◌++◌}
use Rattle.hv_trail.specs.Trail.{state_at}
use Rattle.hv_acts.proofs.RunsOn.{runs-on, runs-unended, waits-unended}
use Rattle.hv_acts.proofs.laws.what_is_open_stays_open.Goals as goal

pub returns : goal.returns
returns c = record {
  law = λ trail items txn runs of_it none. runs-unended (state_at (trail ++ items)) txn.0 (runs-on trail items txn runs none);
  runs = runs-on;
  waits = waits-unended;
}
