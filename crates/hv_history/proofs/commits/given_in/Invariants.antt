use Rattle.std.proofs.Common.{◌≡◌, drop}
use Rattle.hv_history.specs.State.{given_in}
use Rattle.hv_history.proofs.commits.given_in.Given as goal

abbrev pub invariant-loop-other : goal.invariant-loop-other
invariant-loop-other l = given_in l.table (drop l.other-index l.given) ≡ given_in l.table l.given
