use Rattle.std.proofs.Common.{subst}
use Rattle.hv_jobs.specs.hv_history.specs.State.{state_of}
use Rattle.hv_tallies.specs.Walks.{IsTally}
use Rattle.hv_tallies.specs.Covered.{reach_within}
use Rattle.hv_tallies.proofs.CoveredLemmas.{inserted-is, deleted-is}
use Rattle.hv_tallies.proofs.covering.found_within.Goals as goal

pub returns : goal.returns
returns c =
    let state = state_of c.args.book.now.entries in
    let tally = c.walk-tally.result in
    let partition = c.args.partition.now in
    let reached = subst (λ r. IsTally state c.args.table c.as_str.result.now r tally) c.reach_within-reach.ensures c.walk-tally.ensures in
    let is = subst (λ p. IsTally state c.args.table p (reach_within c.args.range) tally) c.as_str.ensures reached in
    record {
      inserted = inserted-is state c.args.table partition c.args.range tally is;
      deleted = deleted-is state c.args.table partition c.args.range tally is;
    }
