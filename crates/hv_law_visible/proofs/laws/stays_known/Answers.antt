use Rattle.hv_law_visible.proofs.ReaderLemmas.{fates-go, opened, started, ended-txn, job-published, open-above}
use Rattle.hv_law_visible.proofs.laws.stays_known.Goals as goal

pub returns : goal.returns
returns c = record {
  law = record { going = fates-go; opening = opened; starting = started; ending = ended-txn; publishing = job-published; undecided = open-above };
}
