use Rattle.hv_acts.proofs.Starts.{full-idle, not-idle}
use Rattle.hv_acts.proofs.starting.waits_in_full.Goals as goal

pub returns-then-not-runs : goal.returns-then-not-runs
returns-then-not-runs g c = record {
  full =
      full-idle c.args.house.now c.args.txn c.book.result.now.entries c.book.ensures.entries c.is_running-runs.result c.is_full.result c.is_running-runs.ensures.running.1
      c.if-not-runs.true c.is_full.ensures.full;
}

pub returns-else-not-runs : goal.returns-else-not-runs
returns-else-not-runs g c = record {
  full =
      not-idle c.args.house.now c.args.txn c.book.result.now.entries c.book.ensures.entries c.is_running-runs.result c.is_running-runs.ensures.running.0
      c.if-not-runs.false;
}
