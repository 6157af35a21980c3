use Rattle.hv_acts.proofs.Puts.{runs-both, runs-not}
use Rattle.hv_acts.proofs.noting.runs_with.Goals as goal

pub returns-then-is_running : goal.returns-then-is_running
returns-then-is_running g c = record {
  runs =
      runs-both c.args.house.now c.args.txn c.book-book.result.now.entries c.book-book.ensures.entries c.held.result.now c.args.most c.holds_at_most.result
      (c.held.ensures.held c.args.txn.0) (c.is_running.ensures.running.0 c.if-is_running.true) c.holds_at_most.ensures.at_most;
}

pub returns-else-is_running : goal.returns-else-is_running
returns-else-is_running g c = record {
  runs =
      runs-not c.args.house.now c.args.txn c.book-book.result.now.entries c.book-book.ensures.entries c.args.most c.is_running.result
      c.is_running.ensures.running.1 c.if-is_running.false;
}
