use Rattle.std.proofs.Common.{true, refl}
use Rattle.hv_history.specs.State.{state_of}
use Rattle.hv_fits.proofs.RequestLemmas.{asker-law, idle-law}
use Rattle.hv_fits.proofs.requests.is_asker.Goals as goal

pub returns-then-running : goal.returns-then-running
returns-then-running c = record {
  asks =
      asker-law (state_of c.args.book.now.entries) c.args.txn.0 c.args.by.0 _ c.opening_tree.ensures.tree true c.asks_to_abort-asks.result
      (λ e. c.is_running-running.ensures.running.0 c.if-running.true, λ h. refl) c.asks_to_abort-asks.ensures;
}

pub returns-else-running : goal.returns-else-running
returns-else-running c = record {
  asks =
      idle-law (state_of c.args.book.now.entries) c.args.txn.0 c.args.by.0 c.is_running-running.result c.is_running-running.ensures.running c.if-running.false;
}
