use Rattle.std.proofs.Common.{true, refl}
use Rattle.hv_book.specs.hv_history.specs.State.{state_of}
use Rattle.hv_meta.proofs.DropLemmas.{drop-law, idle-law}
use Rattle.hv_meta.proofs.dropping.drop_fits.Goals as goal

pub returns-then-running : goal.returns-then-running
returns-then-running c = record {
  fits =
      drop-law (state_of c.args.book.now.entries) c.args.table.0 c.args.txn.0 _ c.opening_tree.ensures.tree true c.drops_table-named.result
      (λ e. c.is_running-running.ensures.running.0 c.if-running.true, λ h. refl) c.drops_table-named.ensures;
}

pub returns-else-running : goal.returns-else-running
returns-else-running c = record {
  fits =
      idle-law (state_of c.args.book.now.entries) c.args.table.0 c.args.txn.0 c.is_running-running.result c.is_running-running.ensures.running c.if-running.false;
}
