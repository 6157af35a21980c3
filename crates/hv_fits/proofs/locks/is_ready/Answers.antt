use Rattle.std.proofs.Common.{true, refl}
use Rattle.hv_history.specs.State.{state_of}
use Rattle.hv_fits.specs.Texts.{IsReady}
use Rattle.hv_fits.proofs.LockLemmas.{no-text, ready-law, free-of}
use Rattle.hv_fits.proofs.locks.is_ready.Goals as goal

pub returns-in-None : goal.returns-in-None
returns-in-None c = record {
  ready = no-text (state_of c.args.book.now.entries) c.args.txn.0 (IsReady (state_of c.args.book.now.entries)) c.requires.texts c.in-None.ensures.tree;
}

pub returns-then-waiting : goal.returns-then-waiting
returns-then-waiting c = record {
  ready =
      ready-law (state_of c.args.book.now.entries) c.args.txn.0 c.in-Some.tree.now c.requires.texts c.in-Some.ensures.tree true c.is_none-free.result
      (λ e. c.is_waiting-waiting.ensures.waiting.0 c.if-waiting.true, λ h. refl)
      (free-of c.first_holder.result _ c.is_none-free.result c.is_none-free.ensures c.first_holder.ensures.holder);
}
