use Rattle.std.proofs.Common.{true, refl, sym, ◌∙◌}
use Rattle.hv_history.specs.State.{state_of}
use Rattle.hv_history.specs.Legal.{BlockedFits}
use Rattle.hv_fits.proofs.LockLemmas.{no-text, blocked-law}
use Rattle.hv_fits.proofs.locks.blocked_fits.Goals as goal

pub returns-in-None : goal.returns-in-None
returns-in-None c = record {
  fits =
      no-text (state_of c.args.book.now.entries) c.args.txn.0 (BlockedFits (state_of c.args.book.now.entries) c.args.holder.0)
      c.requires.texts c.in-None.ensures.tree;
}

pub returns-then-waiting : goal.returns-then-waiting
returns-then-waiting c = record {
  fits =
      blocked-law (state_of c.args.book.now.entries) c.args.holder.0 c.args.txn.0 c.in-Some.tree.now c.requires.texts c.in-Some.ensures.tree
      true c.is_that-held.result (λ e. c.is_waiting-waiting.ensures.waiting.0 c.if-waiting.true, λ h. refl) (
        λ e. sym c.first_holder.ensures.holder ∙ c.is_that-held.ensures.0 e,
        λ h. c.is_that-held.ensures.1 (c.first_holder.ensures.holder ∙ h),
      );
}
