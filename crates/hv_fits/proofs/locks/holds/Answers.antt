use Rattle.std.proofs.Common.{true, false, refl, sym, ◌∙◌}
use Rattle.hv_history.specs.State.{state_of}
use Rattle.hv_fits.proofs.LockLemmas.{holds-some, holds-none}
use Rattle.hv_fits.proofs.locks.holds.Goals as goal

pub returns-then-is_running : goal.returns-then-is_running
returns-then-is_running c =
    holds-some (state_of c.args.book.now.entries) c.args.txn c.args.tree.now c.in-Some.other.now c.requires.texts c.in-Some.ensures.tree true c.locks_conflict.result
    (λ e. c.is_running.ensures.running.0 c.if-is_running.true, λ h. refl) c.locks_conflict.ensures

pub returns-else-is_running : goal.returns-else-is_running
returns-else-is_running c =
    c.if-is_running.false
    ∙ holds-some (state_of c.args.book.now.entries) c.args.txn c.args.tree.now c.in-Some.other.now c.requires.texts c.in-Some.ensures.tree false _
    (λ e. cc, λ h. sym c.if-is_running.false ∙ c.is_running.ensures.running.1 h) refl

pub returns-in-None : goal.returns-in-None
returns-in-None c = holds-none (state_of c.args.book.now.entries) c.args.txn c.args.tree.now c.requires.texts c.in-None.ensures.tree
