use Rattle.std.proofs.Common.{◌≡◌, ℕ, Option, Some, None, sym, subst}
use Rattle.std.specs.Prelude.{true, false, ◌↔◌, IsTrue, IsSomeAnd}
use Rattle.hv_base.specs.declared.ids.Limits.{Limits}
use Rattle.hv_history.specs.declared.entry.Cause.{Cause}
use Rattle.hv_history.specs.declared.entry.Cause.TheVariants as cause
use Rattle.hv_history.specs.declared.state.Transaction.{Transaction}
use Rattle.hv_history.specs.State.{State, numbered, state_of}
use Rattle.hv_history.specs.Legal.{Of, CauseFits}
use Rattle.hv_fits.proofs.fitting.abort_fits.Goals as goal

rolled-in : (limits : Limits) (state : State) (txn : ℕ) (o : Option Transaction) → IsTrue false ↔ IsSomeAnd o (CauseFits limits state txn cause.Rollback)
rolled-in limits state txn None = (λ e. absurd (let wrong : false ≡ true = e in cc), λ h. absurd h)
rolled-in limits state txn (Some t) = (λ e. absurd (let wrong : false ≡ true = e in cc), λ h. absurd h)

-- none of a rollback fits yet
rolled-law : (limits : Limits) (state : State) (txn : ℕ) (why : Cause) → why ≡ cause.Rollback → IsTrue false ↔ Of state txn (CauseFits limits state txn why)
rolled-law limits state txn why is =
    subst (λ (other : Cause). IsTrue false ↔ Of state txn (CauseFits limits state txn other)) (sym is)
    (rolled-in limits state txn (numbered state.transactions txn))

pub returns-in-Rollback : goal.returns-in-Rollback
returns-in-Rollback c = record {
  fits = rolled-law c.args.limits.now (state_of c.args.book.now.entries) c.args.txn.0 c.args.cause.now c.in-Rollback.is;
}
