-- Who asks for the abort of a transaction.
use Rattle.std.proofs.Common.{◌≡◌, ℕ, Option, Some, None, refl, sym, ap, ◌∙◌}
use Rattle.std.specs.Prelude.{Bool, true, false, ◌&&◌, ◌↔◌, IsTrue, IsSomeAnd}
use Rattle.std.specs.Option.{option_map}
use Rattle.hv_ast.specs.declared.statement.Stmt.{Stmt}
use Rattle.hv_ast.specs.declared.statement.Stmt.TheVariants as stmt
use Rattle.hv_history.specs.declared.state.Transaction.{Transaction}
use Rattle.hv_history.specs.State.{State, numbered, opening_tree}
use Rattle.hv_history.specs.Legal.{Of, IsRunning, asks_to_abort}
use Rattle.hv_book.specs.Briefs.{tree_in}
use Rattle.hv_book.specs.Said.{said}
use Rattle.hv_fits.specs.Texts.{Asks}
use Rattle.hv_meta.proofs.FactLemmas.{and-both}
use Rattle.hv_meta.proofs.FactLemmas.{and-right}
use Rattle.hv_meta.proofs.FactLemmas.{and-left}

-- what is kept of a text asks for the same
asks-said : (txn : ℕ) (tree : Option Stmt) → asks_to_abort txn (option_map said tree) ≡ asks_to_abort txn tree
asks-said txn None = refl
asks-said txn (Some (stmt.Insert insert)) = refl
asks-said txn (Some tree) = refl

asker-in : (txn : ℕ) (o : Option Transaction) (tree : Option Stmt) → tree ≡ tree_in o → (r a : Bool)
    → (IsTrue r ↔ IsSomeAnd o IsRunning) → a ≡ asks_to_abort txn tree → (IsTrue (r && a)) ↔ IsSomeAnd o (Asks txn)
asker-in txn None tree is r a running asks = (λ e. running.0 (and-left r a e), λ h. absurd h)
asker-in txn (Some t) tree is r a running asks =
    let same : a ≡ asks_to_abort txn (opening_tree t) = asks ∙ ap (asks_to_abort txn) is ∙ asks-said txn (opening_tree t) in (
      λ e. (running.0 (and-left r a e), sym same ∙ and-right r a e),
      λ h. and-both r a (running.1 h.0) (same ∙ h.1),
    )

pub asker-law : (state : State) (txn by : ℕ) (tree : Option Stmt) → tree ≡ tree_in (numbered state.transactions by) → (r a : Bool)
    → (IsTrue r ↔ Of state by IsRunning) → a ≡ asks_to_abort txn tree → (IsTrue (r && a)) ↔ Of state by (Asks txn)
asker-law state txn by tree is r a running asks = asker-in txn (numbered state.transactions by) tree is r a running asks

idle-in : (txn : ℕ) (o : Option Transaction) (r : Bool) → (IsTrue r ↔ IsSomeAnd o IsRunning) → r ≡ false → IsTrue r ↔ IsSomeAnd o (Asks txn)
idle-in txn None r running idle = (λ e. running.0 e, λ h. absurd h)
idle-in txn (Some t) r running idle = (λ e. absurd (let both : false ≡ true = sym idle ∙ e in cc), λ h. running.1 h.0)

-- one that doesn't run asks for nothing
pub idle-law : (state : State) (txn by : ℕ) (r : Bool) → (IsTrue r ↔ Of state by IsRunning) → r ≡ false → IsTrue r ↔ Of state by (Asks txn)
idle-law state txn by r running idle = idle-in txn (numbered state.transactions by) r running idle
