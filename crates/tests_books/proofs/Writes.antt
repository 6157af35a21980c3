-- What a commit writes, one statement after another.
use Rattle.std.proofs.Common.{◌≡◌, ℕ, Option, Some, None, List, [], ◌∷◌, ◌++◌, refl, sym, ap, ◌∙◌}
use Rattle.std.specs.Prelude.{option_and_then}
use Rattle.std.specs.List.{flat_map}
use Rattle.hv_logic.specs.declared.catalog.Shape.{Shape}
use Rattle.hv_history.specs.declared.state.Statement.{Statement}
use Rattle.hv_history.specs.declared.state.Table.{Table}
use Rattle.hv_history.specs.declared.state.Transaction.{Transaction}
use Rattle.hv_history.specs.declared.state.Written.{Written}
use Rattle.hv_history.specs.State.{tables_behind, written_to, changed, changed_at, wrote_as, writes_of, commits, opening_tree, made_shape, created_shape}

pub behind-append : (first more : List (ℕ × Written)) (tables : List Table)
    → tables_behind (first ++ more) tables ≡ tables_behind more (tables_behind first tables)
behind-append [] more tables = refl
behind-append (w ∷ first) more tables = behind-append first more (changed (written_to w.1) tables w.0)

pub behind-more : (first : Statement) (more : List Statement) (tables : List Table)
    → tables_behind (flat_map (λ (statement : Statement). statement.wrote) (first ∷ more)) tables
    ≡ tables_behind (flat_map (λ (statement : Statement). statement.wrote) more) (tables_behind first.wrote tables)
behind-more first more tables = behind-append first.wrote (flat_map (λ (statement : Statement). statement.wrote) more) tables

-- the statement that opened it writes what it means, and then come the others
pub commits-first : (transaction : Transaction) (first : Statement) (more : List Statement) (tables : List Table) → transaction.statements ≡ first ∷ more
    → tables_behind (commits (Some transaction)) tables
    ≡ tables_behind (flat_map (λ (statement : Statement). statement.wrote) more) (tables_behind (writes_of first.meaning 0 transaction.given) tables)
commits-first transaction first more tables e =
    ap (λ statements. tables_behind (flat_map (λ (statement : Statement). statement.wrote) (changed_at (wrote_as transaction.given 0) statements 0)) tables) e
    ∙ behind-more (wrote_as transaction.given 0 first) more tables

pub commits-none : (transaction : Transaction) (tables : List Table) → transaction.statements ≡ []
    → tables_behind (commits (Some transaction)) tables ≡ tables
commits-none transaction tables e =
    ap (λ statements. tables_behind (flat_map (λ (statement : Statement). statement.wrote) (changed_at (wrote_as transaction.given 0) statements 0)) tables) e

-- the shape that a transaction's text makes, by its tree
pub made-by-tree : (transaction : Option Transaction) → made_shape transaction ≡ created_shape (option_and_then opening_tree transaction)
made-by-tree None = refl
made-by-tree (Some transaction) = refl
