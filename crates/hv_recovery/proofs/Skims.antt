-- What is kept of a text's tree is kept, whether or not the tree has the rows that an INSERT writes out.
use Rattle.std.proofs.Common.{◌≡◌, inl, inr, ℕ, Some, List, [], sym, ap, ◌∙◌}
use Rattle.std.specs.Option.{option_map}
use Rattle.hv_ast.specs.declared.expr.Expr.{Expr}
use Rattle.hv_ast.specs.declared.change.Insert.{Insert}
use Rattle.hv_ast.specs.declared.change.Rows.{Rows}
use Rattle.hv_ast.specs.declared.change.Rows.TheVariants as source_rows
use Rattle.hv_ast.specs.declared.statement.Stmt.{Stmt}
use Rattle.hv_ast.specs.declared.statement.Stmt.TheVariants as stmt
use Rattle.hv_fits.specs.hv_book.specs.Said.{said, said_rows}
use Rattle.hv_history.specs.Legal.{IsStatement}
use Rattle.hv_reading.specs.Without.{RunsBut}
use Rattle.hv_history.specs.hv_built.specs.hv_grammar.specs.Texts.{tree_of}

without-rows : (insert : Insert) (rows : List (List Expr)) (tree : Stmt) → insert.rows ≡ source_rows.Values rows
    → tree ≡ stmt.Insert (record insert { rows = source_rows.Values [] }) → Some (said tree) ≡ Some (said (stmt.Insert insert))
without-rows insert rows tree same is =
    ap (λ (t : Stmt). Some (said t)) is
    ∙ ap (λ (left : Rows). Some (stmt.Insert (record insert { rows = said_rows left }))) (sym same)

pub said-same : (text : List ℕ) (tree : Stmt) → RunsBut text tree → option_map said (Some tree) ≡ option_map said (tree_of text)
said-same text tree (inl runs) = ap (option_map said) (sym runs.read)
said-same text tree (inr found) =
    without-rows found.insert found.bare.rows tree found.bare.rows_are found.bare.tree_is ∙ ap (option_map said) (sym found.runs.read)

pub runs-so : (text : List ℕ) (tree : Stmt) → RunsBut text tree → IsStatement text
runs-so text tree (inl runs) = (tree, runs)
runs-so text tree (inr found) = (stmt.Insert found.insert, found.runs)
