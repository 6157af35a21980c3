-- What is said of a text where the rows that an INSERT writes out are passed over: a value is written there by the
-- rule, and none is given.
use Rattle.std.specs.Prelude.{◌≡◌, ℕ, List, []}
use Rattle.hv_ast.specs.declared.expr.Expr.{Expr}
use Rattle.hv_ast.specs.declared.change.Insert.{Insert}
use Rattle.hv_ast.specs.declared.change.Rows.TheVariants as source_rows
use Rattle.hv_ast.specs.declared.statement.Stmt.{Stmt}
use Rattle.hv_ast.specs.declared.statement.Stmt.TheVariants as stmt
use Rattle.hv_ast.specs.Tokens.{Text}
use Rattle.hv_grammar.specs.Rules.{Rule}
use Rattle.hv_grammar.specs.StatementGrammar as statement
use Rattle.hv_grammar.specs.Texts.{Spells}
use Rattle.hv_values_text.specs.Fronts.{IsQuoted}
use Rattle.hv_values_text.specs.Parts.{IsPart, flat, flat_query}

-- after spaces stands a text in quotes
pub record HasQuoted (text rest : Text) : Type 0 where
  pub content : Text
  pub stands : IsQuoted content text rest

pub record HasPart {A : Type 0} (levels : ℕ) (rule : Rule A) (text rest : Text) : Type 0 where
  pub value : A
  pub part : IsPart levels rule value text rest

-- the tree is that of an INSERT of these rows, but has none
pub record IsWithout (insert : Insert) (tree : Stmt) : Type 0 where
  pub rows : List (List Expr)
  pub rows_are : insert.rows ≡ source_rows.Values rows
  pub tree_is : tree ≡ stmt.Insert (record insert { rows = source_rows.Values [] })

-- an INSERT is written there, of which this is the tree without its rows
pub record HasInsert (tree : Stmt) (text rest : Text) : Type 0 where
  pub insert : Insert
  pub bare : IsWithout insert tree
  pub part : IsPart 1 (statement.statement_over flat flat_query) (stmt.Insert insert) text rest

-- the text is such an INSERT
pub record SpellsWithout (text : Text) (tree : Stmt) : Type 0 where
  pub insert : Insert
  pub bare : IsWithout insert tree
  pub spelled : Spells text (stmt.Insert insert)
