-- The trees by which a text runs, where the rows that an INSERT writes out may lack.
use Rattle.std.specs.Prelude.{◌⊎◌}
use Rattle.hv_ast.specs.declared.change.Insert.{Insert}
use Rattle.hv_ast.specs.declared.statement.Stmt.{Stmt}
use Rattle.hv_ast.specs.declared.statement.Stmt.TheVariants as stmt
use Rattle.hv_ast.specs.Tokens.{Text}
use Rattle.hv_built.specs.Running.{Runs}
use Rattle.hv_values_text.specs.Bare.{IsWithout}

-- the text runs as an INSERT of values, of whose tree this is all but the rows
pub record RunsWithout (text : Text) (tree : Stmt) : Type 0 where
  pub insert : Insert
  pub bare : IsWithout insert tree
  pub runs : Runs text (stmt.Insert insert)

-- the text runs, by this tree or as such an INSERT
abbrev pub RunsBut : Text → Stmt → Type 0
RunsBut text tree = Runs text tree ⊎ RunsWithout text tree
