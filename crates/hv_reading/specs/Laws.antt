-- What holds of every text.
use Rattle.hv_ast.specs.declared.statement.Stmt.{Stmt}
use Rattle.hv_ast.specs.Tokens.{Text}
use Rattle.hv_built.specs.Running.{Runs, IsRefused}

-- a text that runs isn't refused
abbrev pub RunsAndIsNotRefused : Type 0
RunsAndIsNotRefused = (text : Text) (tree : Stmt) → Runs text tree → IsRefused text → ⊥
