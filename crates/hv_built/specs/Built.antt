-- Which statements run today. The other forms of the language are refused as Syntax until they are built. No
-- definition of the language rests on this one.
use Rattle.std.specs.Prelude.{Bool, IsTrue}
use Rattle.hv_ast.specs.declared.statement.Stmt.{Stmt}
use Rattle.hv_typing.specs.Analysis.{is_form}

-- the forms that are analysed
abbrev pub is_built : Stmt → Bool
is_built tree = is_form tree

abbrev pub IsBuilt : Stmt → Type 0
IsBuilt tree = IsTrue (is_built tree)
