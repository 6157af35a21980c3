-- What a parser's answer tells.
use Rattle.std.specs.Prelude.{◌≡◌, ℕ, Option, Some, None, Result, Ok, Err}
use Rattle.hv_ast.specs.declared.statement.Stmt.{Stmt}
use Rattle.hv_ast.specs.declared.statement.Stmt.TheVariants as s
use Rattle.hv_ast.specs.declared.statement.Setting.{Setting}
use Rattle.hv_grammar.specs.StatementReading as reading
use Rattle.hv_grammar.specs.StatementReading.{Answer}
use Rattle.hv_parse_expr.specs.declared.fault.ParseFault.{ParseFault}
use Rattle.hv_parse_expr.specs.declared.fault.ParseFault.TheVariants as fault

-- the answer is told, unless memory ran out
abbrev pub Tells : Answer → Result Stmt ParseFault → Type 0
Tells answer (Ok tree) = answer ≡ reading.found tree
Tells answer (Err (fault.Nesting at)) = answer ≡ reading.nesting at
Tells answer (Err fault.Syntax) = answer ≡ reading.syntax
Tells answer (Err fault.NoMemory) = Unit {0}

-- this statement is found, unless memory ran out
abbrev pub Finds : Result Stmt ParseFault → Stmt → Type 0
Finds (Ok found) tree = found ≡ tree
Finds (Err fault.NoMemory) tree = Unit {0}
Finds (Err _) tree = ⊥

-- Nesting comes at the token that opens a level too many, and only then, unless memory ran out
abbrev pub TellsNesting : Option ℕ → Result Stmt ParseFault → Type 0
TellsNesting deep (Ok tree) = deep ≡ None
TellsNesting deep (Err (fault.Nesting at)) = deep ≡ Some at
TellsNesting deep (Err fault.Syntax) = deep ≡ None
TellsNesting deep (Err fault.NoMemory) = Unit {0}

-- a SET text's setting is told, and Syntax where there is none, unless memory ran out
abbrev pub TellsSetting : Option Setting → Result Stmt ParseFault → Type 0
TellsSetting (Some setting) (Ok tree) = tree ≡ s.Set setting
TellsSetting (Some setting) (Err fault.NoMemory) = Unit {0}
TellsSetting (Some setting) (Err _) = ⊥
TellsSetting None (Ok tree) = ⊥
TellsSetting None (Err (fault.Nesting at)) = ⊥
TellsSetting None (Err _) = Unit {0}
