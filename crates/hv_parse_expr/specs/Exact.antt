-- That the parser is exact: it finds what the grammar spells, and nothing else.
use Rattle.std.specs.Prelude.{◌≡◌, ◌↔◌, ℕ, suc, List, Option, Some, None, Result, Ok, Err}
use Rattle.hv_ast.specs.declared.token.Token.{Token}
use Rattle.hv_ast.specs.declared.expr.Expr.{Expr}
use Rattle.hv_ast.specs.declared.types.TypeName.{TypeName}
use Rattle.hv_grammar.specs.Nesting.{too_deep}
use Rattle.hv_grammar.specs.Readers.{kind_at}
use Rattle.hv_grammar.specs.Grammar as grammar
use Rattle.hv_grammar.specs.Grammar.{IsExpression}
use Rattle.hv_grammar.specs.Reading as reading
use Rattle.hv_grammar.specs.Choices.{binds}
use Rattle.hv_parse_expr.specs.declared.fault.ParseFault.{ParseFault}
use Rattle.hv_parse_expr.specs.declared.fault.ParseFault.TheVariants as fault

-- this expression is found, up to this place, unless memory ran out
abbrev pub Finds : Result (Expr × ℕ) ParseFault → ℕ → Expr → Type 0
Finds (Ok p) to tree = (p.0 ≡ tree) × (p.1 ≡ to)
Finds (Err fault.NoMemory) to tree = Unit {0}
Finds (Err _) to tree = ⊥

-- Nesting comes at the token that opens a level too many, and only then, unless memory ran out
abbrev pub TellsNesting : Option ℕ → Result (Expr × ℕ) ParseFault → Type 0
TellsNesting deep (Ok p) = deep ≡ None
TellsNesting deep (Err (fault.Nesting at)) = deep ≡ Some at
TellsNesting deep (Err fault.Syntax) = deep ≡ None
TellsNesting deep (Err fault.NoMemory) = Unit {0}

-- ---- laws of the grammar and its reading

abbrev pub ReadIsSpelled : Type 0
ReadIsSpelled = (depth : ℕ) (from to : List Token) (tree : Expr)
    → reading.expr depth from ≡ Some (tree, to) → grammar.expr depth tree from to

-- what is spelled, with room for its levels and behind it a token that can't continue it, is read
abbrev pub SpelledIsRead : Type 0
SpelledIsRead = (depth room : ℕ) (from to : List Token) (tree : Expr)
    → grammar.expr depth tree from to → too_deep room from ≡ None → binds (kind_at to) ≡ 0
    → reading.expr (suc room) from ≡ Some (tree, to)

-- at most one expression stands at a place
abbrev pub OneTree : Type 0
OneTree = (tokens : List Token) (from one other : ℕ) (tree second : Expr)
    → IsExpression tokens from one tree → IsExpression tokens from other second
    → (tree ≡ second) × (one ≡ other)

abbrev pub TypesAreExact : Type 0
TypesAreExact = (from to : List Token) (kind : TypeName)
    → grammar.type_name kind from to ↔ (reading.type_name from ≡ Some (kind, to))
