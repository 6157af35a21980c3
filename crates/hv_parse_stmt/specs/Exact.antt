-- That statements are read exactly as the grammar spells them.
use Rattle.std.specs.Prelude.{◌≡◌, ◌⊎◌, ◌↔◌, ℕ, suc, List, [], Some, None}
use Rattle.hv_ast.specs.declared.token.Token.{Token}
use Rattle.hv_ast.specs.declared.statement.Stmt.{Stmt}
use Rattle.hv_ast.specs.Tokens.{Text}
use Rattle.hv_grammar.specs.Nesting.{too_deep, most_levels}
use Rattle.hv_grammar.specs.StatementGrammar as grammar
use Rattle.hv_grammar.specs.StatementGrammar.{IsStatement}
use Rattle.hv_grammar.specs.StatementReading as reading
use Rattle.hv_grammar.specs.Texts.{TextFault, Spells, tree_of, fault_of}

-- what is read is spelled
abbrev pub ReadIsSpelled : Type 0
ReadIsSpelled = (from to : List Token) (tree : Stmt)
    → reading.statement from ≡ Some (tree, to) → grammar.statement (suc most_levels) tree from to

-- what is spelled to the end, where no level is too deep, is read
abbrev pub SpelledIsRead : Type 0
SpelledIsRead = (depth : ℕ) (from : List Token) (tree : Stmt)
    → grammar.statement depth tree from [] → too_deep most_levels from ≡ None
    → reading.statement from ≡ Some (tree, [])

-- at most one statement has these tokens
abbrev pub OneStatement : Type 0
OneStatement = (tokens : List Token) (one other : Stmt)
    → IsStatement tokens one → IsStatement tokens other → one ≡ other

-- ---- texts

-- the tree of a text is what it spells
abbrev pub TreeIsSpelled : Type 0
TreeIsSpelled = (text : Text) (tree : Stmt) → (tree_of text ≡ Some tree) ↔ Spells text tree

-- a text spells at most one statement
abbrev pub OneTree : Type 0
OneTree = (text : Text) (one other : Stmt) → Spells text one → Spells text other → one ≡ other

-- it is a statement and has no fault
abbrev pub IsGood : Text → Type 0
IsGood text = ((tree : Stmt) × Spells text tree) × (fault_of text ≡ None)

-- it has a fault and is no statement
abbrev pub IsFaulty : Text → Type 0
IsFaulty text = ((fault : TextFault) × (fault_of text ≡ Some fault)) × ((tree : Stmt) → Spells text tree → ⊥)

-- a text spells a statement or has a fault, and never both
abbrev pub SpelledOrFaulty : Type 0
SpelledOrFaulty = (text : Text) → IsGood text ⊎ IsFaulty text
