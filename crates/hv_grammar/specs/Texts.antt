-- The tree of a text of the whole language, or its fault. A text whose first word is SET is read by
-- its own rule alone; any other by its tokens.
use Rattle.std.specs.Prelude.{◌≡◌, ℕ, Option, Some, None, Ok, Err}
use Rattle.std.specs.Option.{option_map}
use Rattle.hv_ast.specs.declared.statement.Stmt.{Stmt}
use Rattle.hv_ast.specs.declared.statement.Stmt.TheVariants as s
use Rattle.hv_ast.specs.declared.statement.Setting.{Setting}
use Rattle.hv_ast.specs.Tokens.{Text, Tokens, Fault, bad_character, open_string, wide_number, tokens_of}
use Rattle.hv_grammar.specs.Settings.{behind_set, setting_in}
use Rattle.hv_grammar.specs.StatementGrammar.{IsStatement}
use Rattle.hv_grammar.specs.StatementReading.{Answer, found, nesting, syntax, statement_of}

-- why a text is no statement, with the place of a byte, from 0
pub data TextFault : Type 0 where
  BadCharacter : ℕ → TextFault
  OpenString : ℕ → TextFault
  WideNumber : ℕ → TextFault
  Syntax : TextFault
  Nesting : ℕ → TextFault

abbrev pub lexing_fault : Fault → TextFault
lexing_fault (bad_character at) = BadCharacter at
lexing_fault (open_string at) = OpenString at
lexing_fault (wide_number at) = WideNumber at

-- ---- which tree a text spells, by the grammar

abbrev pub SpellsSetting : Option Setting → Stmt → Type 0
SpellsSetting (Some setting) tree = tree ≡ s.Set setting
SpellsSetting None tree = ⊥

abbrev pub SpellsStatement : Tokens → Stmt → Type 0
SpellsStatement (Ok tokens) tree = IsStatement tokens tree
SpellsStatement (Err fault) tree = ⊥

abbrev pub SpelledBy : Option Text → Tokens → Stmt → Type 0
SpelledBy (Some rest) tokens tree = SpellsSetting (setting_in rest) tree
SpelledBy None tokens tree = SpellsStatement tokens tree

unfoldable pub Spells : Text → Stmt → Type 0
Spells text tree = SpelledBy (behind_set text) (tokens_of text) tree

-- ---- the same as functions

abbrev pub tree_in : Answer → Option Stmt
tree_in (found tree) = Some tree
tree_in (nesting at) = None
tree_in syntax = None

abbrev pub statement_tree : Tokens → Option Stmt
statement_tree (Ok tokens) = tree_in (statement_of tokens)
statement_tree (Err fault) = None

abbrev pub tree_by : Option Text → Tokens → Option Stmt
tree_by (Some rest) tokens = option_map s.Set (setting_in rest)
tree_by None tokens = statement_tree tokens

-- the tree of a text, None where it is no statement
unfoldable pub tree_of : Text → Option Stmt
tree_of text = tree_by (behind_set text) (tokens_of text)

abbrev pub fault_in : Answer → Option TextFault
fault_in (found tree) = None
fault_in (nesting at) = Some (Nesting at)
fault_in syntax = Some Syntax

abbrev pub setting_fault : Option Setting → Option TextFault
setting_fault (Some setting) = None
setting_fault None = Some Syntax

abbrev pub statement_fault : Tokens → Option TextFault
statement_fault (Ok tokens) = fault_in (statement_of tokens)
statement_fault (Err fault) = Some (lexing_fault fault)

abbrev pub fault_by : Option Text → Tokens → Option TextFault
fault_by (Some rest) tokens = setting_fault (setting_in rest)
fault_by None tokens = statement_fault tokens

-- Why a text is no statement, None where it is one: Syntax of a SET text; of another the first of a
-- bad character, an open string and a wide number by place, else the token that nests too deep, else Syntax.
unfoldable pub fault_of : Text → Option TextFault
fault_of text = fault_by (behind_set text) (tokens_of text)
