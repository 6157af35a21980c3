-- Which value a text spells by a rule of the grammar, and what stands after it.
use Rattle.std.specs.Prelude.{◌≡◌, ◌≤◌, ℕ, zero, suc, List, Ok}
use Rattle.hv_ast.specs.declared.token.Token.{Token}
use Rattle.hv_ast.specs.declared.expr.Expr.{Expr}
use Rattle.hv_ast.specs.declared.query.Source.{Source}
use Rattle.hv_ast.specs.declared.query.Query.{Query}
use Rattle.hv_ast.specs.Tokens.{Text, tokens_from}
use Rattle.hv_grammar.specs.Rules.{Rule}
use Rattle.hv_grammar.specs.Nesting.{too_deep}
use Rattle.hv_grammar.specs.Grammar as grammar
use Rattle.hv_grammar.specs.QueryGrammar as query_grammar

-- Between these tokens the value is written by the rule, and each level that is opened is closed,
-- with room for so many.
pub record IsWritten {A : Type 0} (levels : ℕ) (rule : Rule A) (value : A) (tokens later : List Token) : Type 0 where
  pub spelled : rule value tokens later
  pub nests : (room : ℕ) → levels ≤ room → too_deep room tokens ≡ too_deep room later

-- A text begins with what the rule writes of the value: whatever tokens the rest has, the text has
-- these after those of the value. Where the rest has none, nothing is said.
pub record IsPart {A : Type 0} (levels : ℕ) (rule : Rule A) (value : A) (text rest : Text) : Type 0 where
  pub place : ℕ → ℕ
  pub written : (at : ℕ) (later : List Token) → tokens_from 0 (place at) rest ≡ Ok later
      → (tokens : List Token) × (tokens_from 0 at text ≡ Ok tokens) × IsWritten levels rule value tokens later

-- an expression that nests no level, and a query over such
abbrev pub flat : Rule Expr
flat = grammar.expr (suc zero)

abbrev pub flat_query : Rule (Query Source)
flat_query = query_grammar.query flat (suc zero)
