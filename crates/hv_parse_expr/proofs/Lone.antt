-- A literal alone is an expression: it goes through all levels of operators.
use Rattle.std.proofs.Common.{◌≡◌, inl, inr, ℕ, suc, Bool, true, false, not, ◌==◌, nat_lt, Option, Some, Result, List, [], ◌∷◌, refl, sym, ap, subst, ◌∙◌}
use Rattle.std.proofs.lemmas.Bool.{and_parts, eqb-true}
use Rattle.hv_ast.specs.declared.token.Token.{Token}
use Rattle.hv_ast.specs.declared.token.Lexeme.{Lexeme}
use Rattle.hv_ast.specs.declared.token.Lexeme.TheVariants as lexeme
use Rattle.hv_ast.specs.declared.token.Symbol.{Symbol}
use Rattle.hv_ast.specs.declared.token.Symbol.TheVariants as symbol
use Rattle.hv_ast.specs.declared.expr.Expr.{Expr}
use Rattle.hv_ast.specs.declared.expr.Expr.TheVariants as e
use Rattle.hv_ast.specs.declared.expr.Literal.{Literal}
use Rattle.hv_ast.specs.declared.expr.Literal.TheVariants as l
use Rattle.hv_ast.specs.Tokens.{Text}
use Rattle.hv_grammar.specs.declared.kind.Kind.TheVariants as k
use Rattle.hv_grammar.specs.Kinds.{kind_of, symbol_kind, words, reserved, placed}
use Rattle.hv_grammar.specs.Rules.{Rule}
use Rattle.hv_grammar.specs.Readers.{Outcome, and_then, kind_at, next, held, held_by}
use Rattle.hv_grammar.specs.Readers as reader
use Rattle.hv_grammar.specs.Choices as c
use Rattle.hv_grammar.specs.Choices.{binds}
use Rattle.hv_grammar.specs.Grammar as g
use Rattle.hv_grammar.specs.Reading as r
use Rattle.hv_parse_expr.specs.declared.fault.ReadFault.{ReadFault}
use Rattle.hv_parse_expr.specs.Lone.{is_literal, sees_lone_literal}
use Rattle.hv_parse_expr.specs.Reads.{Reads}
use Rattle.hv_parse_expr.proofs.Begins.{Stop}
use Rattle.hv_parse_expr.proofs.Found.{true_false, look_up_kind, expr_whole}

module _ (p : Rule Expr) (tree : Expr) where
  indexed_lone : (from to : List Token) → g.primary p tree from to → g.indexed p tree from to
  unfolding g.indexed
  indexed_lone from to s = (tree, to, s, inr (refl, refl))

  suffixed_lone : (from to : List Token) → g.signed p tree from to → g.suffixed p tree from to
  unfolding g.suffixed
  suffixed_lone from to s = (tree, to, s, inr (refl, refl))

  term_lone : (from to : List Token) → g.suffixed p tree from to → g.term p tree from to
  unfolding g.term
  term_lone from to s = (tree, to, s, ([], to, refl, (refl, refl)))

  sum_lone : (from to : List Token) → g.term p tree from to → g.sum p tree from to
  unfolding g.sum
  sum_lone from to s = (tree, to, s, ([], to, refl, (refl, refl)))

  predicate_lone : (from to : List Token) → g.sum p tree from to → g.predicate p tree from to
  unfolding g.predicate
  predicate_lone from to s = (tree, to, s, inr (inr (inr (refl, refl))))

  negation_lone : (from to : List Token) → g.predicate p tree from to → g.negation p tree from to
  unfolding g.negation
  negation_lone from to s = inr s

  conjunction_lone : (from to : List Token) → g.negation p tree from to → g.conjunction p tree from to
  unfolding g.conjunction
  conjunction_lone from to s = (tree ∷ [], to, (tree, to, s, ([], to, refl, (refl, refl))), (refl, refl))

  disjunction_lone : (from to : List Token) → g.conjunction p tree from to → g.disjunction p tree from to
  unfolding g.disjunction
  disjunction_lone from to s = (tree ∷ [], to, (tree, to, s, ([], to, refl, (refl, refl))), (refl, refl))

  -- from a signed primary up
  signed_lone : (from to : List Token) → g.signed p tree from to → g.disjunction p tree from to
  signed_lone from to s =
      disjunction_lone from to (conjunction_lone from to (negation_lone from to (predicate_lone from to
      (sum_lone from to (term_lone from to (suffixed_lone from to s))))))

  primary_lone : (from to : List Token) → g.primary p tree from to → g.disjunction p tree from to
  unfolding g.signed
  primary_lone from to s = signed_lone from to (inr (indexed_lone from to s))

-- ---- which tokens hold a literal

symbol_plain : (s : Symbol) → is_literal (symbol_kind s) ≡ false
unfolding symbol_kind
symbol_plain symbol.NullSafeEqual = refl
symbol_plain symbol.EqualTwice = refl
symbol_plain symbol.Unequal = refl
symbol_plain symbol.BangEqual = refl
symbol_plain symbol.AtMost = refl
symbol_plain symbol.AtLeast = refl
symbol_plain symbol.Equal = refl
symbol_plain symbol.Less = refl
symbol_plain symbol.Greater = refl
symbol_plain symbol.Open = refl
symbol_plain symbol.Close = refl
symbol_plain symbol.OpenIndex = refl
symbol_plain symbol.CloseIndex = refl
symbol_plain symbol.Comma = refl
symbol_plain symbol.Dot = refl
symbol_plain symbol.Star = refl
symbol_plain symbol.Plus = refl
symbol_plain symbol.Minus = refl
symbol_plain symbol.Percent = refl

turned : (b : Bool) → not b ≡ true → b ≡ false
turned false other = refl
turned true other = cc

word_plain : (word : Text) → is_literal (kind_of (lexeme.Word word)) ≡ false
unfolding kind_of words reserved placed
word_plain word = turned (is_literal (kind_of (lexeme.Word word))) (look_up_kind (λ kind. not (is_literal kind)) words k.Name word refl refl)

-- a token of such a kind holds a literal
literal_value : (what : Lexeme) → is_literal (kind_of what) ≡ true → (value : Literal) × (c.literal_in what ≡ Some value)
unfolding kind_of
literal_value (lexeme.Int number) is = (l.Int number, refl)
literal_value (lexeme.Big number) is = (l.Big number, refl)
literal_value (lexeme.Str text) is = (l.Str text, refl)
literal_value (lexeme.Quoted name) is = absurd (true_false (sym is))
literal_value (lexeme.Symbol s) is = absurd (true_false (sym is ∙ symbol_plain s))
literal_value (lexeme.Word word) is = absurd (true_false (sym is ∙ word_plain word))

-- ---- what is read where a literal stands alone

literal_spelled : (p : Rule Expr) (token : Token) (rest : List Token) (value : Literal) → c.literal_in token.what ≡ Some value
    → g.disjunction p (e.Literal value) (token ∷ rest) rest
unfolding g.primary
literal_spelled p token rest value holds =
    primary_lone p (e.Literal value) (token ∷ rest) rest (inl (value, rest, (token, holds, refl), (refl, refl)))

literal_read : (token : Token) (rest : List Token) (value : Literal) → c.literal_in token.what ≡ Some value → r.literal (token ∷ rest) ≡ Some (e.Literal value, rest)
unfolding r.literal held
literal_read token rest value holds = ap (λ (o : Option Literal). and_then (held_by o rest) (λ (found : Literal). reader.give (e.Literal found))) holds

-- nothing behind it binds
level_read : (depth : ℕ) (token : Token) (rest : List Token) (value : Literal) → c.literal_in token.what ≡ Some value → Stop 1 rest
    → r.disjunction (r.expr depth) (token ∷ rest) ≡ Some (e.Literal value, rest)
unfolding g.expr r.expr
level_read depth token rest value holds stop =
    (expr_whole (suc depth)).0.read (e.Literal value) (token ∷ rest) rest (literal_spelled (g.expr depth) token rest value holds) stop

lone_read : (depth : ℕ) (tokens : List Token) → sees_lone_literal tokens ≡ true → r.disjunction (r.expr depth) tokens ≡ r.literal tokens
unfolding kind_at next
lone_read depth [] seen = absurd (true_false (sym seen))
lone_read depth (token ∷ rest) seen =
    let parts = and_parts (is_literal (kind_of token.what)) (binds (kind_at rest) == 0) seen in
    let found = literal_value token.what parts.0 in
    let stop : Stop 1 rest = ap (λ n. nat_lt n 1) (eqb-true (binds (kind_at rest)) 0 parts.1) in
    level_read depth token rest found.0 found.1 stop ∙ sym (literal_read token rest found.0 found.1)

-- where a literal stands alone, what reads a literal reads an expression
pub lone_answer : (depth : ℕ) (tokens to : List Token) (seen : Bool) (result : Result Expr ReadFault) → seen ≡ sees_lone_literal tokens → seen ≡ true
    → Reads (r.literal tokens) result to → Reads (r.disjunction (r.expr depth) tokens) result to
lone_answer depth tokens to seen result told is answer =
    subst (λ (o : Outcome Expr). Reads o result to) (sym (lone_read depth tokens (sym told ∙ is))) answer
