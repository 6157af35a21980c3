-- The grammar of expressions and types. Sources: Hive Language Manual, Operators and User-Defined
-- Functions, Data Types. Which words are reserved, and that comparisons make no chains, is this
-- project's profile.
use Rattle.std.specs.Prelude.{◌≡◌, ◌≤◌, ℕ, zero, suc, length, drop, Bool, true, false, if◌then◌else◌, List, [], ◌∷◌, Option, Some, None}
use Rattle.hv_ast.specs.declared.token.Token.{Token}
use Rattle.hv_ast.specs.declared.types.TypeName.{TypeName}
use Rattle.hv_ast.specs.declared.types.TypeName.TheVariants as type
use Rattle.hv_ast.specs.declared.types.ScalarName.{ScalarName}
use Rattle.hv_ast.specs.declared.expr.Literal.TheVariants as l
use Rattle.hv_ast.specs.declared.expr.Unary.TheVariants as unary
use Rattle.hv_ast.specs.declared.expr.Binary.TheVariants as binary
use Rattle.hv_ast.specs.declared.expr.Arithmetic.{Arithmetic}
use Rattle.hv_ast.specs.declared.expr.Operation.{Operation}
use Rattle.hv_ast.specs.declared.expr.When.{When}
use Rattle.hv_ast.specs.declared.expr.Expr.{Expr}
use Rattle.hv_ast.specs.declared.expr.Expr.TheVariants as e
use Rattle.hv_ast.specs.Tokens.{Text}
use Rattle.hv_grammar.specs.declared.kind.Kind.{Kind}
use Rattle.hv_grammar.specs.declared.kind.Kind.TheVariants as k
use Rattle.hv_grammar.specs.Kinds.{kind_of}
use Rattle.hv_grammar.specs.Choices.{is_name, is_function_word, word_in, string_in, literal_in, scalar_at, comparison, additive, multiplicative, sign, binds}
use Rattle.hv_grammar.specs.Nesting.{too_deep, most_levels}
use Rattle.hv_grammar.specs.Readers.{kind_at}
use Rattle.hv_grammar.specs.Rules.{Rule, ◌>>=◌, ◌>>◌, ◌<|>◌, give, held, word, flag, one_of, many, separated}

-- ---- names and types

-- a word by its kind
abbrev pub word_by : (Kind → Bool) → Token → Option Text
word_by p token = if p (kind_of token.what) then word_in token.what else None

-- ident
abbrev pub name : Rule Text
name = held (word_by is_name)

-- fname = ident | IF | ARRAY
abbrev pub function_name : Rule Text
function_name = name <|> held (word_by is_function_word)

-- scalar = BOOLEAN | INT | INTEGER | BIGINT | STRING | DATE
abbrev pub scalar : Rule ScalarName
scalar = one_of scalar_at

-- ARRAY < scalar >
unfoldable pub array : Rule TypeName
array = do
  word k.Less
  of ← scalar
  word k.Greater
  give (type.Array of)

-- type = scalar | ARRAY < scalar >
unfoldable pub type_name : Rule TypeName
type_name = (word k.Array >> array) <|> (do of ← scalar; give (type.Scalar of))

-- ---- expressions

-- number | string
abbrev pub literal : Rule Expr
literal = do
  value ← held (λ token. literal_in token.what)
  give (e.Literal value)

-- DATE string
abbrev pub date : Rule Expr
date = do
  text ← held (λ token. string_in token.what)
  give (e.Literal (l.Date text))

-- behind the first name: [. ident]
unfoldable pub qualified : Text → Rule Expr
qualified first =
    (do word k.Dot; second ← name; give (e.Column (Some first) second)) <|> give (e.Column None first)

-- ident [. ident]
unfoldable pub column : Rule Expr
column = name >>= qualified

-- COUNT ( * )
unfoldable pub count_rows : Rule Expr
count_rows = do
  word k.Count
  word k.Open
  word k.Star
  word k.Close
  give e.CountRows

-- a chain of no operations is its operand
abbrev pub chain : Expr → List (Operation Expr) → Expr
chain first [] = first
chain first (operation ∷ operations) = e.Chain first (operation ∷ operations)

-- operator operand
abbrev pub operation : (Kind → Option Arithmetic) → Rule Expr → Rule (Operation Expr)
operation level r = do
  operator ← one_of level
  operand ← r
  give (record { operator = operator; operand = operand })

-- a chain of one operand is that operand
abbrev pub joined : (List Expr → Expr) → List Expr → Expr
joined node (only ∷ []) = only
joined node operands = node operands

-- Over the expressions that stand between brackets, or between CASE and END.
module _ (expr : Rule Expr) where
  -- expr {, expr}
  unfoldable pub list : Rule (List Expr)
  list = separated k.Comma expr

  -- [expr {, expr}] )
  unfoldable pub arguments : Rule (List Expr)
  arguments = (word k.Close >> give []) <|> (do found ← list; word k.Close; give found)

  -- behind `fname (`: [DISTINCT] [expr {, expr}] )
  unfoldable pub passed_to : Text → Rule Expr
  passed_to function = do
    distinct ← flag k.Distinct
    found ← arguments
    give (e.Call function distinct found)

  -- fname ( [DISTINCT] [expr {, expr}] )
  unfoldable pub call : Rule Expr
  call = do
    function ← function_name
    word k.Open
    passed_to function

  -- expr THEN expr
  unfoldable pub when : Rule (When Expr)
  when = do
    condition ← expr
    word k.Then
    value ← expr
    give (record { condition = condition; value = value })

  -- [expr] WHEN
  unfoldable pub operand : Rule (Option Expr)
  operand = (word k.When >> give None) <|> (do value ← expr; word k.When; give (Some value))

  -- [ELSE expr] END
  unfoldable pub otherwise : Rule (Option Expr)
  otherwise = (do word k.Else; value ← expr; word k.End; give (Some value)) <|> (word k.End >> give None)

  -- [expr] WHEN expr THEN expr {WHEN expr THEN expr} [ELSE expr] END
  unfoldable pub case : Rule Expr
  case = do
    value ← operand
    chosen ← separated k.When when
    other ← otherwise
    give (e.Case value chosen other)

  -- ( expr AS type )
  unfoldable pub cast : Rule Expr
  cast = do
    word k.Open
    value ← expr
    word k.As
    to ← type_name
    word k.Close
    give (e.Cast value to)

  -- prim = number | string | DATE string | TRUE | FALSE | NULL | ident [. ident] | ( expr )
  --      | CASE .. END | CAST ( .. ) | COUNT ( * ) | fname ( [DISTINCT] [expr {, expr}] )
  unfoldable pub primary : Rule Expr
  primary =
      literal
      <|> (word k.Date >> date)
      <|> (word k.True >> give (e.Literal (l.Bool true)))
      <|> (word k.False >> give (e.Literal (l.Bool false)))
      <|> (word k.Null >> give (e.Literal l.Null))
      <|> column
      <|> (do word k.Open; inner ← expr; word k.Close; give inner)
      <|> (word k.Case >> case)
      <|> (word k.Cast >> cast)
      <|> count_rows
      <|> call

  -- post = prim ["[" expr "]"]
  unfoldable pub indexed : Rule Expr
  indexed = do
    first ← primary
    (do word k.OpenIndex; index ← expr; word k.CloseIndex; give (e.Binary binary.Element first index))
        <|> give first

  -- unary = [+ | -] post
  unfoldable pub signed : Rule Expr
  signed = (do operator ← one_of sign; operand ← indexed; give (e.Unary operator operand)) <|> indexed

  -- suffix = unary [IS [NOT] NULL]
  unfoldable pub suffixed : Rule Expr
  suffixed = do
    value ← signed
    (do
      word k.Is
      negated ← flag k.Not
      word k.Null
      give (e.Unary (if negated then unary.IsNotNull else unary.IsNull) value))
        <|> give value

  -- term = suffix {(* | DIV | %) suffix}
  unfoldable pub term : Rule Expr
  term = do
    first ← suffixed
    operations ← many (operation multiplicative suffixed)
    give (chain first operations)

  -- sum = term {(+ | -) term}
  unfoldable pub sum : Rule Expr
  sum = do
    first ← term
    operations ← many (operation additive term)
    give (chain first operations)

  -- [NOT] LIKE sum | [NOT] BETWEEN sum AND sum | [NOT] IN ( expr {, expr} )
  unfoldable pub matched : Expr → Bool → Rule Expr
  matched value negated =
      (do
        word k.Like
        pattern ← sum
        give (e.Binary (if negated then binary.NotLike else binary.Like) value pattern))
      <|> (do word k.Between; low ← sum; word k.And; high ← sum; give (e.Between value negated low high))
      <|> (do word k.In; word k.Open; among ← list; word k.Close; give (e.In value negated among))

  -- test = sum [cmp sum | [NOT] LIKE sum | [NOT] BETWEEN sum AND sum | [NOT] IN ( expr {, expr} )]
  unfoldable pub predicate : Rule Expr
  predicate = do
    value ← sum
    (do operator ← one_of comparison; other ← sum; give (e.Binary operator value other))
        <|> (word k.Not >> matched value true)
        <|> matched value false
        <|> give value

  -- not = [NOT] test
  unfoldable pub negation : Rule Expr
  negation = (do word k.Not; value ← predicate; give (e.Unary unary.Not value)) <|> predicate

  -- and = not {AND not}
  unfoldable pub conjunction : Rule Expr
  conjunction = do
    operands ← separated k.And negation
    give (joined e.And operands)

  -- expr = and {OR and}
  unfoldable pub disjunction : Rule Expr
  disjunction = do
    operands ← separated k.Or conjunction
    give (joined e.Or operands)

-- an expression that nests fewer levels than this
unfoldable pub expr : ℕ → Rule Expr
expr zero = λ tree from to. ⊥
expr (suc depth) = disjunction (expr depth)

-- The expression that stands between two places of a list of tokens: those from the first place on
-- nest no more than 64 levels, and the token at the second can't continue an expression.
pub record IsExpression (tokens : List Token) (from to : ℕ) (tree : Expr) : Type 0 where
  pub nests : too_deep most_levels (drop from tokens) ≡ None
  pub depth : ℕ
  pub spelled : expr depth tree (drop from tokens) (drop to tokens)
  pub ends : binds (kind_at (drop to tokens)) ≡ 0
  pub within : to ≤ length tokens
