-- Expressions and types as they are read from the left. Grammar has the rules that these readers
-- follow, and the laws of hv_parse_expr say that both give the same trees.
use Rattle.std.specs.Prelude.{ℕ, zero, suc, ◌-◌, Bool, true, false, if◌then◌else◌, List, [], ◌∷◌, length, drop, Option, Some, None}
use Rattle.hv_ast.specs.declared.token.Token.{Token}
use Rattle.hv_ast.specs.declared.types.ScalarName.{ScalarName}
use Rattle.hv_ast.specs.declared.types.TypeName.{TypeName}
use Rattle.hv_ast.specs.declared.types.TypeName.TheVariants as type
use Rattle.hv_ast.specs.declared.expr.Literal.TheVariants as l
use Rattle.hv_ast.specs.declared.expr.Unary.TheVariants as unary
use Rattle.hv_ast.specs.declared.expr.Binary.{Binary}
use Rattle.hv_ast.specs.declared.expr.Binary.TheVariants as binary
use Rattle.hv_ast.specs.declared.expr.When.{When}
use Rattle.hv_ast.specs.declared.expr.Operation.{Operation}
use Rattle.hv_ast.specs.declared.expr.Expr.{Expr}
use Rattle.hv_ast.specs.declared.expr.Expr.TheVariants as e
use Rattle.hv_ast.specs.Tokens.{Text}
use Rattle.hv_grammar.specs.declared.kind.Kind.{Kind}
use Rattle.hv_grammar.specs.declared.kind.Kind.TheVariants as k
use Rattle.hv_grammar.specs.Kinds.{same_kind}
use Rattle.hv_grammar.specs.Choices.{is_name, word_in, string_in, literal_in, scalar_at, comparison, additive, multiplicative, sign, binds}
use Rattle.hv_grammar.specs.Nesting.{too_deep, most_levels}
use Rattle.hv_grammar.specs.Readers.{Outcome, Reader, ◌>>=◌, ◌>>◌, ◌<$>◌, give, refuse, peek, pass, look, eat, expect, held, behind, separated, operations, by_option}

-- ---- words, strings and literals

-- the text of the next word, keyword or not
unfoldable pub word : Reader Text
word = held (λ token. word_in token.what)

unfoldable pub string : Reader Text
string = held (λ token. string_in token.what)

unfoldable pub literal : Reader Expr
literal = e.Literal <$> held (λ token. literal_in token.what)

-- ident
unfoldable pub name : Reader Text
name = do
  kind ← peek
  if is_name kind then word else refuse

-- ---- types

-- BOOLEAN | INT | INTEGER | BIGINT | STRING | DATE. An identifier between backquotes is none.
unfoldable pub scalar : Reader ScalarName
scalar = do
  kind ← peek
  by_option (scalar_at kind) refuse (λ found. pass >> give found)

-- behind ARRAY: < scalar >
unfoldable pub array : Reader TypeName
array = do
  expect k.Less
  of ← scalar
  expect k.Greater
  give (type.Array of)

-- scalar | ARRAY < scalar >
unfoldable pub type_name : Reader TypeName
type_name = do
  is_array ← eat k.Array
  if is_array then array else type.Scalar <$> scalar

-- ---- expressions, over a reader of those that stand in brackets

-- behind DATE
unfoldable pub date : Reader Expr
date = (λ text. e.Literal (l.Date text)) <$> string

-- behind the first name
unfoldable pub column : Text → Reader Expr
column first = do
  is_qualified ← eat k.Dot
  if is_qualified then e.Column (Some first) <$> name else give (e.Column None first)

-- behind IS: [NOT] NULL
unfoldable pub null_test : Expr → Reader Expr
null_test value = do
  negated ← eat k.Not
  expect k.Null
  give (e.Unary (if negated then unary.IsNotNull else unary.IsNull) value)

module _ (expr : Reader Expr) where
  -- expr {, expr}
  unfoldable pub list : Reader (List Expr)
  list = separated k.Comma expr

  -- behind `(`: expr )
  unfoldable pub bracketed : Reader Expr
  bracketed = do
    inner ← expr
    expect k.Close
    give inner

  -- behind `(` and [DISTINCT]: [expr {, expr}] )
  unfoldable pub arguments : Reader (List Expr)
  arguments = do
    is_empty ← eat k.Close
    if is_empty then give [] else (do
      found ← list
      expect k.Close
      give found)

  -- behind `(` of a function's call
  unfoldable pub call : Text → Reader Expr
  call function = do
    distinct ← eat k.Distinct
    found ← arguments
    give (e.Call function distinct found)

  -- behind `COUNT (`
  unfoldable pub count : Text → Reader Expr
  count function = do
    is_star ← eat k.Star
    if is_star then expect k.Close >> give e.CountRows else call function

  -- a call or a column
  unfoldable pub named : Reader Expr
  named = do
    kind ← peek
    first ← word
    is_call ← eat k.Open
    if is_call then (if same_kind kind k.Count then count first else call first) else column first

  -- IF or ARRAY as a function
  unfoldable pub keyword_call : Reader Expr
  keyword_call = do
    function ← word
    expect k.Open
    call function

  -- behind WHEN: expr THEN expr
  unfoldable pub when : Reader (When Expr)
  when = do
    condition ← expr
    expect k.Then
    value ← expr
    give (record { condition = condition; value = value })

  -- behind WHEN: expr THEN expr {WHEN expr THEN expr}
  unfoldable pub whens : Reader (List (When Expr))
  whens = separated k.When when

  -- behind CASE: [expr] WHEN
  unfoldable pub operand : Reader (Option Expr)
  operand = do
    is_absent ← eat k.When
    if is_absent then give None else (do
      value ← expr
      expect k.When
      give (Some value))

  -- [ELSE expr] END
  unfoldable pub otherwise : Reader (Option Expr)
  otherwise = do
    is_given ← eat k.Else
    if is_given then (do value ← expr; expect k.End; give (Some value)) else expect k.End >> give None

  -- behind CASE: [expr] WHEN expr THEN expr {WHEN expr THEN expr} [ELSE expr] END
  unfoldable pub case : Reader Expr
  case = do
    value ← operand
    chosen ← whens
    other ← otherwise
    give (e.Case value chosen other)

  -- behind CAST: ( expr AS type )
  unfoldable pub cast : Reader Expr
  cast = do
    expect k.Open
    value ← expr
    expect k.As
    to ← type_name
    expect k.Close
    give (e.Cast value to)

  abbrev pub primary_by : Kind → Reader Expr
  primary_by k.Number = literal
  primary_by k.Text = literal
  primary_by k.Date = pass >> date
  primary_by k.True = pass >> give (e.Literal (l.Bool true))
  primary_by k.False = pass >> give (e.Literal (l.Bool false))
  primary_by k.Null = pass >> give (e.Literal l.Null)
  primary_by k.Open = pass >> bracketed
  primary_by k.Case = pass >> case
  primary_by k.Cast = pass >> cast
  primary_by k.If = keyword_call
  primary_by k.Array = keyword_call
  primary_by kind = if is_name kind then named else refuse

  -- number | string | DATE string | TRUE | FALSE | NULL | ident [. ident] | ( expr )
  -- | CASE .. END | CAST ( .. ) | COUNT ( * ) | fname ( [DISTINCT] [expr {, expr}] )
  unfoldable pub primary : Reader Expr
  primary = peek >>= primary_by

  -- behind `[`: expr ]
  unfoldable pub element : Expr → Reader Expr
  element array = do
    index ← expr
    expect k.CloseIndex
    give (e.Binary binary.Element array index)

  -- prim ["[" expr "]"]
  unfoldable pub indexed : Reader Expr
  indexed = do
    first ← primary
    is_indexed ← eat k.OpenIndex
    if is_indexed then element first else give first

  -- [+ | -] post
  unfoldable pub signed : Reader Expr
  signed = do
    kind ← peek
    by_option (sign kind) indexed (λ operator. pass >> e.Unary operator <$> indexed)

  -- unary [IS [NOT] NULL]
  unfoldable pub suffixed : Reader Expr
  suffixed = do
    value ← signed
    is_test ← eat k.Is
    if is_test then null_test value else give value

  -- behind an operand: {(* | DIV | %) suffix}
  unfoldable pub factors : Reader (List (Operation Expr))
  factors = operations multiplicative suffixed

  -- suffix {(* | DIV | %) suffix}
  unfoldable pub term : Reader Expr
  term = do
    first ← suffixed
    kind ← peek
    by_option (multiplicative kind) (give first) (λ _. e.Chain first <$> factors)

  -- behind an operand: {(+ | -) term}
  unfoldable pub summands : Reader (List (Operation Expr))
  summands = operations additive term

  -- term {(+ | -) term}
  unfoldable pub sum : Reader Expr
  sum = do
    first ← term
    kind ← peek
    by_option (additive kind) (give first) (λ _. e.Chain first <$> summands)

  -- behind [NOT] LIKE: sum
  unfoldable pub like : Expr → Bool → Reader Expr
  like value negated =
      e.Binary (if negated then binary.NotLike else binary.Like) value <$> sum

  -- behind [NOT] BETWEEN: sum AND sum
  unfoldable pub between : Expr → Bool → Reader Expr
  between value negated = do
    low ← sum
    expect k.And
    high ← sum
    give (e.Between value negated low high)

  -- behind [NOT] IN: ( expr {, expr} )
  unfoldable pub among : Expr → Bool → Reader Expr
  among value negated = do
    expect k.Open
    found ← list
    expect k.Close
    give (e.In value negated found)

  abbrev pub match_by : Expr → Bool → Kind → Reader Expr
  match_by value negated k.Like = pass >> like value negated
  match_by value negated k.Between = pass >> between value negated
  match_by value negated k.In = pass >> among value negated
  match_by value negated _ = refuse

  -- behind [NOT]: LIKE sum | BETWEEN sum AND sum | IN ( expr {, expr} )
  unfoldable pub matched : Expr → Bool → Reader Expr
  matched value negated = peek >>= match_by value negated

  -- behind cmp: sum
  unfoldable pub compared : Expr → Binary → Reader Expr
  compared value operator = e.Binary operator value <$> sum

  abbrev pub tested_by : Expr → Kind → Reader Expr
  tested_by value k.Not = pass >> matched value true
  tested_by value k.Like = matched value false
  tested_by value k.Between = matched value false
  tested_by value k.In = matched value false
  tested_by value kind = by_option (comparison kind) (give value) (λ operator. pass >> compared value operator)

  -- behind sum: [cmp sum | [NOT] LIKE sum | [NOT] BETWEEN sum AND sum | [NOT] IN ( expr {, expr} )]
  unfoldable pub tested : Expr → Reader Expr
  tested value = peek >>= tested_by value

  -- sum [cmp sum | [NOT] LIKE sum | [NOT] BETWEEN sum AND sum | [NOT] IN ( expr {, expr} )]
  unfoldable pub predicate : Reader Expr
  predicate = sum >>= tested

  -- [NOT] test
  unfoldable pub negation : Reader Expr
  negation = do
    is_negated ← eat k.Not
    if is_negated then e.Unary unary.Not <$> predicate else predicate

  -- the first operand and those behind: {AND not}
  unfoldable pub conjuncts : Expr → Reader (List Expr)
  conjuncts first = behind k.And negation (first ∷ [])

  -- not {AND not}
  unfoldable pub conjunction : Reader Expr
  conjunction = do
    first ← negation
    goes_on ← look k.And
    if goes_on then e.And <$> conjuncts first else give first

  -- the first operand and those behind: {OR and}
  unfoldable pub disjuncts : Expr → Reader (List Expr)
  disjuncts first = behind k.Or conjunction (first ∷ [])

  -- and {OR and}
  unfoldable pub disjunction : Reader Expr
  disjunction = do
    first ← conjunction
    goes_on ← look k.Or
    if goes_on then e.Or <$> disjuncts first else give first

-- an expression that nests less deep than this
unfoldable pub expr : ℕ → Reader Expr
expr zero = refuse
expr (suc depth) = disjunction (expr depth)

-- an expression, however deep a text may nest
abbrev pub any_expr : Reader Expr
any_expr = expr (suc most_levels)

-- ---- the expression at a place

abbrev pub at_end : ℕ → Expr → Reader Expr
at_end zero found = give found
at_end (suc level) found = refuse

-- an expression whose next token can't continue one
unfoldable pub whole : Reader Expr
whole = do
  found ← any_expr
  kind ← peek
  at_end (binds kind) found

pub data Answer : Type 0 where
  found : Expr → ℕ → Answer
  nesting : ℕ → Answer
  syntax : Answer

-- The place of the first token behind the expression, by how many tokens are left of so many.
abbrev pub answer_of : ℕ → Outcome Expr → Answer
answer_of all (Some p) = found p.0 (all - length p.1)
answer_of all None = syntax

abbrev pub answer_by : Option ℕ → Answer → Answer
answer_by (Some at) other = nesting at
answer_by None other = other

-- what stands at a place: an expression with the place behind it, a token too deep, or neither
unfoldable pub expression_at : List Token → ℕ → Answer
expression_at tokens from =
    answer_by (too_deep most_levels (drop from tokens))
    (answer_of (length tokens) (whole (drop from tokens)))
