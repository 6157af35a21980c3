-- Texts with their trees, worked out by hand from the grammar.
use Rattle.std.specs.Prelude.{◌≡◌, ℕ, true, false, List, [], ◌∷◌, map, Some, None, Ok, Err, codes, pos}
use Rattle.hv_ast.specs.declared.types.ScalarName.TheVariants as s
use Rattle.hv_ast.specs.declared.types.TypeName.TheVariants.{Scalar, Array}
use Rattle.hv_ast.specs.declared.expr.Literal.TheVariants as l
use Rattle.hv_ast.specs.declared.expr.Unary.TheVariants as unary
use Rattle.hv_ast.specs.declared.expr.Binary.TheVariants as binary
use Rattle.hv_ast.specs.declared.expr.Arithmetic.{Arithmetic}
use Rattle.hv_ast.specs.declared.expr.Arithmetic.TheVariants as arithmetic
use Rattle.hv_ast.specs.declared.expr.Operation.{Operation}
use Rattle.hv_ast.specs.declared.expr.When.{When}
use Rattle.hv_ast.specs.declared.expr.Expr.{Expr}
use Rattle.hv_ast.specs.declared.expr.Expr.TheVariants as e
use Rattle.hv_ast.specs.Tokens.{Text, Tokens, tokens_of}
use Rattle.hv_grammar.specs.Reading.{Answer, found, syntax, expression_at}

-- ---- trees, in short

abbrev pub a : Expr
a = e.Column None (codes "a")

abbrev pub b : Expr
b = e.Column None (codes "b")

abbrev pub c : Expr
c = e.Column None (codes "c")

abbrev pub d : Expr
d = e.Column None (codes "d")

abbrev pub number : ℕ → Expr
number n = e.Literal (l.Int (pos n))

abbrev pub string : Text → Expr
string text = e.Literal (l.Str text)

abbrev pub operation : Arithmetic → Expr → Operation Expr
operation operator operand = record { operator = operator; operand = operand }

abbrev pub arm : Expr → Expr → When Expr
arm condition value = record { condition = condition; value = value }

-- ---- what a text is

abbrev pub answer_in : Tokens → Answer
answer_in (Ok tokens) = expression_at tokens 0
answer_in (Err fault) = syntax

-- the expression at the beginning of a text, with the place of the token behind it
unfoldable pub expression_in : Text → Answer
expression_in text = answer_in (tokens_of text)

abbrev pub AreRead : List (Text × Answer) → Type 0
AreRead rows = map (λ row. expression_in row.0) rows ≡ map (λ row. row.1) rows

-- each neighbouring pair of levels
unfoldable pub levels : List (Text × Answer)
levels =
    (codes "a OR b AND c", found (e.Or (a ∷ e.And (b ∷ c ∷ []) ∷ [])) 5)
    ∷ (codes "a AND b OR c", found (e.Or (e.And (a ∷ b ∷ []) ∷ c ∷ [])) 5)
    ∷ (codes "NOT a AND b", found (e.And (e.Unary unary.Not a ∷ b ∷ [])) 4)
    ∷ (codes "a AND NOT b", found (e.And (a ∷ e.Unary unary.Not b ∷ [])) 4)
    ∷ (codes "NOT a = b", found (e.Unary unary.Not (e.Binary binary.Equal a b)) 4)
    ∷ (
      codes "a + b = c - d",
      found (e.Binary binary.Equal (e.Chain a (operation arithmetic.Add b ∷ []))
          (e.Chain c (operation arithmetic.Subtract d ∷ []))) 7,
    )
    ∷ (
      codes "a + b * c",
      found (e.Chain a (operation arithmetic.Add (e.Chain b (operation arithmetic.Multiply c ∷ [])) ∷ [])) 5,
    )
    ∷ (
      codes "a * b + c",
      found (e.Chain (e.Chain a (operation arithmetic.Multiply b ∷ [])) (operation arithmetic.Add c ∷ [])) 5,
    )
    ∷ (
      codes "a * b IS NULL",
      found (e.Chain a (operation arithmetic.Multiply (e.Unary unary.IsNull b) ∷ [])) 5,
    )
    ∷ (codes "- a IS NOT NULL", found (e.Unary unary.IsNotNull (e.Unary unary.Minus a)) 5)
    ∷ (codes "- a[1]", found (e.Unary unary.Minus (e.Binary binary.Element a (number 1))) 5)
    ∷ (codes "(a OR b) AND c", found (e.And (e.Or (a ∷ b ∷ []) ∷ c ∷ [])) 7)
    ∷ []

-- a chain is one node, read from the left
unfoldable pub chains : List (Text × Answer)
chains =
    (codes "a OR b OR c", found (e.Or (a ∷ b ∷ c ∷ [])) 5)
    ∷ (codes "a AND b AND c", found (e.And (a ∷ b ∷ c ∷ [])) 5)
    ∷ (
      codes "a - b + c",
      found (e.Chain a (operation arithmetic.Subtract b ∷ operation arithmetic.Add c ∷ [])) 5,
    )
    ∷ (
      codes "a % b DIV c * d",
      found (e.Chain a (operation arithmetic.Remainder b ∷ operation arithmetic.Divide c
          ∷ operation arithmetic.Multiply d ∷ [])) 7,
    )
    ∷ (codes "(a OR b) OR c", found (e.Or (e.Or (a ∷ b ∷ []) ∷ c ∷ [])) 7)
    ∷ (
      codes "a - (b - c)",
      found (e.Chain a (operation arithmetic.Subtract (e.Chain b (operation arithmetic.Subtract c ∷ [])) ∷ [])) 7,
    )
    ∷ []

-- comparisons and what NOT may stand in
unfoldable pub tests : List (Text × Answer)
tests =
    (codes "a = b", found (e.Binary binary.Equal a b) 3)
    ∷ (codes "a == b", found (e.Binary binary.Equal a b) 3)
    ∷ (codes "a <> b", found (e.Binary binary.Unequal a b) 3)
    ∷ (codes "a != b", found (e.Binary binary.Unequal a b) 3)
    ∷ (codes "a < b", found (e.Binary binary.Less a b) 3)
    ∷ (codes "a <= b", found (e.Binary binary.AtMost a b) 3)
    ∷ (codes "a > b", found (e.Binary binary.Greater a b) 3)
    ∷ (codes "a >= b", found (e.Binary binary.AtLeast a b) 3)
    ∷ (codes "a <=> b", found (e.Binary binary.NullSafeEqual a b) 3)
    ∷ (codes "a LIKE 'x%'", found (e.Binary binary.Like a (string (codes "x%"))) 3)
    ∷ (codes "a NOT LIKE b", found (e.Binary binary.NotLike a b) 4)
    ∷ (codes "a BETWEEN b AND c", found (e.Between a false b c) 5)
    ∷ (codes "a NOT BETWEEN b AND c AND d", found (e.And (e.Between a true b c ∷ d ∷ [])) 8)
    ∷ (codes "a IN (1, 2)", found (e.In a false (number 1 ∷ number 2 ∷ [])) 7)
    ∷ (codes "a NOT IN (b OR c)", found (e.In a true (e.Or (b ∷ c ∷ []) ∷ [])) 8)
    ∷ (codes "NOT a NOT IN (b)", found (e.Unary unary.Not (e.In a true (b ∷ []))) 7)
    ∷ []

-- literals, names, calls, CASE, CAST
unfoldable pub forms : List (Text × Answer)
forms =
    (codes "7", found (number 7) 1)
    ∷ (codes "7L", found (e.Literal (l.Big (pos 7))) 1)
    ∷ (codes "'x'", found (string (codes "x")) 1)
    ∷ (codes "DATE '2020-02-30'", found (e.Literal (l.Date (codes "2020-02-30"))) 2)
    ∷ (codes "TRUE", found (e.Literal (l.Bool true)) 1)
    ∷ (codes "false", found (e.Literal (l.Bool false)) 1)
    ∷ (codes "NULL", found (e.Literal l.Null) 1)
    ∷ (codes "`from`", found (e.Column None (codes "from")) 1)
    ∷ (codes "t.a", found (e.Column (Some (codes "t")) (codes "a")) 3)
    ∷ (codes "count", found (e.Column None (codes "count")) 1)
    ∷ (codes "string", found (e.Column None (codes "string")) 1)
    ∷ (codes "count(*)", found e.CountRows 4)
    ∷ (codes "count(a)", found (e.Call (codes "count") false (a ∷ [])) 4)
    ∷ (codes "count(DISTINCT a, b)", found (e.Call (codes "count") true (a ∷ b ∷ [])) 7)
    ∷ (codes "f()", found (e.Call (codes "f") false []) 3)
    ∷ (codes "f(DISTINCT)", found (e.Call (codes "f") true []) 4)
    ∷ (codes "if(a, 1, 2)", found (e.Call (codes "if") false (a ∷ number 1 ∷ number 2 ∷ [])) 8)
    ∷ (codes "array()[0]", found (e.Binary binary.Element (e.Call (codes "array") false []) (number 0)) 6)
    ∷ (codes "`if`(a)", found (e.Call (codes "if") false (a ∷ [])) 4)
    ∷ (codes "CASE WHEN a THEN b END", found (e.Case None (arm a b ∷ []) None) 6)
    ∷ (
      codes "CASE a WHEN 1 THEN b WHEN 2 THEN c ELSE d END",
      found (e.Case (Some a) (arm (number 1) b ∷ arm (number 2) c ∷ []) (Some d)) 13,
    )
    ∷ (codes "CAST(a AS BOOLEAN)", found (e.Cast a (Scalar s.Boolean)) 6)
    ∷ (codes "CAST(a AS INT)", found (e.Cast a (Scalar s.Int)) 6)
    ∷ (codes "CAST(a AS INTEGER)", found (e.Cast a (Scalar s.Int)) 6)
    ∷ (codes "CAST(a AS BIGINT)", found (e.Cast a (Scalar s.BigInt)) 6)
    ∷ (codes "CAST(a AS STRING)", found (e.Cast a (Scalar s.String)) 6)
    ∷ (codes "CAST(a AS DATE)", found (e.Cast a (Scalar s.Date)) 6)
    ∷ (codes "CAST(a AS ARRAY<INT>)", found (e.Cast a (Array s.Int)) 9)
    ∷ (codes "`case` WHEN a THEN b END", found (e.Column None (codes "case")) 1)
    ∷ (codes "a , b", found a 1)
    ∷ (codes "a AS b", found a 1)
    ∷ []

-- what is left unfinished, and what goes on where it can't
unfoldable pub refused : List (Text × Answer)
refused = map (λ text. (text, syntax)) (
    codes "" ∷ codes "NOT NOT a" ∷ codes "a = b = c" ∷ codes "- - 1" ∷ codes "- + 1"
    ∷ codes "a LIKE b LIKE c" ∷ codes "a IS NULL IS NULL" ∷ codes "a[1][2]" ∷ codes "a IN (1) + 2"
    ∷ codes "a OR" ∷ codes "a AND" ∷ codes "NOT" ∷ codes "a =" ∷ codes "a +" ∷ codes "a *" ∷ codes "-"
    ∷ codes "a NOT" ∷ codes "a NOT b" ∷ codes "a LIKE" ∷ codes "a BETWEEN b" ∷ codes "a BETWEEN b AND"
    ∷ codes "a BETWEEN b OR c" ∷ codes "a IN" ∷ codes "a IN (" ∷ codes "a IN ()" ∷ codes "a IN (1"
    ∷ codes "a IN (1," ∷ codes "a IN (1,)" ∷ codes "a IS" ∷ codes "a IS NOT" ∷ codes "a IS 1"
    ∷ codes "a[" ∷ codes "a[1" ∷ codes "a[]" ∷ codes "t." ∷ codes "t.a.b" ∷ codes "t.from" ∷ codes "("
    ∷ codes "(a" ∷ codes "()" ∷ codes "DATE" ∷ codes "DATE 1" ∷ codes "f(" ∷ codes "f(a" ∷ codes "f(a,)"
    ∷ codes "f(*)" ∷ codes "`count`(*)" ∷ codes "count(*" ∷ codes "count(DISTINCT *)" ∷ codes "t.f(a)"
    ∷ codes "if" ∷ codes "array" ∷ codes "if a" ∷ codes "from" ∷ codes "1 (a)" ∷ codes "CASE"
    ∷ codes "CASE END" ∷ codes "CASE a END" ∷ codes "CASE WHEN a" ∷ codes "CASE WHEN a THEN b"
    ∷ codes "CASE WHEN a THEN b ELSE END" ∷ codes "CASE WHEN a THEN b ELSE c"
    ∷ codes "CAST(a)" ∷ codes "CAST(a AS)" ∷ codes "CAST(a AS INT" ∷ codes "CAST(a AS `int`)"
    ∷ codes "CAST(a AS ARRAY<ARRAY<INT>>)" ∷ codes "CAST(a AS ARRAY)" ∷ codes "CAST a AS INT" ∷ [])
