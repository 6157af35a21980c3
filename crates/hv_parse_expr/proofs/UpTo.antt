-- Rules that hold an expression up to a word or a bracket, by the reader of both.
use Rattle.std.proofs.Common.{◌≡◌, Bool, true, false, cond, List, Option, Some, None, refl}
use Rattle.hv_ast.specs.declared.token.Token.{Token}
use Rattle.hv_ast.specs.declared.expr.Binary.TheVariants as binary
use Rattle.hv_ast.specs.declared.expr.When.{When}
use Rattle.hv_ast.specs.declared.expr.Expr.{Expr}
use Rattle.hv_ast.specs.declared.expr.Expr.TheVariants as tree
use Rattle.hv_grammar.specs.declared.kind.Kind.{Kind}
use Rattle.hv_grammar.specs.declared.kind.Kind.TheVariants as k
use Rattle.hv_grammar.specs.Readers.{Outcome, Reader, and_then, ◌>>=◌, ◌>>◌, give, expect, sees, after}
use Rattle.hv_grammar.specs.Reading.{type_name, bracketed, when, operand, otherwise, cast, element}
use Rattle.hv_parse_expr.specs.UpTo.{up_to}

-- the token behind it is passed, and then more is read
pub token_passed : {A B : Type 0} (a : A) (next : A → Reader B) (passed : Outcome (Unit {0}))
    → and_then passed (λ _. next a) ≡ and_then (and_then passed (λ _. give a)) next
token_passed a next None = refl
token_passed a next (Some p) = refl

pub then_more : {A B : Type 0} (kind : Kind) (next : A → Reader B) (read : Outcome A)
    → and_then read (λ a. expect kind >> next a) ≡ and_then (and_then read (λ a. expect kind >> give a)) next
then_more kind next None = refl
then_more kind next (Some p) = token_passed p.0 next (expect kind p.1)

-- ---- what comes behind each

abbrev pub when_of : Expr → Expr → When Expr
when_of condition value = record { condition = condition; value = value }

abbrev pub behind_then : Reader Expr → Expr → Reader (When Expr)
behind_then part condition = part >>= (λ value. give (when_of condition value))

abbrev pub behind_index : Expr → Expr → Reader Expr
behind_index array index = give (tree.Binary binary.Element array index)

abbrev pub some_of : Expr → Reader (Option Expr)
some_of value = give (Some value)

abbrev pub absent : Reader (Option Expr)
absent = give None

abbrev pub ended : Reader (Option Expr)
ended = expect k.End >> absent

abbrev pub behind_as : Expr → Reader Expr
behind_as value = type_name >>= (λ to. expect k.Close >> give (tree.Cast value to))

-- ---- the rules

pub bracketed_is : (part : Reader Expr) (tokens : List Token) → bracketed part tokens ≡ up_to k.Close part tokens
unfolding bracketed up_to
bracketed_is part tokens = refl

pub element_is : (part : Reader Expr) (array : Expr) (tokens : List Token)
    → element part array tokens ≡ and_then (up_to k.CloseIndex part tokens) (behind_index array)
unfolding element up_to
element_is part array tokens = then_more k.CloseIndex (behind_index array) (part tokens)

pub when_is : (part : Reader Expr) (tokens : List Token)
    → when part tokens ≡ and_then (up_to k.Then part tokens) (behind_then part)
unfolding when up_to
when_is part tokens = then_more k.Then (behind_then part) (part tokens)

operand_by : (part : Reader Expr) (seen : Bool) (rest : List Token)
    → cond seen absent (part >>= (λ value. expect k.When >> some_of value)) rest ≡ cond seen absent (up_to k.When part >>= some_of) rest
unfolding up_to
operand_by part true rest = refl
operand_by part false rest = then_more k.When some_of (part rest)

pub operand_is : (part : Reader Expr) (tokens : List Token)
    → operand part tokens ≡ cond (sees k.When tokens) absent (up_to k.When part >>= some_of) (after k.When tokens)
unfolding operand
operand_is part tokens = operand_by part (sees k.When tokens) (after k.When tokens)

otherwise_by : (part : Reader Expr) (seen : Bool) (rest : List Token)
    → cond seen (part >>= (λ value. expect k.End >> some_of value)) ended rest ≡ cond seen (up_to k.End part >>= some_of) ended rest
unfolding up_to
otherwise_by part true rest = then_more k.End some_of (part rest)
otherwise_by part false rest = refl

pub otherwise_is : (part : Reader Expr) (tokens : List Token)
    → otherwise part tokens ≡ cond (sees k.Else tokens) (up_to k.End part >>= some_of) ended (after k.Else tokens)
unfolding otherwise
otherwise_is part tokens = otherwise_by part (sees k.Else tokens) (after k.Else tokens)

cast_by : (part : Reader Expr) (opened : Outcome (Unit {0}))
    → and_then opened (λ _. part >>= (λ value. expect k.As >> behind_as value)) ≡ and_then opened (λ _. up_to k.As part >>= behind_as)
unfolding up_to
cast_by part None = refl
cast_by part (Some p) = then_more k.As behind_as (part p.1)

pub cast_is : (part : Reader Expr) (tokens : List Token)
    → cast part tokens
    ≡ and_then (expect k.Open tokens) (λ _. up_to k.As part >>= behind_as)
unfolding cast
cast_is part tokens = cast_by part (expect k.Open tokens)
