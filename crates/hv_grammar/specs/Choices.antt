-- What single tokens stand for.
use Rattle.std.specs.Prelude.{ℕ, pos, Bool, true, false, if◌then◌else◌, Option, Some, None, codes}
use Rattle.std.specs.Str.{str_eq_ignore_ascii_case}
use Rattle.hv_ast.specs.declared.token.Lexeme.{Lexeme}
use Rattle.hv_ast.specs.declared.token.Lexeme.TheVariants as lexeme
use Rattle.hv_ast.specs.declared.types.ScalarName.{ScalarName}
use Rattle.hv_ast.specs.declared.types.ScalarName.TheVariants as s
use Rattle.hv_ast.specs.declared.expr.Literal.{Literal}
use Rattle.hv_ast.specs.declared.expr.Literal.TheVariants as l
use Rattle.hv_ast.specs.declared.expr.Unary.{Unary}
use Rattle.hv_ast.specs.declared.expr.Unary.TheVariants as unary
use Rattle.hv_ast.specs.declared.expr.Binary.{Binary}
use Rattle.hv_ast.specs.declared.expr.Binary.TheVariants as binary
use Rattle.hv_ast.specs.declared.expr.Arithmetic.{Arithmetic}
use Rattle.hv_ast.specs.declared.expr.Arithmetic.TheVariants as arithmetic
use Rattle.hv_ast.specs.declared.table.CompactionKind.{CompactionKind}
use Rattle.hv_ast.specs.declared.table.CompactionKind.TheVariants as compaction
use Rattle.hv_ast.specs.Tokens.{Text}
use Rattle.hv_grammar.specs.declared.kind.Kind.{Kind}
use Rattle.hv_grammar.specs.declared.kind.Kind.TheVariants as k

-- a word that is no keyword here, or an identifier between backquotes
abbrev pub is_name : Kind → Bool
is_name k.Name = true
is_name k.Abort = true
is_name k.Asc = true
is_name k.Buckets = true
is_name k.Clustered = true
is_name k.Comment = true
is_name k.Compact = true
is_name k.Compactions = true
is_name k.Count = true
is_name k.Default = true
is_name k.Desc = true
is_name k.Explain = true
is_name k.Explode = true
is_name k.Formatted = true
is_name k.Locks = true
is_name k.Matched = true
is_name k.Orc = true
is_name k.Partitioned = true
is_name k.Partitions = true
is_name k.PosExplode = true
is_name k.Purge = true
is_name k.Semi = true
is_name k.Show = true
is_name k.Stored = true
is_name k.String = true
is_name k.Tables = true
is_name k.TblProperties = true
is_name k.Transactions = true
is_name _ = false

-- a keyword that names a function
abbrev pub is_function_word : Kind → Bool
is_function_word k.If = true
is_function_word k.Array = true
is_function_word _ = false

abbrev pub word_in : Lexeme → Option Text
word_in (lexeme.Word text) = Some text
word_in (lexeme.Quoted text) = Some text
word_in _ = None

abbrev pub string_in : Lexeme → Option Text
string_in (lexeme.Str text) = Some text
string_in _ = None

abbrev pub literal_in : Lexeme → Option Literal
literal_in (lexeme.Int number) = Some (l.Int number)
literal_in (lexeme.Big number) = Some (l.Big number)
literal_in (lexeme.Str text) = Some (l.Str text)
literal_in _ = None

-- a number from 0
abbrev pub number_in : Lexeme → Option ℕ
number_in (lexeme.Int (pos number)) = Some number
number_in (lexeme.Big (pos number)) = Some number
number_in _ = None

-- 'minor' or 'major', in any case
abbrev pub compaction_in : Lexeme → Option CompactionKind
compaction_in (lexeme.Str text) =
    if str_eq_ignore_ascii_case text (codes "minor") then Some compaction.Minor
    else (if str_eq_ignore_ascii_case text (codes "major") then Some compaction.Major else None)
compaction_in _ = None

-- = | == | <> | != | < | <= | > | >= | <=>
abbrev pub comparison : Kind → Option Binary
comparison k.Equal = Some binary.Equal
comparison k.EqualTwice = Some binary.Equal
comparison k.Unequal = Some binary.Unequal
comparison k.Less = Some binary.Less
comparison k.AtMost = Some binary.AtMost
comparison k.Greater = Some binary.Greater
comparison k.AtLeast = Some binary.AtLeast
comparison k.NullSafeEqual = Some binary.NullSafeEqual
comparison _ = None

-- + | -
abbrev pub additive : Kind → Option Arithmetic
additive k.Plus = Some arithmetic.Add
additive k.Minus = Some arithmetic.Subtract
additive _ = None

-- * | DIV | %
abbrev pub multiplicative : Kind → Option Arithmetic
multiplicative k.Star = Some arithmetic.Multiply
multiplicative k.Div = Some arithmetic.Divide
multiplicative k.Percent = Some arithmetic.Remainder
multiplicative _ = None

-- [+ | -]
abbrev pub sign : Kind → Option Unary
sign k.Plus = Some unary.Plus
sign k.Minus = Some unary.Minus
sign _ = None

-- BOOLEAN | INT | INTEGER | BIGINT | STRING | DATE
abbrev pub scalar_at : Kind → Option ScalarName
scalar_at k.Boolean = Some s.Boolean
scalar_at k.Int = Some s.Int
scalar_at k.BigInt = Some s.BigInt
scalar_at k.String = Some s.String
scalar_at k.Date = Some s.Date
scalar_at _ = None

-- [AS] ident
abbrev pub begins_alias : Kind → Bool
begins_alias k.As = true
begins_alias kind = is_name kind

-- the first words of a join
abbrev pub begins_join : Kind → Bool
begins_join k.Comma = true
begins_join k.Join = true
begins_join k.Inner = true
begins_join k.Cross = true
begins_join k.Left = true
begins_join k.Right = true
begins_join k.Full = true
begins_join _ = false

abbrev pub is_number : Kind → Bool
is_number k.Number = true
is_number _ = false

-- how tightly a token binds to an expression before it
abbrev pub binds : Kind → ℕ
binds k.Or = 1
binds k.And = 2
binds k.Not = 3
binds k.In = 3
binds k.Between = 3
binds k.Like = 3
binds k.Equal = 3
binds k.EqualTwice = 3
binds k.Unequal = 3
binds k.Less = 3
binds k.AtMost = 3
binds k.Greater = 3
binds k.AtLeast = 3
binds k.NullSafeEqual = 3
binds k.Plus = 4
binds k.Minus = 4
binds k.Star = 5
binds k.Div = 5
binds k.Percent = 5
binds k.Is = 6
binds k.Open = 8
binds k.Dot = 8
binds k.OpenIndex = 7
binds _ = 0
