-- What a token is to the grammar. The keywords are words of the Hive Language Manual; which of them
-- are reserved is this project's profile. An identifier between backquotes is never a keyword.
use Rattle.std.specs.Prelude.{Bool, if◌then◌else◌, List, [], ◌∷◌, ◌++◌, codes}
use Rattle.std.specs.List.{list_any}
use Rattle.std.specs.Str.{bytes_eq}
use denote.Enum.Bare.{sameb}
use Rattle.hv_ast.specs.declared.token.Lexeme.{Lexeme}
use Rattle.hv_ast.specs.declared.token.Lexeme.TheVariants as lexeme
use Rattle.hv_ast.specs.declared.token.Lexeme.TheVariants.{Word, Quoted, Int, Big, Str}
use Rattle.hv_ast.specs.declared.token.Symbol.{Symbol}
use Rattle.hv_ast.specs.declared.token.Symbol.TheVariants as s
use Rattle.hv_ast.specs.Tokens.{Text}
use Rattle.hv_grammar.specs.contracts.kind.Kind.{the_type}
use Rattle.hv_grammar.specs.declared.kind.Kind.{Kind}
use Rattle.hv_grammar.specs.declared.kind.Kind.TheVariants as k

unfoldable pub same_kind : Kind → Kind → Bool
same_kind = sameb the_type

-- the reserved words: those that are no identifiers
unfoldable pub reserved : List (Text × Kind)
reserved =
    (codes "all", k.All)
    ∷ (codes "alter", k.Alter)
    ∷ (codes "and", k.And)
    ∷ (codes "array", k.Array)
    ∷ (codes "as", k.As)
    ∷ (codes "between", k.Between)
    ∷ (codes "bigint", k.BigInt)
    ∷ (codes "boolean", k.Boolean)
    ∷ (codes "by", k.By)
    ∷ (codes "case", k.Case)
    ∷ (codes "cast", k.Cast)
    ∷ (codes "create", k.Create)
    ∷ (codes "cross", k.Cross)
    ∷ (codes "date", k.Date)
    ∷ (codes "delete", k.Delete)
    ∷ (codes "describe", k.Describe)
    ∷ (codes "distinct", k.Distinct)
    ∷ (codes "div", k.Div)
    ∷ (codes "drop", k.Drop)
    ∷ (codes "else", k.Else)
    ∷ (codes "end", k.End)
    ∷ (codes "exists", k.Exists)
    ∷ (codes "false", k.False)
    ∷ (codes "from", k.From)
    ∷ (codes "full", k.Full)
    ∷ (codes "group", k.Group)
    ∷ (codes "having", k.Having)
    ∷ (codes "if", k.If)
    ∷ (codes "in", k.In)
    ∷ (codes "inner", k.Inner)
    ∷ (codes "insert", k.Insert)
    ∷ (codes "int", k.Int)
    ∷ (codes "integer", k.Int)
    ∷ (codes "into", k.Into)
    ∷ (codes "is", k.Is)
    ∷ (codes "join", k.Join)
    ∷ (codes "lateral", k.Lateral)
    ∷ (codes "left", k.Left)
    ∷ (codes "like", k.Like)
    ∷ (codes "limit", k.Limit)
    ∷ (codes "merge", k.Merge)
    ∷ (codes "not", k.Not)
    ∷ (codes "null", k.Null)
    ∷ (codes "on", k.On)
    ∷ (codes "or", k.Or)
    ∷ (codes "order", k.Order)
    ∷ (codes "outer", k.Outer)
    ∷ (codes "overwrite", k.Overwrite)
    ∷ (codes "partition", k.Partition)
    ∷ (codes "right", k.Right)
    ∷ (codes "select", k.Select)
    ∷ (codes "set", k.Set)
    ∷ (codes "table", k.Table)
    ∷ (codes "then", k.Then)
    ∷ (codes "true", k.True)
    ∷ (codes "truncate", k.Truncate)
    ∷ (codes "union", k.Union)
    ∷ (codes "update", k.Update)
    ∷ (codes "using", k.Using)
    ∷ (codes "values", k.Values)
    ∷ (codes "view", k.View)
    ∷ (codes "when", k.When)
    ∷ (codes "where", k.Where) ∷ []

-- the words that are keywords where the grammar names them, and names elsewhere
unfoldable pub placed : List (Text × Kind)
placed =
    (codes "abort", k.Abort)
    ∷ (codes "asc", k.Asc)
    ∷ (codes "buckets", k.Buckets)
    ∷ (codes "clustered", k.Clustered)
    ∷ (codes "comment", k.Comment)
    ∷ (codes "compact", k.Compact)
    ∷ (codes "compactions", k.Compactions)
    ∷ (codes "count", k.Count)
    ∷ (codes "default", k.Default)
    ∷ (codes "desc", k.Desc)
    ∷ (codes "explain", k.Explain)
    ∷ (codes "explode", k.Explode)
    ∷ (codes "formatted", k.Formatted)
    ∷ (codes "locks", k.Locks)
    ∷ (codes "matched", k.Matched)
    ∷ (codes "orc", k.Orc)
    ∷ (codes "partitioned", k.Partitioned)
    ∷ (codes "partitions", k.Partitions)
    ∷ (codes "posexplode", k.PosExplode)
    ∷ (codes "purge", k.Purge)
    ∷ (codes "semi", k.Semi)
    ∷ (codes "show", k.Show)
    ∷ (codes "stored", k.Stored)
    ∷ (codes "string", k.String)
    ∷ (codes "tables", k.Tables)
    ∷ (codes "tblproperties", k.TblProperties)
    ∷ (codes "transactions", k.Transactions) ∷ []

unfoldable pub words : List (Text × Kind)
words = reserved ++ placed

-- the kind of a symbol
unfoldable pub symbol_kind : Symbol → Kind
symbol_kind s.NullSafeEqual = k.NullSafeEqual
symbol_kind s.EqualTwice = k.EqualTwice
symbol_kind s.Unequal = k.Unequal
symbol_kind s.BangEqual = k.Unequal
symbol_kind s.AtMost = k.AtMost
symbol_kind s.AtLeast = k.AtLeast
symbol_kind s.Open = k.Open
symbol_kind s.Close = k.Close
symbol_kind s.OpenIndex = k.OpenIndex
symbol_kind s.CloseIndex = k.CloseIndex
symbol_kind s.Comma = k.Comma
symbol_kind s.Dot = k.Dot
symbol_kind s.Star = k.Star
symbol_kind s.Plus = k.Plus
symbol_kind s.Minus = k.Minus
symbol_kind s.Percent = k.Percent
symbol_kind s.Equal = k.Equal
symbol_kind s.Less = k.Less
symbol_kind s.Greater = k.Greater

-- the kind in the first row of this spelling
abbrev pub look_up : List (Text × Kind) → Kind → Text → Kind
look_up [] other spelling = other
look_up (row ∷ rows) other spelling =
    if bytes_eq row.0 spelling then row.1 else look_up rows other spelling

-- the kind of a word in lower case
abbrev pub word_kind : Text → Kind
word_kind word = look_up words k.Name word

-- a reserved word: no identifier but between backquotes
abbrev pub is_reserved : Text → Bool
is_reserved word = list_any (λ row. bytes_eq row.0 word) reserved

unfoldable pub kind_of : Lexeme → Kind
kind_of (Word word) = word_kind word
kind_of (Quoted name) = k.Name
kind_of (Int number) = k.Number
kind_of (Big number) = k.Number
kind_of (Str text) = k.Text
kind_of (lexeme.Symbol symbol) = symbol_kind symbol
