-- The grammar of queries. Source: Hive Language Manual, Select, Joins, Lateral View, Union,
-- Sort By. Which words are reserved, that a subquery has an alias, and that one ON stands at most
-- behind a join are this project's profile.
use Rattle.std.specs.Prelude.{ℕ, zero, suc, Bool, List, [], Option, Some, None}
use Rattle.hv_ast.specs.declared.expr.Expr.{Expr}
use Rattle.hv_ast.specs.declared.query.Key.{Key}
use Rattle.hv_ast.specs.declared.query.Item.{Item}
use Rattle.hv_ast.specs.declared.query.Item.TheVariants as i
use Rattle.hv_ast.specs.declared.query.JoinKind.{JoinKind}
use Rattle.hv_ast.specs.declared.query.JoinKind.TheVariants as j
use Rattle.hv_ast.specs.declared.query.Explode.TheVariants as x
use Rattle.hv_ast.specs.declared.query.Lateral.{Lateral}
use Rattle.hv_ast.specs.declared.query.Source.{Source}
use Rattle.hv_ast.specs.declared.query.Source.TheVariants as s
use Rattle.hv_ast.specs.declared.query.Join.{Join}
use Rattle.hv_ast.specs.declared.query.From.{From}
use Rattle.hv_ast.specs.declared.query.Select.{Select}
use Rattle.hv_ast.specs.declared.query.Union.{Union}
use Rattle.hv_ast.specs.declared.query.Query.{Query}
use Rattle.hv_ast.specs.Tokens.{Text}
use Rattle.hv_grammar.specs.declared.kind.Kind.TheVariants as k
use Rattle.hv_grammar.specs.Choices.{number_in}
use Rattle.hv_grammar.specs.Rules.{Rule, ◌>>=◌, ◌>>◌, ◌<|>◌, give, held, word, flag, many, rows, separated, perhaps, either, bracketed}
use Rattle.hv_grammar.specs.Grammar.{name, list}

-- ---- tables, aliases and numbers

-- name = [DEFAULT .] ident
unfoldable pub table_name : Rule Text
table_name = (do word k.Default; word k.Dot; name) <|> name

-- [AS] ident
unfoldable pub alias : Rule Text
alias = flag k.As >> name

-- [[AS] ident]
unfoldable pub optional_alias : Rule (Option Text)
optional_alias = (do text ← alias; give (Some text)) <|> give None

-- number
abbrev pub number : Rule ℕ
number = held (λ token. number_in token.what)

-- Over expressions.
module _ (expr : Rule Expr) where
  -- key = expr [ASC | DESC]
  unfoldable pub key : Rule Key
  key = do
    value ← expr
    descending ← either k.Desc k.Asc
    give (record { expr = value; descending = descending })

  -- key {, key}
  unfoldable pub keys : Rule (List Key)
  keys = separated k.Comma key

  -- [ORDER BY key {, key}]
  unfoldable pub order : Rule (List Key)
  order = (do word k.Order; word k.By; keys) <|> give []

  -- ident . *
  unfoldable pub all_of : Rule Item
  all_of = do
    table ← name
    word k.Dot
    word k.Star
    give (i.AllOf table)

  -- expr [[AS] ident]
  unfoldable pub one : Rule Item
  one = do
    value ← expr
    alias ← optional_alias
    give (i.One value alias)

  -- item = * | ident . * | expr [[AS] ident]
  unfoldable pub item : Rule Item
  item = (word k.Star >> give i.All) <|> all_of <|> one

  -- item {, item}
  unfoldable pub items : Rule (List Item)
  items = separated k.Comma item

  -- behind EXPLODE: ( expr ) ident [AS ident]
  unfoldable pub elements : Bool → Rule Lateral
  elements outer = do
    array ← bracketed expr
    alias ← name
    column ← perhaps k.As name
    give (record { outer = outer; array = array; alias = alias; explode = x.Elements column })

  -- behind POSEXPLODE: ( expr ) ident AS ident , ident
  unfoldable pub positions : Bool → Rule Lateral
  positions outer = do
    array ← bracketed expr
    alias ← name
    word k.As
    position ← name
    word k.Comma
    element ← name
    give (record { outer = outer; array = array; alias = alias; explode = x.Positions position element })

  -- lateral = LATERAL VIEW [OUTER] EXPLODE ( expr ) ident [AS ident]
  --         | LATERAL VIEW [OUTER] POSEXPLODE ( expr ) ident AS ident , ident
  unfoldable pub lateral : Rule Lateral
  lateral = do
    word k.View
    outer ← flag k.Outer
    (word k.Explode >> elements outer) <|> (word k.PosExplode >> positions outer)

  -- [GROUP BY expr {, expr}]
  unfoldable pub group : Rule (List Expr)
  group = (do word k.Group; word k.By; list expr) <|> give []

  -- Over the queries that stand between brackets.
  module _ (query : Rule (Query Source)) where
    -- name [[AS] ident]
    unfoldable pub table : Rule Source
    table = do
      name ← table_name
      alias ← optional_alias
      give (s.Table name alias)

    -- ( query ) [AS] ident
    unfoldable pub subquery : Rule Source
    subquery = do
      inner ← bracketed query
      alias ← alias
      give (s.Query inner alias)

    -- source = name [[AS] ident] | ( query ) [AS] ident
    unfoldable pub source : Rule Source
    source = subquery <|> table

    -- source ON expr
    unfoldable pub joined_on : JoinKind → Rule (Join Source)
    joined_on kind = do
      right ← source
      word k.On
      condition ← expr
      give (record { kind = kind; source = right; on = Some condition })

    -- [OUTER] JOIN source ON expr
    unfoldable pub outer_join : JoinKind → Rule (Join Source)
    outer_join kind = do
      flag k.Outer
      word k.Join
      joined_on kind

    -- behind LEFT: SEMI JOIN source ON expr | [OUTER] JOIN source ON expr
    unfoldable pub left_join : Rule (Join Source)
    left_join = (do word k.Semi; word k.Join; joined_on j.LeftSemi) <|> outer_join j.Left

    -- behind JOIN: source [ON expr]
    unfoldable pub inner_join : Rule (Join Source)
    inner_join = do
      right ← source
      condition ← perhaps k.On expr
      give (record { kind = j.Inner; source = right; on = condition })

    -- behind a comma or CROSS JOIN: source
    unfoldable pub cross_join : Rule (Join Source)
    cross_join = do
      right ← source
      give (record { kind = j.Cross; source = right; on = None })

    -- , source
    -- join = [INNER] JOIN source [ON expr] | CROSS JOIN source
    --      | (LEFT | RIGHT | FULL) [OUTER] JOIN source ON expr | LEFT SEMI JOIN source ON expr
    unfoldable pub join : Rule (Join Source)
    join =
        (word k.Comma >> cross_join)
        <|> (do word k.Cross; word k.Join; cross_join)
        <|> (word k.Join >> inner_join)
        <|> (do word k.Inner; word k.Join; inner_join)
        <|> (word k.Left >> left_join)
        <|> (word k.Right >> outer_join j.Right)
        <|> (word k.Full >> outer_join j.Full)

    -- from {lateral}, where from = source {, source | join}
    unfoldable pub from : Rule (From Source)
    from = do
      first ← source
      joins ← many join
      laterals ← rows k.Lateral lateral
      give (record { source = first; joins = joins; laterals = laterals })

    -- select = SELECT [ALL | DISTINCT] item {, item} [FROM from {lateral}] [WHERE expr]
    --          [GROUP BY expr {, expr}] [HAVING expr]
    unfoldable pub select : Rule (Select Source)
    select = do
      word k.Select
      distinct ← either k.Distinct k.All
      items ← items
      from ← perhaps k.From from
      filter ← perhaps k.Where expr
      group ← group
      having ← perhaps k.Having expr
      give (record { distinct = distinct; items = items; from = from; filter = filter; group = group; having = having })

    -- behind UNION: [ALL | DISTINCT] select
    unfoldable pub union : Rule (Union Source)
    union = do
      all ← either k.All k.Distinct
      select ← select
      give (record { all = all; select = select })

    -- query = select {UNION [ALL | DISTINCT] select} [ORDER BY key {, key}] [LIMIT number]
    unfoldable pub query_over : Rule (Query Source)
    query_over = do
      first ← select
      unions ← rows k.Union union
      order ← order
      limit ← perhaps k.Limit number
      give (record { select = first; unions = unions; order = order; limit = limit })

-- a query whose subqueries nest fewer levels than this, over these expressions
unfoldable pub query : Rule Expr → ℕ → Rule (Query Source)
query expr zero = λ tree from to. ⊥
query expr (suc depth) = query_over expr (query expr depth)
