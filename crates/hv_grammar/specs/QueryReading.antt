-- Queries as they are read from the left. QueryGrammar has the rules that these readers follow.
use Rattle.std.specs.Prelude.{ℕ, zero, suc, Bool, ◌&&◌, if◌then◌else◌, List, [], Option, Some, None}
use Rattle.hv_ast.specs.declared.token.Token.{Token}
use Rattle.hv_ast.specs.declared.expr.Expr.{Expr}
use Rattle.hv_ast.specs.declared.query.Key.{Key}
use Rattle.hv_ast.specs.declared.query.Item.{Item}
use Rattle.hv_ast.specs.declared.query.Item.TheVariants as i
use Rattle.hv_ast.specs.declared.query.JoinKind.{JoinKind}
use Rattle.hv_ast.specs.declared.query.JoinKind.TheVariants as j
use Rattle.hv_ast.specs.declared.query.Explode.TheVariants as x
use Rattle.hv_ast.specs.declared.query.Lateral.{Lateral}
use Rattle.hv_ast.specs.declared.query.Source.{Source}
use Rattle.hv_ast.specs.declared.query.Source.TheVariants as s
use Rattle.hv_ast.specs.declared.query.Join.{Join}
use Rattle.hv_ast.specs.declared.query.From.{From}
use Rattle.hv_ast.specs.declared.query.Select.{Select}
use Rattle.hv_ast.specs.declared.query.Union.{Union}
use Rattle.hv_ast.specs.declared.query.Query.{Query}
use Rattle.hv_ast.specs.Tokens.{Text}
use Rattle.hv_grammar.specs.declared.kind.Kind.{Kind}
use Rattle.hv_grammar.specs.declared.kind.Kind.TheVariants as k
use Rattle.hv_grammar.specs.Kinds.{same_kind}
use Rattle.hv_grammar.specs.Nesting.{most_levels}
use Rattle.hv_grammar.specs.Choices.{is_name, number_in, begins_alias, begins_join}
use Rattle.hv_grammar.specs.Readers.{Reader, ◌>>=◌, ◌>>◌, ◌<$>◌, give, refuse, kind_at, next, sees, peek, pass, eat, expect, held, behind, many, separated, perhaps, either, bracketed}
use Rattle.hv_grammar.specs.Reading.{name, list, any_expr}

-- ---- tables, aliases and numbers

-- [DEFAULT .] ident
unfoldable pub table_name : Reader Text
table_name = do
  kind ← peek
  first ← name
  is_qualified ← eat k.Dot
  if is_qualified then (if same_kind kind k.Default then name else refuse) else give first

-- [AS] ident
unfoldable pub alias : Reader Text
alias = eat k.As >> name

-- [[AS] ident]
unfoldable pub optional_alias : Reader (Option Text)
optional_alias = do
  kind ← peek
  if begins_alias kind then Some <$> alias else give None

unfoldable pub number : Reader ℕ
number = held (λ token. number_in token.what)

-- whether `ident . *` comes next
unfoldable pub sees_all_of : List Token → Bool
sees_all_of tokens = is_name (kind_at tokens) && sees k.Dot (next tokens) && sees k.Star (next (next tokens))

abbrev pub look_all_of : Reader Bool
look_all_of = λ tokens. Some (sees_all_of tokens, tokens)

-- ident . *
unfoldable pub all_of : Reader Item
all_of = do
  table ← name
  expect k.Dot
  expect k.Star
  give (i.AllOf table)

module _ (expr : Reader Expr) where
  -- expr [ASC | DESC]
  unfoldable pub key : Reader Key
  key = do
    value ← expr
    descending ← either k.Desc k.Asc
    give (record { expr = value; descending = descending })

  -- key {, key}
  unfoldable pub keys : Reader (List Key)
  keys = separated k.Comma key

  -- [ORDER BY key {, key}]
  unfoldable pub order : Reader (List Key)
  order = do
    is_ordered ← eat k.Order
    if is_ordered then expect k.By >> keys else give []

  -- expr [[AS] ident]
  unfoldable pub one : Reader Item
  one = do
    value ← expr
    alias ← optional_alias
    give (i.One value alias)

  -- what is no `*`: ident . * | expr [[AS] ident]
  unfoldable pub some_item : Reader Item
  some_item = do
    is_all_of ← look_all_of
    if is_all_of then all_of else one

  -- * | ident . * | expr [[AS] ident]
  unfoldable pub item : Reader Item
  item = do
    is_all ← eat k.Star
    if is_all then give i.All else some_item

  -- item {, item}
  unfoldable pub items : Reader (List Item)
  items = separated k.Comma item

  -- ( expr )
  unfoldable pub exploded : Reader Expr
  exploded = bracketed expr

  -- behind EXPLODE: ( expr ) ident [AS ident]
  unfoldable pub elements : Bool → Reader Lateral
  elements outer = do
    array ← exploded
    alias ← name
    column ← perhaps k.As name
    give (record { outer = outer; array = array; alias = alias; explode = x.Elements column })

  -- behind POSEXPLODE: ( expr ) ident AS ident , ident
  unfoldable pub positions : Bool → Reader Lateral
  positions outer = do
    array ← exploded
    alias ← name
    expect k.As
    position ← name
    expect k.Comma
    element ← name
    give (record { outer = outer; array = array; alias = alias; explode = x.Positions position element })

  -- behind LATERAL: VIEW [OUTER], and then EXPLODE or POSEXPLODE
  unfoldable pub lateral : Reader Lateral
  lateral = do
    expect k.View
    outer ← eat k.Outer
    is_elements ← eat k.Explode
    if is_elements then elements outer else expect k.PosExplode >> positions outer

  -- {LATERAL VIEW ..}
  unfoldable pub laterals : Reader (List Lateral)
  laterals = behind k.Lateral lateral []

  -- [GROUP BY expr {, expr}]
  unfoldable pub group : Reader (List Expr)
  group = do
    is_grouped ← eat k.Group
    if is_grouped then expect k.By >> list expr else give []

  -- [word expr]
  unfoldable pub condition : Kind → Reader (Option Expr)
  condition kind = perhaps kind expr

  module _ (query : Reader (Query Source)) where
    -- name [[AS] ident]
    unfoldable pub table : Reader Source
    table = do
      name ← table_name
      alias ← optional_alias
      give (s.Table name alias)

    -- behind `(`: query ) [AS] ident
    unfoldable pub subquery : Reader Source
    subquery = do
      inner ← query
      expect k.Close
      alias ← alias
      give (s.Query inner alias)

    -- name [[AS] ident] | ( query ) [AS] ident
    unfoldable pub source : Reader Source
    source = do
      is_subquery ← eat k.Open
      if is_subquery then subquery else table

    -- source ON expr
    unfoldable pub joined_on : JoinKind → Reader (Join Source)
    joined_on kind = do
      right ← source
      expect k.On
      condition ← expr
      give (record { kind = kind; source = right; on = Some condition })

    -- [OUTER] JOIN source ON expr
    unfoldable pub outer_join : JoinKind → Reader (Join Source)
    outer_join kind = do
      eat k.Outer
      expect k.Join
      joined_on kind

    -- behind LEFT: SEMI JOIN source ON expr | [OUTER] JOIN source ON expr
    unfoldable pub left_join : Reader (Join Source)
    left_join = do
      is_semi ← eat k.Semi
      if is_semi then expect k.Join >> joined_on j.LeftSemi else outer_join j.Left

    -- behind JOIN: source [ON expr]
    unfoldable pub inner_join : Reader (Join Source)
    inner_join = do
      right ← source
      condition ← condition k.On
      give (record { kind = j.Inner; source = right; on = condition })

    -- behind a comma or CROSS JOIN: source
    unfoldable pub cross_join : Reader (Join Source)
    cross_join = do
      right ← source
      give (record { kind = j.Cross; source = right; on = None })

    abbrev pub join_by : Kind → Reader (Join Source)
    join_by k.Comma = pass >> cross_join
    join_by k.Cross = pass >> (expect k.Join >> cross_join)
    join_by k.Join = pass >> inner_join
    join_by k.Inner = pass >> (expect k.Join >> inner_join)
    join_by k.Left = pass >> left_join
    join_by k.Right = pass >> outer_join j.Right
    join_by k.Full = pass >> outer_join j.Full
    join_by _ = refuse

    -- , source | [INNER] JOIN .. | CROSS JOIN .. | (LEFT | RIGHT | FULL) [OUTER] JOIN .. | LEFT SEMI JOIN ..
    unfoldable pub join : Reader (Join Source)
    join = peek >>= join_by

    unfoldable pub joins : Reader (List (Join Source))
    joins = many begins_join join []

    -- source {, source | join} {lateral}
    unfoldable pub from : Reader (From Source)
    from = do
      first ← source
      joins ← joins
      laterals ← laterals
      give (record { source = first; joins = joins; laterals = laterals })

    -- [FROM from {lateral}]
    unfoldable pub optional_from : Reader (Option (From Source))
    optional_from = perhaps k.From from

    -- SELECT [ALL | DISTINCT] item {, item} [FROM from {lateral}] [WHERE expr] [GROUP BY expr {, expr}] [HAVING expr]
    unfoldable pub select : Reader (Select Source)
    select = do
      expect k.Select
      distinct ← either k.Distinct k.All
      items ← items
      from ← optional_from
      filter ← condition k.Where
      group ← group
      having ← condition k.Having
      give (record { distinct = distinct; items = items; from = from; filter = filter; group = group; having = having })

    -- behind UNION: [ALL | DISTINCT] select
    unfoldable pub union : Reader (Union Source)
    union = do
      all ← either k.All k.Distinct
      select ← select
      give (record { all = all; select = select })

    -- {UNION [ALL | DISTINCT] select}
    unfoldable pub unions : Reader (List (Union Source))
    unions = behind k.Union union []

    -- select {UNION [ALL | DISTINCT] select} [ORDER BY key {, key}] [LIMIT number]
    unfoldable pub query_over : Reader (Query Source)
    query_over = do
      first ← select
      unions ← unions
      order ← order
      limit ← perhaps k.Limit number
      give (record { select = first; unions = unions; order = order; limit = limit })

-- a query whose subqueries nest fewer levels than this, over these expressions
unfoldable pub query : Reader Expr → ℕ → Reader (Query Source)
query expr zero = refuse
query expr (suc depth) = query_over expr (query expr depth)

-- a query, however deep a text may nest
abbrev pub any_query : Reader (Query Source)
any_query = query any_expr (suc most_levels)
