-- Statements as they are read from the left, but for SET. StatementGrammar has the rules that these
-- readers follow.
use Rattle.std.specs.Prelude.{ℕ, Bool, true, false, if◌then◌else◌, List, [], ◌∷◌, Option, Some, None}
use Rattle.hv_ast.specs.declared.token.Token.{Token}
use Rattle.hv_ast.specs.declared.expr.Expr.{Expr}
use Rattle.hv_ast.specs.declared.query.Source.{Source}
use Rattle.hv_ast.specs.declared.query.Query.{Query}
use Rattle.hv_ast.specs.declared.change.PartitionItem.{PartitionItem}
use Rattle.hv_ast.specs.declared.change.Rows.{Rows}
use Rattle.hv_ast.specs.declared.change.Rows.TheVariants as from
use Rattle.hv_ast.specs.declared.change.Assignment.{Assignment}
use Rattle.hv_ast.specs.declared.change.MergeAction.{MergeAction}
use Rattle.hv_ast.specs.declared.change.MergeAction.TheVariants as action
use Rattle.hv_ast.specs.declared.change.MergeClause.{MergeClause}
use Rattle.hv_ast.specs.declared.table.ColumnDefinition.{ColumnDefinition}
use Rattle.hv_ast.specs.declared.table.Clustering.{Clustering}
use Rattle.hv_ast.specs.declared.table.Property.{Property}
use Rattle.hv_ast.specs.declared.table.CompactionKind.{CompactionKind}
use Rattle.hv_ast.specs.declared.statement.Show.TheVariants as shown
use Rattle.hv_ast.specs.declared.statement.Stmt.{Stmt}
use Rattle.hv_ast.specs.declared.statement.Stmt.TheVariants as s
use Rattle.hv_ast.specs.Tokens.{Text}
use Rattle.hv_grammar.specs.declared.kind.Kind.{Kind}
use Rattle.hv_grammar.specs.declared.kind.Kind.TheVariants as k
use Rattle.hv_grammar.specs.Nesting.{too_deep, most_levels}
use Rattle.hv_grammar.specs.Choices.{compaction_in, is_number}
use Rattle.hv_grammar.specs.Readers.{Outcome, Reader, ◌>>=◌, ◌>>◌, ◌<$>◌, give, refuse, peek, pass, look, eat, expect, held, many, separated, perhaps, bracketed}
use Rattle.hv_grammar.specs.Reading.{name, type_name, string, list, any_expr}
use Rattle.hv_grammar.specs.QueryReading.{table_name, optional_alias, number, condition, source, any_query}

-- ident {, ident}
unfoldable pub names : Reader (List Text)
names = separated k.Comma name

-- ---- what a table is made of

-- [IF EXISTS]
unfoldable pub if_exists : Reader Bool
if_exists = do
  is_there ← eat k.If
  if is_there then expect k.Exists >> give true else give false

-- [IF NOT EXISTS]
unfoldable pub if_absent : Reader Bool
if_absent = do
  is_there ← eat k.If
  if is_there then (do expect k.Not; expect k.Exists; give true) else give false

-- [COMMENT string]
unfoldable pub comment : Reader (Option Text)
comment = perhaps k.Comment string

-- ident type [COMMENT string]
unfoldable pub column : Reader ColumnDefinition
column = do
  name ← name
  kind ← type_name
  comment ← comment
  give (record { name = name; kind = kind; comment = comment })

-- col {, col}
unfoldable pub column_list : Reader (List ColumnDefinition)
column_list = separated k.Comma column

-- ( col {, col} )
unfoldable pub columns : Reader (List ColumnDefinition)
columns = bracketed column_list

-- [PARTITIONED BY ( col {, col} )]
unfoldable pub partitioned : Reader (List ColumnDefinition)
partitioned = do
  is_there ← eat k.Partitioned
  if is_there then expect k.By >> columns else give []

-- ( ident {, ident} )
unfoldable pub bracketed_names : Reader (List Text)
bracketed_names = bracketed names

-- behind CLUSTERED: BY ( ident {, ident} ) INTO number BUCKETS
unfoldable pub clustering : Reader Clustering
clustering = do
  expect k.By
  columns ← bracketed_names
  expect k.Into
  count ← number
  expect k.Buckets
  give (record { columns = columns; count = count })

-- [CLUSTERED BY ( ident {, ident} ) INTO number BUCKETS]
unfoldable pub clustered : Reader (Option Clustering)
clustered = perhaps k.Clustered clustering

-- [STORED AS ORC]
unfoldable pub stored : Reader Bool
stored = do
  is_there ← eat k.Stored
  if is_there then (do expect k.As; expect k.Orc; give true) else give false

-- string = string
unfoldable pub property : Reader Property
property = do
  key ← string
  expect k.Equal
  value ← string
  give (record { key = key; value = value })

-- string = string {, string = string}
unfoldable pub property_list : Reader (List Property)
property_list = separated k.Comma property

-- [TBLPROPERTIES ( string = string {, string = string} )]
unfoldable pub properties : Reader (List Property)
properties = do
  is_there ← eat k.TblProperties
  if is_there then bracketed property_list else give []

-- behind CREATE
unfoldable pub create : Reader Stmt
create = do
  expect k.Table
  if_absent ← if_absent
  table ← table_name
  columns ← columns
  comment ← comment
  partitions ← partitioned
  clustering ← clustered
  stored ← stored
  properties ← properties
  give (s.CreateTable (record {
    if_absent = if_absent;
    table = table;
    columns = columns;
    comment = comment;
    partitions = partitions;
    clustering = clustering;
    stored = stored;
    properties = properties;
  }))

-- behind DROP
unfoldable pub drop_table : Reader Stmt
drop_table = do
  expect k.Table
  if_exists ← if_exists
  table ← table_name
  purge ← eat k.Purge
  give (s.DropTable (record { if_exists = if_exists; table = table; purge = purge }))

-- ---- what is asked of the warehouse

abbrev pub show_by : Kind → Reader Stmt
show_by k.Tables = pass >> give (s.Show shown.Tables)
show_by k.Partitions = pass >> (λ table. s.Show (shown.Partitions table)) <$> table_name
show_by k.Transactions = pass >> give (s.Show shown.Transactions)
show_by k.Locks = pass >> give (s.Show shown.Locks)
show_by k.Compactions = pass >> give (s.Show shown.Compactions)
show_by _ = refuse

-- behind SHOW
unfoldable pub show : Reader Stmt
show = peek >>= show_by

-- behind DESCRIBE
unfoldable pub describe : Reader Stmt
describe = s.Describe <$> table_name

-- 'minor' | 'major', in any case
unfoldable pub compaction : Reader CompactionKind
compaction = held (λ token. compaction_in token.what)

-- the first number, and those behind it
unfoldable pub more_numbers : ℕ → Reader (List ℕ)
more_numbers first = many is_number number (first ∷ [])

-- number {number}
unfoldable pub numbers : Reader (List ℕ)
numbers = number >>= more_numbers

-- behind ABORT
unfoldable pub abort : Reader Stmt
abort = do
  expect k.Transactions
  numbers ← numbers
  give (s.AbortTransactions numbers)

module _ (expr : Reader Expr) (query : Reader (Query Source)) where
  -- ident [= expr]
  unfoldable pub partition_item : Reader PartitionItem
  partition_item = do
    name ← name
    value ← condition expr k.Equal
    give (record { name = name; value = value })

  -- pitem {, pitem}
  unfoldable pub partition_items : Reader (List PartitionItem)
  partition_items = separated k.Comma partition_item

  -- [PARTITION ( pitem {, pitem} )]
  unfoldable pub partition : Reader (List PartitionItem)
  partition = do
    is_there ← eat k.Partition
    if is_there then bracketed partition_items else give []

  -- [( ident {, ident} )]
  unfoldable pub column_names : Reader (List Text)
  column_names = do
    is_there ← look k.Open
    if is_there then bracketed_names else give []

  -- ( expr {, expr} )
  unfoldable pub row : Reader (List Expr)
  row = bracketed (list expr)

  -- row {, row}
  unfoldable pub row_list : Reader (List (List Expr))
  row_list = separated k.Comma row

  -- VALUES row {, row} | query
  unfoldable pub inserted : Reader Rows
  inserted = do
    is_values ← eat k.Values
    if is_values then from.Values <$> row_list else from.Query <$> query

  -- OVERWRITE TABLE | INTO [TABLE], as whether OVERWRITE stands there
  unfoldable pub overwrite : Reader Bool
  overwrite = do
    is_overwrite ← eat k.Overwrite
    if is_overwrite then expect k.Table >> give true else (do expect k.Into; eat k.Table; give false)

  -- behind INSERT
  unfoldable pub insert : Reader Stmt
  insert = do
    overwrite ← overwrite
    table ← table_name
    partition ← partition
    columns ← column_names
    rows ← inserted
    give (s.Insert (record { overwrite = overwrite; table = table; partition = partition; columns = columns; rows = rows }))

  -- ident = expr
  unfoldable pub assignment : Reader Assignment
  assignment = do
    column ← name
    expect k.Equal
    value ← expr
    give (record { column = column; value = value })

  -- assign {, assign}
  unfoldable pub assignment_list : Reader (List Assignment)
  assignment_list = separated k.Comma assignment

  -- SET assign {, assign}
  unfoldable pub assignments : Reader (List Assignment)
  assignments = expect k.Set >> assignment_list

  -- behind UPDATE
  unfoldable pub update : Reader Stmt
  update = do
    table ← table_name
    assignments ← assignments
    filter ← condition expr k.Where
    give (s.Update (record { table = table; assignments = assignments; filter = filter }))

  -- behind DELETE
  unfoldable pub delete : Reader Stmt
  delete = do
    expect k.From
    table ← table_name
    filter ← condition expr k.Where
    give (s.Delete (record { table = table; filter = filter }))

  -- UPDATE SET assign {, assign} | DELETE
  unfoldable pub matched_action : Reader MergeAction
  matched_action = do
    is_update ← eat k.Update
    if is_update then action.Update <$> assignments else expect k.Delete >> give action.Delete

  -- INSERT VALUES row
  unfoldable pub unmatched_action : Reader MergeAction
  unmatched_action = do
    expect k.Insert
    expect k.Values
    values ← row
    give (action.Insert values)

  -- behind WHEN MATCHED
  unfoldable pub matched_clause : Reader MergeClause
  matched_clause = do
    condition ← condition expr k.And
    expect k.Then
    action ← matched_action
    give (record { condition = condition; action = action })

  -- behind WHEN NOT MATCHED
  unfoldable pub unmatched_clause : Reader MergeClause
  unmatched_clause = do
    condition ← condition expr k.And
    expect k.Then
    action ← unmatched_action
    give (record { condition = condition; action = action })

  -- behind WHEN: [NOT] MATCHED, and what comes then
  unfoldable pub merge_clause : Reader MergeClause
  merge_clause = do
    is_unmatched ← eat k.Not
    if is_unmatched then expect k.Matched >> unmatched_clause else expect k.Matched >> matched_clause

  -- behind the first WHEN
  unfoldable pub merge_clauses : Reader (List MergeClause)
  merge_clauses = separated k.When merge_clause

  -- behind MERGE
  unfoldable pub merge : Reader Stmt
  merge = do
    expect k.Into
    table ← table_name
    alias ← optional_alias
    expect k.Using
    other ← source expr query
    expect k.On
    on ← expr
    expect k.When
    clauses ← merge_clauses
    give (s.Merge (record { table = table; alias = alias; source = other; on = on; clauses = clauses }))

  -- behind TRUNCATE
  unfoldable pub truncate : Reader Stmt
  truncate = do
    eat k.Table
    table ← table_name
    partition ← partition
    give (s.Truncate (record { table = table; partition = partition }))

  -- behind ALTER
  unfoldable pub compact : Reader Stmt
  compact = do
    expect k.Table
    table ← table_name
    partition ← partition
    expect k.Compact
    kind ← compaction
    give (s.Compact (record { table = table; partition = partition; kind = kind }))

  -- behind EXPLAIN
  unfoldable pub explain : Reader Stmt
  explain = do
    expect k.Formatted
    s.Explain <$> query

  -- a query
  unfoldable pub queried : Reader Stmt
  queried = s.Query <$> query

  abbrev pub statement_by : Kind → Reader Stmt
  statement_by k.Select = queried
  statement_by k.Insert = pass >> insert
  statement_by k.Update = pass >> update
  statement_by k.Delete = pass >> delete
  statement_by k.Merge = pass >> merge
  statement_by k.Create = pass >> create
  statement_by k.Drop = pass >> drop_table
  statement_by k.Truncate = pass >> truncate
  statement_by k.Show = pass >> show
  statement_by k.Describe = pass >> describe
  statement_by k.Alter = pass >> compact
  statement_by k.Abort = pass >> abort
  statement_by k.Explain = pass >> explain
  statement_by _ = refuse

  unfoldable pub statement_over : Reader Stmt
  statement_over = peek >>= statement_by

-- a statement, however deep its expressions and subqueries may nest
unfoldable pub statement : Reader Stmt
statement = statement_over any_expr any_query

-- ---- the statement that tokens are

pub data Answer : Type 0 where
  found : Stmt → Answer
  nesting : ℕ → Answer
  syntax : Answer

-- a statement behind which nothing is left
abbrev pub answer_at : Stmt → List Token → Answer
answer_at tree [] = found tree
answer_at tree (token ∷ rest) = syntax

abbrev pub answer_of : Outcome Stmt → Answer
answer_of (Some p) = answer_at p.0 p.1
answer_of None = syntax

abbrev pub answer_by : Option ℕ → Answer → Answer
answer_by (Some at) other = nesting at
answer_by None other = other

-- what tokens are: a statement, tokens that nest too deep, or neither
unfoldable pub statement_of : List Token → Answer
statement_of tokens = answer_by (too_deep most_levels tokens) (answer_of (statement tokens))
