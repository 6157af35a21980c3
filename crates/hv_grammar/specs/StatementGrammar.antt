-- The grammar of statements, but for SET. Source: Hive Language Manual, DML, DDL, Merge,
-- Transactions, Explain. Which clauses there are and in which order is this project's profile.
use Rattle.std.specs.Prelude.{◌≡◌, ℕ, Bool, true, false, List, [], ◌∷◌, None}
use Rattle.hv_ast.specs.declared.token.Token.{Token}
use Rattle.hv_ast.specs.declared.expr.Expr.{Expr}
use Rattle.hv_ast.specs.declared.query.Source.{Source}
use Rattle.hv_ast.specs.declared.query.Query.{Query}
use Rattle.hv_ast.specs.declared.change.PartitionItem.{PartitionItem}
use Rattle.hv_ast.specs.declared.change.Rows.{Rows}
use Rattle.hv_ast.specs.declared.change.Rows.TheVariants as from
use Rattle.hv_ast.specs.declared.change.Assignment.{Assignment}
use Rattle.hv_ast.specs.declared.change.MergeAction.{MergeAction}
use Rattle.hv_ast.specs.declared.change.MergeAction.TheVariants as action
use Rattle.hv_ast.specs.declared.change.MergeClause.{MergeClause}
use Rattle.hv_ast.specs.declared.table.ColumnDefinition.{ColumnDefinition}
use Rattle.hv_ast.specs.declared.table.Clustering.{Clustering}
use Rattle.hv_ast.specs.declared.table.Property.{Property}
use Rattle.hv_ast.specs.declared.table.CompactionKind.{CompactionKind}
use Rattle.hv_ast.specs.declared.statement.Show.TheVariants as shown
use Rattle.hv_ast.specs.declared.statement.Stmt.{Stmt}
use Rattle.hv_ast.specs.declared.statement.Stmt.TheVariants as s
use Rattle.hv_ast.specs.Tokens.{Text}
use Rattle.hv_grammar.specs.declared.kind.Kind.TheVariants as k
use Rattle.hv_grammar.specs.Nesting.{too_deep, most_levels}
use Rattle.hv_grammar.specs.Choices.{string_in, compaction_in}
use Rattle.hv_grammar.specs.Rules.{Rule, ◌>>=◌, ◌>>◌, ◌<|>◌, give, held, word, flag, many, separated, perhaps, bracketed}
use Rattle.hv_grammar.specs.Grammar.{name, type_name, list, expr}
use Rattle.hv_grammar.specs.QueryGrammar.{table_name, optional_alias, number, source, query}

abbrev pub string : Rule Text
string = held (λ token. string_in token.what)

-- ident {, ident}
unfoldable pub names : Rule (List Text)
names = separated k.Comma name

-- ---- what a table is made of

-- [IF EXISTS]
unfoldable pub if_exists : Rule Bool
if_exists = (do word k.If; word k.Exists; give true) <|> give false

-- [IF NOT EXISTS]
unfoldable pub if_absent : Rule Bool
if_absent = (do word k.If; word k.Not; word k.Exists; give true) <|> give false

-- col = ident type [COMMENT string]
unfoldable pub column : Rule ColumnDefinition
column = do
  name ← name
  kind ← type_name
  comment ← perhaps k.Comment string
  give (record { name = name; kind = kind; comment = comment })

-- ( col {, col} )
unfoldable pub columns : Rule (List ColumnDefinition)
columns = bracketed (separated k.Comma column)

-- [PARTITIONED BY ( col {, col} )]
unfoldable pub partitioned : Rule (List ColumnDefinition)
partitioned = (do word k.Partitioned; word k.By; columns) <|> give []

-- behind CLUSTERED: BY ( ident {, ident} ) INTO number BUCKETS
unfoldable pub clustering : Rule Clustering
clustering = do
  word k.By
  columns ← bracketed names
  word k.Into
  count ← number
  word k.Buckets
  give (record { columns = columns; count = count })

-- [STORED AS ORC]
unfoldable pub stored : Rule Bool
stored = (do word k.Stored; word k.As; word k.Orc; give true) <|> give false

-- string = string
unfoldable pub property : Rule Property
property = do
  key ← string
  word k.Equal
  value ← string
  give (record { key = key; value = value })

-- [TBLPROPERTIES ( string = string {, string = string} )]
unfoldable pub properties : Rule (List Property)
properties = (word k.TblProperties >> bracketed (separated k.Comma property)) <|> give []

-- create = CREATE TABLE [IF NOT EXISTS] name ( col {, col} ) [COMMENT string]
--          [PARTITIONED BY ( col {, col} )] [CLUSTERED BY ( ident {, ident} ) INTO number BUCKETS]
--          [STORED AS ORC] [TBLPROPERTIES ( string = string {, string = string} )]
unfoldable pub create : Rule Stmt
create = do
  word k.Table
  if_absent ← if_absent
  table ← table_name
  columns ← columns
  comment ← perhaps k.Comment string
  partitions ← partitioned
  clustering ← perhaps k.Clustered clustering
  stored ← stored
  properties ← properties
  give (s.CreateTable (record {
    if_absent = if_absent;
    table = table;
    columns = columns;
    comment = comment;
    partitions = partitions;
    clustering = clustering;
    stored = stored;
    properties = properties;
  }))

-- drop = DROP TABLE [IF EXISTS] name [PURGE]
unfoldable pub drop_table : Rule Stmt
drop_table = do
  word k.Table
  if_exists ← if_exists
  table ← table_name
  purge ← flag k.Purge
  give (s.DropTable (record { if_exists = if_exists; table = table; purge = purge }))

-- ---- what is asked of the warehouse

-- show = SHOW TABLES | SHOW PARTITIONS name | SHOW TRANSACTIONS | SHOW LOCKS | SHOW COMPACTIONS
unfoldable pub show : Rule Stmt
show =
    (word k.Tables >> give (s.Show shown.Tables))
    <|> (do word k.Partitions; table ← table_name; give (s.Show (shown.Partitions table)))
    <|> (word k.Transactions >> give (s.Show shown.Transactions))
    <|> (word k.Locks >> give (s.Show shown.Locks))
    <|> (word k.Compactions >> give (s.Show shown.Compactions))

-- describe = DESCRIBE name
unfoldable pub describe : Rule Stmt
describe = do
  table ← table_name
  give (s.Describe table)

-- 'minor' | 'major', in any case
abbrev pub compaction : Rule CompactionKind
compaction = held (λ token. compaction_in token.what)

-- number {number}
unfoldable pub numbers : Rule (List ℕ)
numbers = do
  first ← number
  rest ← many number
  give (first ∷ rest)

-- abort = ABORT TRANSACTIONS number {number}
unfoldable pub abort : Rule Stmt
abort = do
  word k.Transactions
  numbers ← numbers
  give (s.AbortTransactions numbers)

-- Over expressions, and over queries.
module _ (expr : Rule Expr) (query : Rule (Query Source)) where
  -- pitem = ident [= expr]
  unfoldable pub partition_item : Rule PartitionItem
  partition_item = do
    name ← name
    value ← perhaps k.Equal expr
    give (record { name = name; value = value })

  -- [PARTITION ( pitem {, pitem} )]
  unfoldable pub partition : Rule (List PartitionItem)
  partition = (word k.Partition >> bracketed (separated k.Comma partition_item)) <|> give []

  -- [( ident {, ident} )]
  unfoldable pub column_names : Rule (List Text)
  column_names = bracketed names <|> give []

  -- row = ( expr {, expr} )
  unfoldable pub row : Rule (List Expr)
  row = bracketed (list expr)

  -- VALUES row {, row} | query
  unfoldable pub inserted : Rule Rows
  inserted =
      (do word k.Values; rows ← separated k.Comma row; give (from.Values rows))
      <|> (do rows ← query; give (from.Query rows))

  -- OVERWRITE TABLE | INTO [TABLE], as whether OVERWRITE stands there
  unfoldable pub overwrite : Rule Bool
  overwrite = (do word k.Overwrite; word k.Table; give true) <|> (do word k.Into; flag k.Table; give false)

  -- insert = INSERT (INTO [TABLE] | OVERWRITE TABLE) name [PARTITION ( pitem {, pitem} )]
  --          [( ident {, ident} )] (VALUES row {, row} | query)
  unfoldable pub insert : Rule Stmt
  insert = do
    overwrite ← overwrite
    table ← table_name
    partition ← partition
    columns ← column_names
    rows ← inserted
    give (s.Insert (record { overwrite = overwrite; table = table; partition = partition; columns = columns; rows = rows }))

  -- assign = ident = expr
  unfoldable pub assignment : Rule Assignment
  assignment = do
    column ← name
    word k.Equal
    value ← expr
    give (record { column = column; value = value })

  -- SET assign {, assign}
  unfoldable pub assignments : Rule (List Assignment)
  assignments = do
    word k.Set
    separated k.Comma assignment

  -- update = UPDATE name SET assign {, assign} [WHERE expr]
  unfoldable pub update : Rule Stmt
  update = do
    table ← table_name
    assignments ← assignments
    filter ← perhaps k.Where expr
    give (s.Update (record { table = table; assignments = assignments; filter = filter }))

  -- delete = DELETE FROM name [WHERE expr]
  unfoldable pub delete : Rule Stmt
  delete = do
    word k.From
    table ← table_name
    filter ← perhaps k.Where expr
    give (s.Delete (record { table = table; filter = filter }))

  -- UPDATE SET assign {, assign} | DELETE
  unfoldable pub matched_action : Rule MergeAction
  matched_action =
      (do word k.Update; found ← assignments; give (action.Update found))
      <|> (word k.Delete >> give action.Delete)

  -- INSERT VALUES row
  unfoldable pub unmatched_action : Rule MergeAction
  unmatched_action = do
    word k.Insert
    word k.Values
    values ← row
    give (action.Insert values)

  -- [AND expr] THEN, and what is done then
  unfoldable pub acts : Rule MergeAction → Rule MergeClause
  acts done = do
    condition ← perhaps k.And expr
    word k.Then
    action ← done
    give (record { condition = condition; action = action })

  -- when = WHEN MATCHED [AND expr] THEN (UPDATE SET assign {, assign} | DELETE)
  --      | WHEN NOT MATCHED [AND expr] THEN INSERT VALUES row
  unfoldable pub merge_clause : Rule MergeClause
  merge_clause = (do word k.Not; word k.Matched; acts unmatched_action) <|> (word k.Matched >> acts matched_action)

  -- merge = MERGE INTO name [[AS] ident] USING source ON expr when {when}
  unfoldable pub merge : Rule Stmt
  merge = do
    word k.Into
    table ← table_name
    alias ← optional_alias
    word k.Using
    other ← source expr query
    word k.On
    on ← expr
    word k.When
    clauses ← separated k.When merge_clause
    give (s.Merge (record { table = table; alias = alias; source = other; on = on; clauses = clauses }))

  -- truncate = TRUNCATE [TABLE] name [PARTITION ( pitem {, pitem} )]
  unfoldable pub truncate : Rule Stmt
  truncate = do
    flag k.Table
    table ← table_name
    partition ← partition
    give (s.Truncate (record { table = table; partition = partition }))

  -- compact = ALTER TABLE name [PARTITION ( pitem {, pitem} )] COMPACT string
  unfoldable pub compact : Rule Stmt
  compact = do
    word k.Table
    table ← table_name
    partition ← partition
    word k.Compact
    kind ← compaction
    give (s.Compact (record { table = table; partition = partition; kind = kind }))

  -- EXPLAIN FORMATTED query
  unfoldable pub explain : Rule Stmt
  explain = do
    word k.Formatted
    explained ← query
    give (s.Explain explained)

  -- a query
  unfoldable pub queried : Rule Stmt
  queried = do
    found ← query
    give (s.Query found)

  -- statement = query | insert | update | delete | merge | create | drop | truncate
  --           | show | describe | compact | abort | EXPLAIN FORMATTED query
  unfoldable pub statement_over : Rule Stmt
  statement_over =
      queried
      <|> (word k.Insert >> insert)
      <|> (word k.Update >> update)
      <|> (word k.Delete >> delete)
      <|> (word k.Merge >> merge)
      <|> (word k.Create >> create)
      <|> (word k.Drop >> drop_table)
      <|> (word k.Truncate >> truncate)
      <|> (word k.Show >> show)
      <|> (word k.Describe >> describe)
      <|> (word k.Alter >> compact)
      <|> (word k.Abort >> abort)
      <|> (word k.Explain >> explain)

-- a statement whose expressions and subqueries nest fewer levels than this
unfoldable pub statement : ℕ → Rule Stmt
statement depth = statement_over (expr depth) (query (expr depth) depth)

-- The statement that these tokens are, from the first to the last. They nest no more than 64 levels.
pub record IsStatement (tokens : List Token) (tree : Stmt) : Type 0 where
  pub nests : too_deep most_levels tokens ≡ None
  pub depth : ℕ
  pub spelled : statement depth tree tokens []
