-- How deep each production of a statement nests.
use Rattle.std.proofs.Common.{◌≡◌, ℕ, suc, ◌≤◌, true, false, Some, [], ◌∷◌, refl}
use Rattle.hv_ast.specs.declared.token.Lexeme.{Lexeme}
use Rattle.hv_ast.specs.declared.token.Lexeme.TheVariants as lexeme
use Rattle.hv_ast.specs.declared.expr.Expr.{Expr}
use Rattle.hv_ast.specs.declared.query.Source.{Source}
use Rattle.hv_ast.specs.declared.query.Query.{Query}
use Rattle.hv_ast.specs.declared.change.Rows.TheVariants as from
use Rattle.hv_ast.specs.declared.change.MergeAction.{MergeAction}
use Rattle.hv_ast.specs.declared.change.MergeAction.TheVariants as action
use Rattle.hv_ast.specs.declared.table.CompactionKind.{CompactionKind}
use Rattle.hv_ast.specs.declared.statement.Show.TheVariants as shown
use Rattle.hv_ast.specs.declared.statement.Stmt.TheVariants as s
use Rattle.hv_grammar.specs.declared.kind.Kind.TheVariants as k
use Rattle.hv_grammar.specs.Kinds.{kind_of}
use Rattle.hv_grammar.specs.Nesting.{stays, turn_of, most_levels}
use Rattle.hv_grammar.specs.Rules.{Rule}
use Rattle.hv_grammar.specs.Grammar as g
use Rattle.hv_grammar.specs.QueryGrammar as q
use Rattle.hv_grammar.specs.StatementGrammar as t
use Rattle.hv_grammar.specs.Choices as c
use Rattle.hv_parse_expr.proofs.Room.{Goes, goes_give, goes_bind, goes_or, goes_token, goes_word, goes_many, goes_separated, goes_flag}
use Rattle.hv_parse_expr.proofs.Depth.{name_goes, type_goes, string_stays}
use Rattle.hv_parse_query.proofs.Room.{any_goes, goes_perhaps, goes_bracketed, level_below}
use Rattle.hv_parse_query.proofs.Depth.{number_goes, table_name_goes, optional_alias_goes, source_goes, any_query_goes}

-- ---- what a table is made of

compaction_stays : (what : Lexeme) (value : CompactionKind) → c.compaction_in what ≡ Some value → turn_of (kind_of what) ≡ stays
unfolding kind_of
compaction_stays (lexeme.Str text) value h = refl
compaction_stays what value h = absurd (cc)

string_goes : (n : ℕ) → Goes n n t.string t.string
string_goes n = goes_token n (λ token. c.string_in token.what) (λ token value h. string_stays token.what value h)

compaction_goes : (n : ℕ) → Goes n n t.compaction t.compaction
compaction_goes n = goes_token n (λ token. c.compaction_in token.what) (λ token value h. compaction_stays token.what value h)

names_goes : (n : ℕ) → Goes n n t.names t.names
unfolding t.names
names_goes n = goes_separated n k.Comma refl (name_goes n)

if_exists_goes : (n : ℕ) → Goes n n t.if_exists t.if_exists
unfolding t.if_exists
if_exists_goes n = goes_or (goes_bind (goes_word n k.If refl) (λ _. goes_bind (goes_word n k.Exists refl) (λ _. goes_give n true))) (goes_give n false)

if_absent_goes : (n : ℕ) → Goes n n t.if_absent t.if_absent
unfolding t.if_absent
if_absent_goes n = goes_or
    (goes_bind (goes_word n k.If refl) (λ _. goes_bind (goes_word n k.Not refl) (λ _. goes_bind (goes_word n k.Exists refl) (λ _. goes_give n true))))
    (goes_give n false)

column_goes : (n : ℕ) → Goes n n t.column t.column
unfolding t.column
column_goes n = goes_bind (name_goes n) (λ name. goes_bind (type_goes n) (λ kind. goes_bind (goes_perhaps n k.Comment refl (string_goes n))
    (λ comment. goes_give n (record { name = name; kind = kind; comment = comment }))))

columns_goes : (n : ℕ) → Goes n n t.columns t.columns
unfolding t.columns
columns_goes n = goes_bracketed n (λ m e. goes_separated m k.Comma refl (column_goes m))

partitioned_goes : (n : ℕ) → Goes n n t.partitioned t.partitioned
unfolding t.partitioned
partitioned_goes n = goes_or (goes_bind (goes_word n k.Partitioned refl) (λ _. goes_bind (goes_word n k.By refl) (λ _. columns_goes n))) (goes_give n [])

clustering_goes : (n : ℕ) → Goes n n t.clustering t.clustering
unfolding t.clustering
clustering_goes n = goes_bind (goes_word n k.By refl) (λ _. goes_bind (goes_bracketed n (λ m e. names_goes m)) (λ columns. goes_bind (goes_word n k.Into refl) (λ _.
    goes_bind (number_goes n) (λ count. goes_bind (goes_word n k.Buckets refl) (λ _. goes_give n (record { columns = columns; count = count }))))))

stored_goes : (n : ℕ) → Goes n n t.stored t.stored
unfolding t.stored
stored_goes n = goes_or
    (goes_bind (goes_word n k.Stored refl) (λ _. goes_bind (goes_word n k.As refl) (λ _. goes_bind (goes_word n k.Orc refl) (λ _. goes_give n true))))
    (goes_give n false)

property_goes : (n : ℕ) → Goes n n t.property t.property
unfolding t.property
property_goes n = goes_bind (string_goes n) (λ key. goes_bind (goes_word n k.Equal refl) (λ _. goes_bind (string_goes n) (λ value. goes_give n (record { key = key; value = value }))))

properties_goes : (n : ℕ) → Goes n n t.properties t.properties
unfolding t.properties
properties_goes n = goes_or (goes_bind (goes_word n k.TblProperties refl) (λ _. goes_bracketed n (λ m e. goes_separated m k.Comma refl (property_goes m)))) (goes_give n [])

create_goes : (n : ℕ) → Goes n n t.create t.create
unfolding t.create
create_goes n = goes_bind (goes_word n k.Table refl) (λ _. goes_bind (if_absent_goes n) (λ if_absent. goes_bind (table_name_goes n) (λ table.
    goes_bind (columns_goes n) (λ columns. goes_bind (goes_perhaps n k.Comment refl (string_goes n)) (λ comment. goes_bind (partitioned_goes n) (λ partitions.
    goes_bind (goes_perhaps n k.Clustered refl (clustering_goes n)) (λ clustering. goes_bind (stored_goes n) (λ stored. goes_bind (properties_goes n) (λ properties.
    goes_give n (s.CreateTable (record {
      if_absent = if_absent;
      table = table;
      columns = columns;
      comment = comment;
      partitions = partitions;
      clustering = clustering;
      stored = stored;
      properties = properties;
    })))))))))))

drop_goes : (n : ℕ) → Goes n n t.drop_table t.drop_table
unfolding t.drop_table
drop_goes n = goes_bind (goes_word n k.Table refl) (λ _. goes_bind (if_exists_goes n) (λ if_exists. goes_bind (table_name_goes n) (λ table.
    goes_bind (goes_flag n k.Purge refl) (λ purge. goes_give n (s.DropTable (record { if_exists = if_exists; table = table; purge = purge }))))))

-- ---- what is asked of the warehouse

show_goes : (n : ℕ) → Goes n n t.show t.show
unfolding t.show
show_goes n =
    goes_or (goes_bind (goes_word n k.Tables refl) (λ _. goes_give n (s.Show shown.Tables)))
    (goes_or (goes_bind (goes_word n k.Partitions refl) (λ _. goes_bind (table_name_goes n) (λ table. goes_give n (s.Show (shown.Partitions table)))))
    (goes_or (goes_bind (goes_word n k.Transactions refl) (λ _. goes_give n (s.Show shown.Transactions)))
    (goes_or (goes_bind (goes_word n k.Locks refl) (λ _. goes_give n (s.Show shown.Locks)))
    (goes_bind (goes_word n k.Compactions refl) (λ _. goes_give n (s.Show shown.Compactions))))))

describe_goes : (n : ℕ) → Goes n n t.describe t.describe
unfolding t.describe
describe_goes n = goes_bind (table_name_goes n) (λ table. goes_give n (s.Describe table))

numbers_goes : (n : ℕ) → Goes n n t.numbers t.numbers
unfolding t.numbers
numbers_goes n = goes_bind (number_goes n) (λ first. goes_bind (goes_many n (number_goes n)) (λ rest. goes_give n (first ∷ rest)))

abort_goes : (n : ℕ) → Goes n n t.abort t.abort
unfolding t.abort
abort_goes n = goes_bind (goes_word n k.Transactions refl) (λ _. goes_bind (numbers_goes n) (λ numbers. goes_give n (s.AbortTransactions numbers)))

-- ---- over expressions and queries

module _ (p r : Rule Expr) (f h : Rule (Query Source)) (E : (n : ℕ) → n ≤ most_levels → Goes n n p r) (Q : (n : ℕ) → n ≤ most_levels → Goes n n f h)
    (n : ℕ) (le : n ≤ most_levels) where
  inner_goes : (m : ℕ) → n ≡ suc m → Goes m m p r
  inner_goes m e = E m (level_below n m e le)

  inner_query_goes : (m : ℕ) → n ≡ suc m → Goes m m f h
  inner_query_goes m e = Q m (level_below n m e le)

  partition_item_goes : (m : ℕ) → m ≤ most_levels → Goes m m (t.partition_item p f) (t.partition_item r h)
  unfolding t.partition_item
  partition_item_goes m below = goes_bind (name_goes m) (λ name. goes_bind (goes_perhaps m k.Equal refl (E m below)) (λ value. goes_give m (record { name = name; value = value })))

  partition_goes : Goes n n (t.partition p f) (t.partition r h)
  unfolding t.partition
  partition_goes = goes_or
      (goes_bind (goes_word n k.Partition refl) (λ _. goes_bracketed n (λ m e. goes_separated m k.Comma refl (partition_item_goes m (level_below n m e le)))))
      (goes_give n [])

  column_names_goes : Goes n n (t.column_names p f) (t.column_names r h)
  unfolding t.column_names
  column_names_goes = goes_or (goes_bracketed n (λ m e. names_goes m)) (goes_give n [])

  row_goes : Goes n n (t.row p f) (t.row r h)
  unfolding t.row g.list
  row_goes = goes_bracketed n (λ m e. goes_separated m k.Comma refl (inner_goes m e))

  inserted_goes : Goes n n (t.inserted p f) (t.inserted r h)
  unfolding t.inserted
  inserted_goes = goes_or
      (goes_bind (goes_word n k.Values refl) (λ _. goes_bind (goes_separated n k.Comma refl row_goes) (λ rows. goes_give n (from.Values rows))))
      (goes_bind (Q n le) (λ rows. goes_give n (from.Query rows)))

  overwrite_goes : Goes n n (t.overwrite p f) (t.overwrite r h)
  unfolding t.overwrite
  overwrite_goes = goes_or
      (goes_bind (goes_word n k.Overwrite refl) (λ _. goes_bind (goes_word n k.Table refl) (λ _. goes_give n true)))
      (goes_bind (goes_word n k.Into refl) (λ _. goes_bind (goes_flag n k.Table refl) (λ _. goes_give n false)))

  insert_goes : Goes n n (t.insert p f) (t.insert r h)
  unfolding t.insert
  insert_goes = goes_bind overwrite_goes (λ overwrite. goes_bind (table_name_goes n) (λ table. goes_bind partition_goes (λ partition.
      goes_bind column_names_goes (λ columns. goes_bind inserted_goes (λ rows.
      goes_give n (s.Insert (record { overwrite = overwrite; table = table; partition = partition; columns = columns; rows = rows })))))))

  assignment_goes : Goes n n (t.assignment p f) (t.assignment r h)
  unfolding t.assignment
  assignment_goes = goes_bind (name_goes n) (λ column. goes_bind (goes_word n k.Equal refl) (λ _. goes_bind (E n le)
      (λ value. goes_give n (record { column = column; value = value }))))

  assignments_goes : Goes n n (t.assignments p f) (t.assignments r h)
  unfolding t.assignments
  assignments_goes = goes_bind (goes_word n k.Set refl) (λ _. goes_separated n k.Comma refl assignment_goes)

  update_goes : Goes n n (t.update p f) (t.update r h)
  unfolding t.update
  update_goes = goes_bind (table_name_goes n) (λ table. goes_bind assignments_goes (λ assignments. goes_bind (goes_perhaps n k.Where refl (E n le))
      (λ filter. goes_give n (s.Update (record { table = table; assignments = assignments; filter = filter })))))

  delete_goes : Goes n n (t.delete p f) (t.delete r h)
  unfolding t.delete
  delete_goes = goes_bind (goes_word n k.From refl) (λ _. goes_bind (table_name_goes n) (λ table. goes_bind (goes_perhaps n k.Where refl (E n le))
      (λ filter. goes_give n (s.Delete (record { table = table; filter = filter })))))

  matched_action_goes : Goes n n (t.matched_action p f) (t.matched_action r h)
  unfolding t.matched_action
  matched_action_goes = goes_or (goes_bind (goes_word n k.Update refl) (λ _. goes_bind assignments_goes (λ found. goes_give n (action.Update found))))
      (goes_bind (goes_word n k.Delete refl) (λ _. goes_give n action.Delete))

  unmatched_action_goes : Goes n n (t.unmatched_action p f) (t.unmatched_action r h)
  unfolding t.unmatched_action
  unmatched_action_goes = goes_bind (goes_word n k.Insert refl) (λ _. goes_bind (goes_word n k.Values refl) (λ _. goes_bind row_goes (λ values. goes_give n (action.Insert values))))

  acts_goes : {a b : Rule MergeAction} → Goes n n a b → Goes n n (t.acts p f a) (t.acts r h b)
  unfolding t.acts
  acts_goes A = goes_bind (goes_perhaps n k.And refl (E n le)) (λ condition. goes_bind (goes_word n k.Then refl) (λ _. goes_bind A
      (λ action. goes_give n (record { condition = condition; action = action }))))

  merge_clause_goes : Goes n n (t.merge_clause p f) (t.merge_clause r h)
  unfolding t.merge_clause
  merge_clause_goes = goes_or
      (goes_bind (goes_word n k.Not refl) (λ _. goes_bind (goes_word n k.Matched refl) (λ _. acts_goes unmatched_action_goes)))
      (goes_bind (goes_word n k.Matched refl) (λ _. acts_goes matched_action_goes))

  merge_goes : Goes n n (t.merge p f) (t.merge r h)
  unfolding t.merge
  merge_goes = goes_bind (goes_word n k.Into refl) (λ _. goes_bind (table_name_goes n) (λ table. goes_bind (optional_alias_goes n) (λ alias.
      goes_bind (goes_word n k.Using refl) (λ _. goes_bind (source_goes p r E n le f h inner_query_goes) (λ other. goes_bind (goes_word n k.On refl) (λ _.
      goes_bind (E n le) (λ on. goes_bind (goes_word n k.When refl) (λ _. goes_bind (goes_separated n k.When refl merge_clause_goes)
      (λ clauses. goes_give n (s.Merge (record { table = table; alias = alias; source = other; on = on; clauses = clauses })))))))))))

  truncate_goes : Goes n n (t.truncate p f) (t.truncate r h)
  unfolding t.truncate
  truncate_goes = goes_bind (goes_flag n k.Table refl) (λ _. goes_bind (table_name_goes n) (λ table. goes_bind partition_goes
      (λ partition. goes_give n (s.Truncate (record { table = table; partition = partition })))))

  compact_goes : Goes n n (t.compact p f) (t.compact r h)
  unfolding t.compact
  compact_goes = goes_bind (goes_word n k.Table refl) (λ _. goes_bind (table_name_goes n) (λ table. goes_bind partition_goes (λ partition.
      goes_bind (goes_word n k.Compact refl) (λ _. goes_bind (compaction_goes n) (λ kind. goes_give n (s.Compact (record { table = table; partition = partition; kind = kind })))))))

  explain_goes : Goes n n (t.explain p f) (t.explain r h)
  unfolding t.explain
  explain_goes = goes_bind (goes_word n k.Formatted refl) (λ _. goes_bind (Q n le) (λ explained. goes_give n (s.Explain explained)))

  queried_goes : Goes n n (t.queried p f) (t.queried r h)
  unfolding t.queried
  queried_goes = goes_bind (Q n le) (λ found. goes_give n (s.Query found))

  statement_over_goes : Goes n n (t.statement_over p f) (t.statement_over r h)
  unfolding t.statement_over
  statement_over_goes =
      goes_or queried_goes
      (goes_or (goes_bind (goes_word n k.Insert refl) (λ _. insert_goes))
      (goes_or (goes_bind (goes_word n k.Update refl) (λ _. update_goes))
      (goes_or (goes_bind (goes_word n k.Delete refl) (λ _. delete_goes))
      (goes_or (goes_bind (goes_word n k.Merge refl) (λ _. merge_goes))
      (goes_or (goes_bind (goes_word n k.Create refl) (λ _. create_goes n))
      (goes_or (goes_bind (goes_word n k.Drop refl) (λ _. drop_goes n))
      (goes_or (goes_bind (goes_word n k.Truncate refl) (λ _. truncate_goes))
      (goes_or (goes_bind (goes_word n k.Show refl) (λ _. show_goes n))
      (goes_or (goes_bind (goes_word n k.Describe refl) (λ _. describe_goes n))
      (goes_or (goes_bind (goes_word n k.Alter refl) (λ _. compact_goes))
      (goes_or (goes_bind (goes_word n k.Abort refl) (λ _. abort_goes n))
      (goes_bind (goes_word n k.Explain refl) (λ _. explain_goes)))))))))))))

pub statement_goes : (depth n : ℕ) → n ≤ most_levels → Goes n n (t.statement depth) (t.statement (suc most_levels))
unfolding t.statement
statement_goes depth n le = statement_over_goes (g.expr depth) (g.expr (suc most_levels)) (q.query (g.expr depth) depth) (q.query (g.expr (suc most_levels)) (suc most_levels))
    (λ n le. any_goes depth n le) (λ n le. any_query_goes depth n le) n le
