-- What is read is spelled, production by production.
use Rattle.std.proofs.Common.{suc, true, false, []}
use Rattle.hv_ast.specs.declared.expr.Expr.{Expr}
use Rattle.hv_ast.specs.declared.query.Source.{Source}
use Rattle.hv_ast.specs.declared.query.Query.{Query}
use Rattle.hv_ast.specs.declared.change.Rows.TheVariants as from
use Rattle.hv_ast.specs.declared.change.MergeAction.TheVariants as action
use Rattle.hv_ast.specs.declared.statement.Show.TheVariants as shown
use Rattle.hv_ast.specs.declared.statement.Stmt.TheVariants as s
use Rattle.hv_grammar.specs.declared.kind.Kind.{Kind}
use Rattle.hv_grammar.specs.declared.kind.Kind.TheVariants as k
use Rattle.hv_grammar.specs.Nesting.{most_levels}
use Rattle.hv_grammar.specs.Rules.{Rule}
use Rattle.hv_grammar.specs.Rules as rule
use Rattle.hv_grammar.specs.Readers.{Reader, sees}
use Rattle.hv_grammar.specs.Choices as c
use Rattle.hv_grammar.specs.Reading as reading
use Rattle.hv_grammar.specs.QueryReading.{condition}
use Rattle.hv_grammar.specs.StatementGrammar as g
use Rattle.hv_grammar.specs.StatementReading as r
use Rattle.hv_parse_expr.proofs.Joins.{Sound, SoundAt, IsKind, sound_give, sound_bind, sound_word, sound_pass, sound_eat, sound_flag, sound_held, sound_separated, sound_peek, at_left, at_right, at_any, at_refuse}
use Rattle.hv_parse_expr.proofs.Spelled.{expr_sound, name_sound, type_sound, list_sound}
use Rattle.hv_parse_query.proofs.Sounds.{sound_if, sound_perhaps, sound_bracketed, sound_some}
use Rattle.hv_parse_query.proofs.Spelled.{number_sound, table_name_sound, optional_alias_sound, source_sound, query_sound}
use Rattle.hv_parse_stmt.specs.Exact.{ReadIsSpelled}

pub string_sound : Sound g.string reading.string
unfolding reading.string
string_sound = sound_held (λ token. c.string_in token.what)

pub names_sound : Sound g.names r.names
unfolding g.names r.names
names_sound = sound_separated k.Comma tt name_sound

-- ---- what a table is made of

pub if_exists_sound : Sound g.if_exists r.if_exists
unfolding g.if_exists r.if_exists
if_exists_sound = sound_eat k.If tt (sound_bind (sound_word k.Exists tt) (λ _. sound_give true)) (sound_give false)

pub if_absent_sound : Sound g.if_absent r.if_absent
unfolding g.if_absent r.if_absent
if_absent_sound = sound_eat k.If tt (sound_bind (sound_word k.Not tt) (λ _. sound_bind (sound_word k.Exists tt) (λ _. sound_give true))) (sound_give false)

pub comment_sound : Sound (rule.perhaps k.Comment g.string) r.comment
unfolding r.comment
comment_sound = sound_perhaps k.Comment tt string_sound

pub column_sound : Sound g.column r.column
unfolding g.column r.column
column_sound = sound_bind name_sound (λ name. sound_bind type_sound (λ kind. sound_bind comment_sound (λ comment.
    sound_give (record { name = name; kind = kind; comment = comment }))))

pub columns_sound : Sound g.columns r.columns
unfolding g.columns r.columns r.column_list
columns_sound = sound_bracketed (sound_separated k.Comma tt column_sound)

pub partitioned_sound : Sound g.partitioned r.partitioned
unfolding g.partitioned r.partitioned
partitioned_sound = sound_eat k.Partitioned tt (sound_bind (sound_word k.By tt) (λ _. columns_sound)) (sound_give [])

pub bracketed_names_sound : Sound (rule.bracketed g.names) r.bracketed_names
unfolding r.bracketed_names
bracketed_names_sound = sound_bracketed names_sound

pub clustering_sound : Sound g.clustering r.clustering
unfolding g.clustering r.clustering
clustering_sound = sound_bind (sound_word k.By tt) (λ _. sound_bind bracketed_names_sound (λ columns. sound_bind (sound_word k.Into tt) (λ _.
    sound_bind number_sound (λ count. sound_bind (sound_word k.Buckets tt) (λ _. sound_give (record { columns = columns; count = count }))))))

pub clustered_sound : Sound (rule.perhaps k.Clustered g.clustering) r.clustered
unfolding r.clustered
clustered_sound = sound_perhaps k.Clustered tt clustering_sound

pub stored_sound : Sound g.stored r.stored
unfolding g.stored r.stored
stored_sound = sound_eat k.Stored tt (sound_bind (sound_word k.As tt) (λ _. sound_bind (sound_word k.Orc tt) (λ _. sound_give true))) (sound_give false)

pub property_sound : Sound g.property r.property
unfolding g.property r.property
property_sound = sound_bind string_sound (λ key. sound_bind (sound_word k.Equal tt) (λ _. sound_bind string_sound (λ value.
    sound_give (record { key = key; value = value }))))

pub properties_sound : Sound g.properties r.properties
unfolding g.properties r.properties r.property_list
properties_sound = sound_eat k.TblProperties tt (sound_bracketed (sound_separated k.Comma tt property_sound)) (sound_give [])

pub create_sound : Sound g.create r.create
unfolding g.create r.create
create_sound = sound_bind (sound_word k.Table tt) (λ _. sound_bind if_absent_sound (λ if_absent. sound_bind table_name_sound (λ table.
    sound_bind columns_sound (λ columns. sound_bind comment_sound (λ comment. sound_bind partitioned_sound (λ partitions.
    sound_bind clustered_sound (λ clustering. sound_bind stored_sound (λ stored. sound_bind properties_sound (λ properties.
    sound_give (s.CreateTable (record {
      if_absent = if_absent;
      table = table;
      columns = columns;
      comment = comment;
      partitions = partitions;
      clustering = clustering;
      stored = stored;
      properties = properties;
    })))))))))))

pub drop_table_sound : Sound g.drop_table r.drop_table
unfolding g.drop_table r.drop_table
drop_table_sound = sound_bind (sound_word k.Table tt) (λ _. sound_bind if_exists_sound (λ if_exists. sound_bind table_name_sound (λ table.
    sound_bind (sound_flag k.Purge tt) (λ purge. sound_give (s.DropTable (record { if_exists = if_exists; table = table; purge = purge }))))))

-- ---- what is asked of the warehouse

show_at : (kind : Kind) → SoundAt kind g.show (r.show_by kind)
unfolding g.show
show_at k.Tables = at_left (sound_pass k.Tables tt (sound_give (s.Show shown.Tables)))
show_at k.Partitions = at_right (at_left (sound_pass k.Partitions tt (sound_bind table_name_sound (λ table. sound_give (s.Show (shown.Partitions table))))))
show_at k.Transactions = at_right (at_right (at_left (sound_pass k.Transactions tt (sound_give (s.Show shown.Transactions)))))
show_at k.Locks = at_right (at_right (at_right (at_left (sound_pass k.Locks tt (sound_give (s.Show shown.Locks))))))
show_at k.Compactions = at_right (at_right (at_right (at_right (sound_pass k.Compactions tt (sound_give (s.Show shown.Compactions))))))
show_at kind = at_refuse kind

pub show_sound : Sound g.show r.show
unfolding r.show
show_sound = sound_peek show_at

pub describe_sound : Sound g.describe r.describe
unfolding g.describe r.describe
describe_sound = sound_bind table_name_sound (λ table. sound_give (s.Describe table))

pub compaction_sound : Sound g.compaction r.compaction
unfolding r.compaction
compaction_sound = sound_held (λ token. c.compaction_in token.what)

pub numbers_sound : Sound g.numbers r.numbers
unfolding g.numbers r.numbers r.more_numbers
numbers_sound = sound_some c.is_number number_sound

pub abort_sound : Sound g.abort r.abort
unfolding g.abort r.abort
abort_sound = sound_bind (sound_word k.Transactions tt) (λ _. sound_bind numbers_sound (λ numbers. sound_give (s.AbortTransactions numbers)))

-- ---- over expressions and queries

module _ (p : Rule Expr) (q : Reader Expr) (E : Sound p q) (f : Rule (Query Source)) (h : Reader (Query Source)) (Q : Sound f h) where
  condition_sound : (kind : Kind) → IsKind kind → Sound (rule.perhaps kind p) (condition q kind)
  unfolding condition
  condition_sound kind is = sound_perhaps kind is E

  pub partition_item_sound : Sound (g.partition_item p f) (r.partition_item q h)
  unfolding g.partition_item r.partition_item
  partition_item_sound = sound_bind name_sound (λ name. sound_bind (condition_sound k.Equal tt) (λ value. sound_give (record { name = name; value = value })))

  pub partition_sound : Sound (g.partition p f) (r.partition q h)
  unfolding g.partition r.partition r.partition_items
  partition_sound = sound_eat k.Partition tt (sound_bracketed (sound_separated k.Comma tt partition_item_sound)) (sound_give [])

  pub column_names_sound : Sound (g.column_names p f) (r.column_names q h)
  unfolding g.column_names r.column_names
  column_names_sound = sound_if (sees k.Open) bracketed_names_sound (sound_give [])

  pub row_sound : Sound (g.row p f) (r.row q h)
  unfolding g.row r.row
  row_sound = sound_bracketed (list_sound p q E)

  pub inserted_sound : Sound (g.inserted p f) (r.inserted q h)
  unfolding g.inserted r.inserted r.row_list
  inserted_sound = sound_eat k.Values tt (sound_bind (sound_separated k.Comma tt row_sound) (λ rows. sound_give (from.Values rows)))
      (sound_bind Q (λ rows. sound_give (from.Query rows)))

  pub overwrite_sound : Sound (g.overwrite p f) (r.overwrite q h)
  unfolding g.overwrite r.overwrite
  overwrite_sound = sound_eat k.Overwrite tt (sound_bind (sound_word k.Table tt) (λ _. sound_give true))
      (sound_bind (sound_word k.Into tt) (λ _. sound_bind (sound_flag k.Table tt) (λ _. sound_give false)))

  pub insert_sound : Sound (g.insert p f) (r.insert q h)
  unfolding g.insert r.insert
  insert_sound = sound_bind overwrite_sound (λ overwrite. sound_bind table_name_sound (λ table. sound_bind partition_sound (λ partition.
      sound_bind column_names_sound (λ columns. sound_bind inserted_sound (λ rows.
      sound_give (s.Insert (record { overwrite = overwrite; table = table; partition = partition; columns = columns; rows = rows })))))))

  pub assignment_sound : Sound (g.assignment p f) (r.assignment q h)
  unfolding g.assignment r.assignment
  assignment_sound = sound_bind name_sound (λ column. sound_bind (sound_word k.Equal tt) (λ _. sound_bind E (λ value.
      sound_give (record { column = column; value = value }))))

  pub assignments_sound : Sound (g.assignments p f) (r.assignments q h)
  unfolding g.assignments r.assignments r.assignment_list
  assignments_sound = sound_bind (sound_word k.Set tt) (λ _. sound_separated k.Comma tt assignment_sound)

  pub update_sound : Sound (g.update p f) (r.update q h)
  unfolding g.update r.update
  update_sound = sound_bind table_name_sound (λ table. sound_bind assignments_sound (λ assignments. sound_bind (condition_sound k.Where tt) (λ filter.
      sound_give (s.Update (record { table = table; assignments = assignments; filter = filter })))))

  pub delete_sound : Sound (g.delete p f) (r.delete q h)
  unfolding g.delete r.delete
  delete_sound = sound_bind (sound_word k.From tt) (λ _. sound_bind table_name_sound (λ table. sound_bind (condition_sound k.Where tt) (λ filter.
      sound_give (s.Delete (record { table = table; filter = filter })))))

  -- ---- MERGE

  pub matched_action_sound : Sound (g.matched_action p f) (r.matched_action q h)
  unfolding g.matched_action r.matched_action
  matched_action_sound = sound_eat k.Update tt (sound_bind assignments_sound (λ found. sound_give (action.Update found)))
      (sound_bind (sound_word k.Delete tt) (λ _. sound_give action.Delete))

  pub unmatched_action_sound : Sound (g.unmatched_action p f) (r.unmatched_action q h)
  unfolding g.unmatched_action r.unmatched_action
  unmatched_action_sound = sound_bind (sound_word k.Insert tt) (λ _. sound_bind (sound_word k.Values tt) (λ _. sound_bind row_sound (λ values.
      sound_give (action.Insert values))))

  pub matched_clause_sound : Sound (g.acts p f (g.matched_action p f)) (r.matched_clause q h)
  unfolding g.acts r.matched_clause
  matched_clause_sound = sound_bind (condition_sound k.And tt) (λ condition. sound_bind (sound_word k.Then tt) (λ _. sound_bind matched_action_sound (λ action.
      sound_give (record { condition = condition; action = action }))))

  pub unmatched_clause_sound : Sound (g.acts p f (g.unmatched_action p f)) (r.unmatched_clause q h)
  unfolding g.acts r.unmatched_clause
  unmatched_clause_sound = sound_bind (condition_sound k.And tt) (λ condition. sound_bind (sound_word k.Then tt) (λ _. sound_bind unmatched_action_sound (λ action.
      sound_give (record { condition = condition; action = action }))))

  pub merge_clause_sound : Sound (g.merge_clause p f) (r.merge_clause q h)
  unfolding g.merge_clause r.merge_clause
  merge_clause_sound = sound_eat k.Not tt (sound_bind (sound_word k.Matched tt) (λ _. unmatched_clause_sound))
      (sound_bind (sound_word k.Matched tt) (λ _. matched_clause_sound))

  pub merge_clauses_sound : Sound (rule.separated k.When (g.merge_clause p f)) (r.merge_clauses q h)
  unfolding r.merge_clauses
  merge_clauses_sound = sound_separated k.When tt merge_clause_sound

  pub merge_sound : Sound (g.merge p f) (r.merge q h)
  unfolding g.merge r.merge
  merge_sound = sound_bind (sound_word k.Into tt) (λ _. sound_bind table_name_sound (λ table. sound_bind optional_alias_sound (λ alias.
      sound_bind (sound_word k.Using tt) (λ _. sound_bind (source_sound p q E f h Q) (λ other. sound_bind (sound_word k.On tt) (λ _. sound_bind E (λ on.
      sound_bind (sound_word k.When tt) (λ _. sound_bind merge_clauses_sound (λ clauses.
      sound_give (s.Merge (record { table = table; alias = alias; source = other; on = on; clauses = clauses })))))))))))

  -- ---- the rest, and the whole

  pub truncate_sound : Sound (g.truncate p f) (r.truncate q h)
  unfolding g.truncate r.truncate
  truncate_sound = sound_bind (sound_flag k.Table tt) (λ _. sound_bind table_name_sound (λ table. sound_bind partition_sound (λ partition.
      sound_give (s.Truncate (record { table = table; partition = partition })))))

  pub compact_sound : Sound (g.compact p f) (r.compact q h)
  unfolding g.compact r.compact
  compact_sound = sound_bind (sound_word k.Table tt) (λ _. sound_bind table_name_sound (λ table. sound_bind partition_sound (λ partition.
      sound_bind (sound_word k.Compact tt) (λ _. sound_bind compaction_sound (λ kind.
      sound_give (s.Compact (record { table = table; partition = partition; kind = kind })))))))

  pub explain_sound : Sound (g.explain p f) (r.explain q h)
  unfolding g.explain r.explain
  explain_sound = sound_bind (sound_word k.Formatted tt) (λ _. sound_bind Q (λ explained. sound_give (s.Explain explained)))

  pub queried_sound : Sound (g.queried p f) (r.queried q h)
  unfolding g.queried r.queried
  queried_sound = sound_bind Q (λ found. sound_give (s.Query found))

  statement_at : (kind : Kind) → SoundAt kind (g.statement_over p f) (r.statement_by q h kind)
  unfolding g.statement_over
  statement_at k.Select = at_left (at_any k.Select queried_sound)
  statement_at k.Insert = at_right (at_left (sound_pass k.Insert tt insert_sound))
  statement_at k.Update = at_right (at_right (at_left (sound_pass k.Update tt update_sound)))
  statement_at k.Delete = at_right (at_right (at_right (at_left (sound_pass k.Delete tt delete_sound))))
  statement_at k.Merge = at_right (at_right (at_right (at_right (at_left (sound_pass k.Merge tt merge_sound)))))
  statement_at k.Create = at_right (at_right (at_right (at_right (at_right (at_left (sound_pass k.Create tt create_sound))))))
  statement_at k.Drop = at_right (at_right (at_right (at_right (at_right (at_right (at_left (sound_pass k.Drop tt drop_table_sound)))))))
  statement_at k.Truncate = at_right (at_right (at_right (at_right (at_right (at_right (at_right (at_left (sound_pass k.Truncate tt truncate_sound))))))))
  statement_at k.Show = at_right (at_right (at_right (at_right (at_right (at_right (at_right (at_right (at_left (sound_pass k.Show tt show_sound)))))))))
  statement_at k.Describe = at_right (at_right (at_right (at_right (at_right (at_right (at_right (at_right (at_right (at_left (sound_pass k.Describe tt describe_sound))))))))))
  statement_at k.Alter = at_right (at_right (at_right (at_right (at_right (at_right (at_right (at_right (at_right (at_right (at_left (sound_pass k.Alter tt compact_sound)))))))))))
  statement_at k.Abort = at_right (at_right (at_right (at_right (at_right (at_right (at_right (at_right (at_right (at_right (at_right (at_left (sound_pass k.Abort tt abort_sound))))))))))))
  statement_at k.Explain = at_right (at_right (at_right (at_right (at_right (at_right (at_right (at_right (at_right (at_right (at_right (at_right (sound_pass k.Explain tt explain_sound))))))))))))
  statement_at kind = at_refuse kind

  pub statement_over_sound : Sound (g.statement_over p f) (r.statement_over q h)
  unfolding r.statement_over
  statement_over_sound = sound_peek statement_at

-- whatever a statement nests
pub statement_sound : Sound (g.statement (suc most_levels)) r.statement
unfolding g.statement r.statement
statement_sound =
    let E = expr_sound (suc most_levels) in
    statement_over_sound _ _ E _ _ (query_sound _ _ E (suc most_levels))

pub read_spelled : ReadIsSpelled
read_spelled from to tree h = (statement_sound.spelled from tree to h).0
