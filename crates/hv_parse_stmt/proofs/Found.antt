-- What is spelled is read, production by production, where what stands behind can't continue it.
use Rattle.std.proofs.Common.{◌≡◌, ℕ, zero, suc, true, false, Some, None, List, [], refl, ap, ◌∙◌}
use Rattle.hv_ast.specs.declared.token.Token.{Token}
use Rattle.hv_ast.specs.declared.token.Lexeme.{Lexeme}
use Rattle.hv_ast.specs.declared.token.Lexeme.TheVariants as lexeme
use Rattle.hv_ast.specs.declared.expr.Expr.{Expr}
use Rattle.hv_ast.specs.declared.query.Source.{Source}
use Rattle.hv_ast.specs.declared.query.Query.{Query}
use Rattle.hv_ast.specs.declared.change.Rows.TheVariants as from
use Rattle.hv_ast.specs.declared.change.MergeAction.TheVariants as action
use Rattle.hv_ast.specs.declared.statement.Show.TheVariants as shown
use Rattle.hv_ast.specs.declared.statement.Stmt.TheVariants as s
use Rattle.hv_grammar.specs.declared.kind.Kind.{Kind}
use Rattle.hv_grammar.specs.declared.kind.Kind.TheVariants as k
use Rattle.hv_grammar.specs.Kinds.{kind_of}
use Rattle.hv_grammar.specs.Nesting.{most_levels}
use Rattle.hv_grammar.specs.Rules.{Rule}
use Rattle.hv_grammar.specs.Rules as rule
use Rattle.hv_grammar.specs.Readers.{Reader, kind_at}
use Rattle.hv_grammar.specs.Choices as c
use Rattle.hv_grammar.specs.Choices.{binds}
use Rattle.hv_grammar.specs.Reading as reading
use Rattle.hv_grammar.specs.QueryGrammar as query
use Rattle.hv_grammar.specs.QueryReading as query_reading
use Rattle.hv_grammar.specs.StatementGrammar as g
use Rattle.hv_grammar.specs.StatementReading as r
use Rattle.hv_parse_expr.proofs.Joins.{Sound}
use Rattle.hv_parse_expr.proofs.Below.{Any, Below, Without, lower, below_at, below_without, without_at}
use Rattle.hv_parse_expr.proofs.Begins.{Begins, Stop, End, end_at}
use Rattle.hv_parse_expr.proofs.Wholes.{Whole, whole_give, whole_then, whole_word, whole_eat, whole_flag, whole_held}
use Rattle.hv_parse_expr.proofs.Rows.{whole_separated}
use Rattle.hv_parse_expr.proofs.Found.{name_whole, type_whole, list_whole, expr_whole}
use Rattle.hv_parse_expr.proofs.Spelled.{name_sound, expr_sound}
use Rattle.hv_parse_query.proofs.Ranks.{Behind, rank}
use Rattle.hv_parse_query.proofs.Wholes.{Leads, leads_give, leads_word, leads_bind, leads_first, leads_or, leads_option, avoids, whole_weak, whole_next, whole_map, whole_perhaps, whole_bracketed}
use Rattle.hv_parse_query.proofs.Found.{NoAlias, number_whole, table_name_whole, optional_alias_whole, leads_table_name, leads_optional_alias, name_without, condition_whole, source_whole}
use Rattle.hv_parse_query.proofs.Spelled.{query_sound}
use Rattle.hv_parse_query.proofs.Starred.{no_expr}
use Rattle.hv_parse_query.proofs.Whole.{any_query_whole}
use Rattle.hv_parse_stmt.proofs.Wholes.{At, Part, wherever, leads_at, part_next, part_map, whole_look, whole_or, whole_led, whole_case, takes_held, whole_some}
use Rattle.hv_parse_stmt.proofs.Spelled as sound

-- nothing stands behind
abbrev pub Last : List Token → Type 0
Last = At k.Nothing

-- ---- words and lists

pub string_whole : Whole Any g.string reading.string
unfolding reading.string
string_whole = whole_held (λ token. c.string_in token.what)

compaction_whole : Whole Any g.compaction r.compaction
unfolding r.compaction
compaction_whole = whole_held (λ token. c.compaction_in token.what)

names_whole : Whole (Without k.Comma) g.names r.names
unfolding g.names r.names
names_whole = whole_separated {S = Without k.Comma} k.Comma name_whole name_sound (λ t e. tt) (λ t e. tt) (λ t s. s)

bracketed_names_whole : Whole Any (rule.bracketed g.names) r.bracketed_names
unfolding r.bracketed_names
bracketed_names_whole = whole_bracketed names_whole (without_at k.Comma k.Close (λ e. cc))

-- a table's name leads to what no name is
table_leads : {S : List Token → Type 0} (kind : Kind) → c.is_name kind ≡ false → Leads (Without kind) S query.table_name
table_leads kind other = leads_table_name (λ t is. name_without kind other t is)

-- ---- what a table is made of

if_exists_whole : Whole (Without k.If) g.if_exists r.if_exists
unfolding g.if_exists r.if_exists
if_exists_whole = whole_eat k.If (whole_then (whole_word k.Exists) (λ _. whole_give true)) (whole_give false) (avoids (leads_give (λ t s. s)))

if_absent_whole : Whole (Without k.If) g.if_absent r.if_absent
unfolding g.if_absent r.if_absent
if_absent_whole = whole_eat k.If (whole_then (whole_word k.Not) (λ _. whole_then (whole_word k.Exists) (λ _. whole_give true))) (whole_give false) (avoids (leads_give (λ t s. s)))

comment_whole : Whole (Without k.Comment) (rule.perhaps k.Comment g.string) r.comment
unfolding r.comment
comment_whole = whole_perhaps k.Comment (wherever string_whole) (λ t s. s)

column_whole : Whole (Without k.Comment) g.column r.column
unfolding g.column r.column
column_whole = whole_then name_whole (λ name. whole_then type_whole (λ kind. whole_map (λ comment. record { name = name; kind = kind; comment = comment }) comment_whole))

columns_whole : Whole Any g.columns r.columns
unfolding g.columns r.columns r.column_list
columns_whole = whole_bracketed
    (whole_separated {S = At k.Close} k.Comma column_whole sound.column_sound
    (without_at k.Comment k.Comma (λ e. cc)) (without_at k.Comment k.Close (λ e. cc)) (without_at k.Comma k.Close (λ e. cc)))
    (λ t at. at)

columns_lead : {T S : List Token → Type 0} → ((t : List Token) → kind_at t ≡ k.Open → T t) → Leads T S g.columns
unfolding g.columns
columns_lead at = leads_first (leads_word k.Open at)

partitioned_whole : Whole (Without k.Partitioned) g.partitioned r.partitioned
unfolding g.partitioned r.partitioned
partitioned_whole = whole_eat k.Partitioned (whole_then (whole_word k.By) (λ _. wherever columns_whole)) (whole_give []) (avoids (leads_give (λ t s. s)))

clustering_whole : Whole Any g.clustering r.clustering
unfolding g.clustering r.clustering
clustering_whole = whole_then (whole_word k.By) (λ _. whole_then bracketed_names_whole (λ columns. whole_then (whole_word k.Into) (λ _.
    whole_then number_whole (λ count. whole_then (whole_word k.Buckets) (λ _. whole_give (record { columns = columns; count = count }))))))

clustered_whole : Whole (Without k.Clustered) (rule.perhaps k.Clustered g.clustering) r.clustered
unfolding r.clustered
clustered_whole = whole_perhaps k.Clustered (wherever clustering_whole) (λ t s. s)

stored_whole : Whole (Without k.Stored) g.stored r.stored
unfolding g.stored r.stored
stored_whole = whole_eat k.Stored (whole_then (whole_word k.As) (λ _. whole_then (whole_word k.Orc) (λ _. whole_give true))) (whole_give false) (avoids (leads_give (λ t s. s)))

property_whole : Whole Any g.property r.property
unfolding g.property r.property
property_whole = whole_then string_whole (λ key. whole_then (whole_word k.Equal) (λ _. whole_map (λ value. record { key = key; value = value }) string_whole))

properties_whole : Whole (Without k.TblProperties) g.properties r.properties
unfolding g.properties r.properties r.property_list
properties_whole = whole_eat k.TblProperties
    (wherever (whole_bracketed
    (whole_separated {S = At k.Close} k.Comma property_whole sound.property_sound (λ t e. tt) (λ t e. tt) (without_at k.Comma k.Close (λ e. cc)))
    (λ t at. at)))
    (whole_give []) (avoids (leads_give (λ t s. s)))

-- how early among the clauses of CREATE one stands, from the last on
abbrev clause : Kind → ℕ
clause k.Nothing = 0
clause k.TblProperties = 1
clause k.Stored = 2
clause k.Clustered = 3
clause k.Partitioned = 4
clause k.Comment = 5
clause _ = 6

comment_part : Part (Below clause 6) (Below clause 5) (rule.perhaps k.Comment g.string) r.comment
comment_part = record {
  whole = whole_weak (below_without clause 5 k.Comment refl) comment_whole;
  leads = leads_option k.Comment (below_at clause 6 k.Comment refl) (lower clause 5 6 refl);
}

partitioned_part : Part (Below clause 5) (Below clause 4) g.partitioned r.partitioned
unfolding g.partitioned
partitioned_part = record {
  whole = whole_weak (below_without clause 4 k.Partitioned refl) partitioned_whole;
  leads = leads_option k.Partitioned (below_at clause 5 k.Partitioned refl) (lower clause 4 5 refl);
}

clustered_part : Part (Below clause 4) (Below clause 3) (rule.perhaps k.Clustered g.clustering) r.clustered
clustered_part = record {
  whole = whole_weak (below_without clause 3 k.Clustered refl) clustered_whole;
  leads = leads_option k.Clustered (below_at clause 4 k.Clustered refl) (lower clause 3 4 refl);
}

stored_part : Part (Below clause 3) (Below clause 2) g.stored r.stored
unfolding g.stored
stored_part = record {
  whole = whole_weak (below_without clause 2 k.Stored refl) stored_whole;
  leads = leads_option k.Stored (below_at clause 3 k.Stored refl) (lower clause 2 3 refl);
}

properties_part : Part (Below clause 2) (Below clause 1) g.properties r.properties
unfolding g.properties
properties_part = record {
  whole = whole_weak (below_without clause 1 k.TblProperties refl) properties_whole;
  leads = leads_option k.TblProperties (below_at clause 2 k.TblProperties refl) (lower clause 1 2 refl);
}

create_whole : Whole Last g.create r.create
unfolding g.create r.create
create_whole = whole_then (whole_word k.Table) (λ _. whole_next if_absent_whole (λ if_absent. whole_next table_name_whole (λ table. whole_then columns_whole (λ columns.
    whole_weak (below_at clause 1 k.Nothing refl)
    (part_next comment_part (λ comment. part_next partitioned_part (λ partitions. part_next clustered_part (λ clustering. part_next stored_part (λ stored.
    part_map (λ properties. s.CreateTable (record {
      if_absent = if_absent;
      table = table;
      columns = columns;
      comment = comment;
      partitions = partitions;
      clustering = clustering;
      stored = stored;
      properties = properties;
    })) properties_part))))).whole))
    (λ table. leads_first (columns_lead (without_at k.Dot k.Open (λ e. cc)))))
    (λ if_absent. leads_first (table_leads k.If refl)))

drop_whole : Whole Last g.drop_table r.drop_table
unfolding g.drop_table r.drop_table
drop_whole = whole_then (whole_word k.Table) (λ _. whole_next if_exists_whole (λ if_exists. whole_next table_name_whole
    (λ table. whole_flag k.Purge (λ purge. whole_give (s.DropTable (record { if_exists = if_exists; table = table; purge = purge })))
    (avoids (leads_give (without_at k.Purge k.Nothing (λ e. cc)))))
    (λ table. leads_bind {U = Without k.Dot} (leads_option k.Purge (without_at k.Dot k.Purge (λ e. cc)) (λ t s. s)) (λ purge. leads_give (without_at k.Dot k.Nothing (λ e. cc)))))
    (λ if_exists. leads_first (table_leads k.If refl)))

-- ---- what is asked of the warehouse

show_whole : Whole Last g.show r.show
unfolding g.show r.show
show_whole =
    whole_or (whole_case r.show_by k.Tables (whole_give (s.Show shown.Tables)) (λ t. refl))
    (whole_or (whole_case r.show_by k.Partitions (whole_map (λ table. s.Show (shown.Partitions table)) (whole_weak (without_at k.Dot k.Nothing (λ e. cc)) table_name_whole)) (λ t. refl))
    (whole_or (whole_case r.show_by k.Transactions (whole_give (s.Show shown.Transactions)) (λ t. refl))
    (whole_or (whole_case r.show_by k.Locks (whole_give (s.Show shown.Locks)) (λ t. refl))
    (whole_case r.show_by k.Compactions (whole_give (s.Show shown.Compactions)) (λ t. refl)))))

describe_whole : Whole Last g.describe r.describe
unfolding g.describe r.describe
describe_whole = whole_map s.Describe (whole_weak (without_at k.Dot k.Nothing (λ e. cc)) table_name_whole)

number_lexeme : (what : Lexeme) (n : ℕ) → c.number_in what ≡ Some n → c.is_number (kind_of what) ≡ true
unfolding kind_of
number_lexeme (lexeme.Int number) n h = refl
number_lexeme (lexeme.Big number) n h = refl
number_lexeme what n h = absurd (cc)

number_kind : (n : ℕ) (from to : List Token) → query.number n from to → c.is_number (kind_at from) ≡ true
unfolding kind_at
number_kind n from to s = ap (λ t. c.is_number (kind_at t)) s.2 ∙ number_lexeme s.0.what n s.1

numbers_whole : Whole Last g.numbers r.numbers
unfolding g.numbers r.numbers r.more_numbers
numbers_whole = whole_some c.is_number number_whole (takes_held (λ token. c.number_in token.what)) number_kind (λ t at. ap c.is_number at)

abort_whole : Whole Last g.abort r.abort
unfolding g.abort r.abort
abort_whole = whole_then (whole_word k.Transactions) (λ _. whole_map s.AbortTransactions numbers_whole)

-- ---- over expressions and queries

-- a query begins with SELECT
query_leads : (p : Rule Expr) (depth : ℕ) → Leads (At k.Select) Any (query.query p depth)
unfolding query.query query.query_over query.select
query_leads p zero = record { leads = λ b from to s stop. absurd s }
query_leads p (suc depth) = leads_first (leads_first (leads_word k.Select (λ t at. at)))

-- how early among the clauses of INSERT one stands, from the last on
abbrev inserts : Kind → ℕ
inserts k.Values = 0
inserts k.Select = 0
inserts k.Open = 1
inserts k.Partition = 2
inserts _ = 3

module _ (p : Rule Expr) (q : Reader Expr) (E : Whole (Stop 1) p q) (B : Begins 1 p) (K : Sound p q)
    (N : (tokens : List Token) → query_reading.sees_all_of tokens ≡ true → q tokens ≡ None)
    (f : Rule (Query Source)) (h : Reader (Query Source)) (W : Whole (Behind 1) f h) (F : Leads (At k.Select) Any f) (Q : Sound f h) where
  last_query : Whole Last f h
  last_query = whole_weak (below_at rank 1 k.Nothing refl) W

  where_whole : Whole Last (rule.perhaps k.Where p) (query_reading.condition q k.Where)
  where_whole = condition_whole p q E B K N k.Where (below_at binds 1 k.Nothing refl) (without_at k.Where k.Nothing (λ e. cc))

  partition_item_whole : Whole (Stop 1) (g.partition_item p f) (r.partition_item q h)
  unfolding g.partition_item r.partition_item
  partition_item_whole = whole_then name_whole (λ name. whole_map (λ value. record { name = name; value = value })
      (condition_whole p q E B K N k.Equal (λ t s. s) (below_without binds 1 k.Equal refl)))

  partition_whole : Whole (Without k.Partition) (g.partition p f) (r.partition q h)
  unfolding g.partition r.partition r.partition_items
  partition_whole = whole_eat k.Partition
      (wherever (whole_bracketed
      (whole_separated {S = At k.Close} k.Comma partition_item_whole (sound.partition_item_sound p q K f h Q)
      (below_at binds 1 k.Comma refl) (below_at binds 1 k.Close refl) (without_at k.Comma k.Close (λ e. cc)))
      (λ t at. at)))
      (whole_give []) (avoids (leads_give (λ t s. s)))

  partition_leads : {T S : List Token → Type 0} → ((t : List Token) → kind_at t ≡ k.Partition → T t) → ((t : List Token) → S t → T t) → Leads T S (g.partition p f)
  unfolding g.partition
  partition_leads at weak = leads_option k.Partition at weak

  column_names_whole : Whole (Without k.Open) (g.column_names p f) (r.column_names q h)
  unfolding g.column_names r.column_names
  column_names_whole = whole_look k.Open (wherever bracketed_names_whole) (leads_first (leads_word k.Open (λ t at. at))) (whole_give []) (leads_give (λ t s. s))

  row_whole : Whole Any (g.row p f) (r.row q h)
  unfolding g.row r.row
  row_whole = whole_bracketed (list_whole p q E B K) (end_at 1 k.Comma k.Close refl (λ e. cc))

  inserted_whole : Whole Last (g.inserted p f) (r.inserted q h)
  unfolding g.inserted r.inserted r.row_list
  inserted_whole = whole_eat k.Values
      (whole_map from.Values (whole_separated {S = Last} k.Comma row_whole (sound.row_sound p q K f h Q) (λ t e. tt) (λ t e. tt) (without_at k.Comma k.Nothing (λ e. cc))))
      (whole_map from.Query last_query)
      (avoids (leads_first (leads_at F (without_at k.Values k.Select (λ e. cc)))))

  overwrite_whole : Whole (Without k.Table) (g.overwrite p f) (r.overwrite q h)
  unfolding g.overwrite r.overwrite
  overwrite_whole = whole_eat k.Overwrite (whole_then (whole_word k.Table) (λ _. whole_give true))
      (whole_then (whole_word k.Into) (λ _. whole_flag k.Table (λ _. whole_give false) (avoids (leads_give (λ t s. s)))))
      (avoids (leads_first (leads_word k.Into (without_at k.Overwrite k.Into (λ e. cc)))))

  insert_table_part : Part (Without k.Table) (Below inserts 3) query.table_name query_reading.table_name
  insert_table_part = record {
    whole = whole_weak (below_without inserts 3 k.Dot refl) table_name_whole;
    leads = table_leads k.Table refl;
  }

  partition_part : Part (Below inserts 3) (Below inserts 2) (g.partition p f) (r.partition q h)
  partition_part = record {
    whole = whole_weak (below_without inserts 2 k.Partition refl) partition_whole;
    leads = partition_leads (below_at inserts 3 k.Partition refl) (lower inserts 2 3 refl);
  }

  column_names_part : Part (Below inserts 2) (Below inserts 1) (g.column_names p f) (r.column_names q h)
  unfolding g.column_names
  column_names_part = record {
    whole = whole_weak (below_without inserts 1 k.Open refl) column_names_whole;
    leads = leads_or (leads_first (leads_word k.Open (below_at inserts 2 k.Open refl))) (leads_give (lower inserts 1 2 refl));
  }

  inserted_part : Part (Below inserts 1) Last (g.inserted p f) (r.inserted q h)
  unfolding g.inserted
  inserted_part = record {
    whole = inserted_whole;
    leads = leads_or (leads_first (leads_word k.Values (below_at inserts 1 k.Values refl))) (leads_first (leads_at F (below_at inserts 1 k.Select refl)));
  }

  insert_whole : Whole Last (g.insert p f) (r.insert q h)
  unfolding g.insert r.insert
  insert_whole = whole_next {T = Without k.Table} overwrite_whole
      (λ overwrite. (part_next insert_table_part (λ table. part_next partition_part (λ partition. part_next column_names_part (λ columns.
      part_map (λ rows. s.Insert (record { overwrite = overwrite; table = table; partition = partition; columns = columns; rows = rows })) inserted_part)))).whole)
      (λ overwrite. leads_first (table_leads k.Table refl))

  -- ---- changes by conditions

  assignment_whole : Whole (Stop 1) (g.assignment p f) (r.assignment q h)
  unfolding g.assignment r.assignment
  assignment_whole = whole_then name_whole (λ column. whole_then (whole_word k.Equal) (λ _. whole_map (λ value. record { column = column; value = value }) E))

  assignments_whole : Whole (End 1 k.Comma) (g.assignments p f) (r.assignments q h)
  unfolding g.assignments r.assignments r.assignment_list
  assignments_whole = whole_then (whole_word k.Set) (λ _. whole_separated {S = End 1 k.Comma} k.Comma assignment_whole (sound.assignment_sound p q K f h Q)
      (below_at binds 1 k.Comma refl) (λ t s. s.0) (λ t s. s.1))

  assignments_lead : {T S : List Token → Type 0} → ((t : List Token) → kind_at t ≡ k.Set → T t) → Leads T S (g.assignments p f)
  unfolding g.assignments
  assignments_lead at = leads_first (leads_word k.Set at)

  update_whole : Whole Last (g.update p f) (r.update q h)
  unfolding g.update r.update
  update_whole = whole_next {T = Without k.Dot} table_name_whole
      (λ table. whole_next {T = End 1 k.Comma} assignments_whole
      (λ assignments. whole_map (λ filter. s.Update (record { table = table; assignments = assignments; filter = filter })) where_whole)
      (λ assignments. leads_bind {U = End 1 k.Comma} (leads_option k.Where (end_at 1 k.Comma k.Where refl (λ e. cc)) (λ t s. s))
      (λ filter. leads_give (end_at 1 k.Comma k.Nothing refl (λ e. cc)))))
      (λ table. leads_first (assignments_lead (without_at k.Dot k.Set (λ e. cc))))

  delete_whole : Whole Last (g.delete p f) (r.delete q h)
  unfolding g.delete r.delete
  delete_whole = whole_then (whole_word k.From) (λ _. whole_next {T = Without k.Dot} table_name_whole
      (λ table. whole_map (λ filter. s.Delete (record { table = table; filter = filter })) where_whole)
      (λ table. leads_bind {U = Without k.Dot} (leads_option k.Where (without_at k.Dot k.Where (λ e. cc)) (λ t s. s)) (λ filter. leads_give (without_at k.Dot k.Nothing (λ e. cc)))))

  -- ---- MERGE

  matched_action_whole : Whole (End 1 k.Comma) (g.matched_action p f) (r.matched_action q h)
  unfolding g.matched_action r.matched_action
  matched_action_whole = whole_eat k.Update (whole_map action.Update assignments_whole) (whole_then (whole_word k.Delete) (λ _. whole_give action.Delete))
      (avoids (leads_first (leads_word k.Delete (without_at k.Update k.Delete (λ e. cc)))))

  unmatched_action_whole : Whole Any (g.unmatched_action p f) (r.unmatched_action q h)
  unfolding g.unmatched_action r.unmatched_action
  unmatched_action_whole = whole_then (whole_word k.Insert) (λ _. whole_then (whole_word k.Values) (λ _. whole_map action.Insert row_whole))

  and_whole : Whole (At k.Then) (rule.perhaps k.And p) (query_reading.condition q k.And)
  and_whole = condition_whole p q E B K N k.And (below_at binds 1 k.Then refl) (without_at k.And k.Then (λ e. cc))

  matched_clause_whole : Whole (End 1 k.Comma) (g.acts p f (g.matched_action p f)) (r.matched_clause q h)
  unfolding g.acts r.matched_clause
  matched_clause_whole = whole_next {T = At k.Then} and_whole
      (λ condition. whole_then (whole_word k.Then) (λ _. whole_map (λ action. record { condition = condition; action = action }) matched_action_whole))
      (λ condition. leads_first (leads_word k.Then (λ t at. at)))

  unmatched_clause_whole : Whole (End 1 k.Comma) (g.acts p f (g.unmatched_action p f)) (r.unmatched_clause q h)
  unfolding g.acts r.unmatched_clause
  unmatched_clause_whole = whole_next {T = At k.Then} and_whole
      (λ condition. whole_then (whole_word k.Then) (λ _. whole_map (λ action. record { condition = condition; action = action }) (wherever unmatched_action_whole)))
      (λ condition. leads_first (leads_word k.Then (λ t at. at)))

  merge_clause_whole : Whole (End 1 k.Comma) (g.merge_clause p f) (r.merge_clause q h)
  unfolding g.merge_clause r.merge_clause
  merge_clause_whole = whole_eat k.Not (whole_then (whole_word k.Matched) (λ _. unmatched_clause_whole)) (whole_then (whole_word k.Matched) (λ _. matched_clause_whole))
      (avoids (leads_first (leads_word k.Matched (without_at k.Not k.Matched (λ e. cc)))))

  merge_clauses_whole : Whole Last (rule.separated k.When (g.merge_clause p f)) (r.merge_clauses q h)
  unfolding r.merge_clauses
  merge_clauses_whole = whole_separated {S = Last} k.When merge_clause_whole (sound.merge_clause_sound p q K f h Q)
      (end_at 1 k.Comma k.When refl (λ e. cc)) (end_at 1 k.Comma k.Nothing refl (λ e. cc)) (without_at k.When k.Nothing (λ e. cc))

  merge_whole : Whole Last (g.merge p f) (r.merge q h)
  unfolding g.merge r.merge
  merge_whole = whole_then (whole_word k.Into) (λ _. whole_next {T = Without k.Dot} table_name_whole
      (λ table. whole_next {T = NoAlias} optional_alias_whole
      (λ alias. whole_then (whole_word k.Using) (λ _. whole_next {T = Behind 11} (source_whole p q E B K N f h W Q)
      (λ other. whole_then (whole_word k.On) (λ _. whole_next {T = Stop 1} E
      (λ on. whole_then (whole_word k.When) (λ _. whole_map (λ clauses. s.Merge (record { table = table; alias = alias; source = other; on = on; clauses = clauses })) merge_clauses_whole))
      (λ on. leads_first (leads_word k.When (below_at binds 1 k.When refl)))))
      (λ other. leads_first (leads_word k.On (below_at rank 11 k.On refl)))))
      (λ alias. leads_first (leads_word k.Using (λ t at. ap c.begins_alias at))))
      (λ table. leads_bind {U = Without k.Dot} (leads_optional_alias (without_at k.Dot k.As (λ e. cc)) (name_without k.Dot refl) (λ t s. s))
      (λ alias. leads_first (leads_word k.Using (without_at k.Dot k.Using (λ e. cc))))))

  -- ---- the rest, and the whole

  truncate_whole : Whole Last (g.truncate p f) (r.truncate q h)
  unfolding g.truncate r.truncate
  truncate_whole = whole_flag k.Table
      (λ _. whole_next {T = Without k.Dot} table_name_whole
      (λ table. whole_map (λ partition. s.Truncate (record { table = table; partition = partition })) (whole_weak (without_at k.Partition k.Nothing (λ e. cc)) partition_whole))
      (λ table. leads_bind {U = Without k.Dot} (partition_leads (without_at k.Dot k.Partition (λ e. cc)) (λ t s. s)) (λ partition. leads_give (without_at k.Dot k.Nothing (λ e. cc)))))
      (avoids (leads_first (table_leads k.Table refl)))

  compact_whole : Whole Last (g.compact p f) (r.compact q h)
  unfolding g.compact r.compact
  compact_whole = whole_then (whole_word k.Table) (λ _. whole_next {T = Without k.Dot} table_name_whole
      (λ table. whole_next {T = Without k.Partition} partition_whole
      (λ partition. whole_then (whole_word k.Compact) (λ _. whole_map (λ kind. s.Compact (record { table = table; partition = partition; kind = kind })) (wherever compaction_whole)))
      (λ partition. leads_first (leads_word k.Compact (without_at k.Partition k.Compact (λ e. cc)))))
      (λ table. leads_bind {U = Without k.Dot} (partition_leads (without_at k.Dot k.Partition (λ e. cc)) (λ t s. s))
      (λ partition. leads_first (leads_word k.Compact (without_at k.Dot k.Compact (λ e. cc))))))

  explain_whole : Whole Last (g.explain p f) (r.explain q h)
  unfolding g.explain r.explain
  explain_whole = whole_then (whole_word k.Formatted) (λ _. whole_map s.Explain last_query)

  queried_whole : Whole Last (g.queried p f) (r.queried q h)
  unfolding g.queried r.queried
  queried_whole = whole_map s.Query last_query

  queried_leads : Leads (At k.Select) Last (g.queried p f)
  unfolding g.queried
  queried_leads = leads_first F

  statement_over_whole : Whole Last (g.statement_over p f) (r.statement_over q h)
  unfolding g.statement_over r.statement_over
  statement_over_whole =
      let by = r.statement_by q h in
      whole_or (whole_led by k.Select queried_whole queried_leads (λ t. refl))
      (whole_or (whole_case by k.Insert insert_whole (λ t. refl))
      (whole_or (whole_case by k.Update update_whole (λ t. refl))
      (whole_or (whole_case by k.Delete delete_whole (λ t. refl))
      (whole_or (whole_case by k.Merge merge_whole (λ t. refl))
      (whole_or (whole_case by k.Create create_whole (λ t. refl))
      (whole_or (whole_case by k.Drop drop_whole (λ t. refl))
      (whole_or (whole_case by k.Truncate truncate_whole (λ t. refl))
      (whole_or (whole_case by k.Show show_whole (λ t. refl))
      (whole_or (whole_case by k.Describe describe_whole (λ t. refl))
      (whole_or (whole_case by k.Alter compact_whole (λ t. refl))
      (whole_or (whole_case by k.Abort abort_whole (λ t. refl))
      (whole_case by k.Explain explain_whole (λ t. refl)))))))))))))

-- whatever a statement nests
pub statement_whole : Whole Last (g.statement (suc most_levels)) r.statement
unfolding g.statement r.statement
statement_whole =
    let inner = expr_whole (suc most_levels) in
    let spelled = expr_sound (suc most_levels) in
    statement_over_whole _ _ inner.0 inner.1 spelled (no_expr (suc most_levels)) _ _
    any_query_whole (query_leads _ (suc most_levels)) (query_sound _ _ spelled (suc most_levels))
