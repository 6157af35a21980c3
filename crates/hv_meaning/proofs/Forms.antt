-- A statement of a form that is analysed means something, and one of another form nothing.
use Rattle.std.specs.Prelude.{is_some, position}
use Rattle.std.proofs.Common.{◌≡◌, ◌&&◌, ◌==◌, ◌++◌, ℕ, Bool, true, false, cond, not, List, [], ◌∷◌, length, map, slice_get, Option, Some, None, Result, Ok, Err, refl, sym, ap, ◌∙◌, subst}
use Rattle.std.specs.List.{list_all, list_any}
use Rattle.hv_base.specs.declared.refusal.Refusal.{Refusal}
use Rattle.hv_base.specs.declared.refusal.Refusal.TheVariants as refusal
use Rattle.hv_ast.specs.declared.expr.Expr.{Expr}
use Rattle.hv_ast.specs.declared.change.Assignment.{Assignment}
use Rattle.hv_ast.specs.declared.change.Insert.{Insert}
use Rattle.hv_ast.specs.declared.change.Merge.{Merge}
use Rattle.hv_ast.specs.declared.change.MergeAction.{MergeAction}
use Rattle.hv_ast.specs.declared.change.MergeAction.TheVariants as written
use Rattle.hv_ast.specs.declared.change.MergeClause.{MergeClause}
use Rattle.hv_ast.specs.declared.change.PartitionItem.{PartitionItem}
use Rattle.hv_ast.specs.declared.change.Rows.{Rows}
use Rattle.hv_ast.specs.declared.change.Rows.TheVariants as source_rows
use Rattle.hv_ast.specs.declared.query.Query.{Query}
use Rattle.hv_ast.specs.declared.query.Source.{Source}
use Rattle.hv_ast.specs.declared.statement.Setting.{Setting}
use Rattle.hv_ast.specs.declared.statement.Show.{Show}
use Rattle.hv_ast.specs.declared.statement.Show.TheVariants as show
use Rattle.hv_ast.specs.declared.statement.Stmt.{Stmt}
use Rattle.hv_ast.specs.declared.statement.Stmt.TheVariants as stmt
use Rattle.hv_ast.specs.declared.table.Compact.{Compact}
use Rattle.hv_ast.specs.declared.table.CreateTable.{CreateTable}
use Rattle.hv_ast.specs.declared.table.DropTable.{DropTable}
use Rattle.hv_value.specs.declared.sql_type.SqlType.{SqlType}
use Rattle.hv_value.specs.Conversion.{is_convertible}
use Rattle.hv_typing.specs.hv_expr.specs.declared.tree.TypedExpr.{TypedExpr}
use Rattle.hv_typing.specs.hv_logic.specs.declared.catalog.Column.{Column}
use Rattle.hv_typing.specs.hv_logic.specs.declared.catalog.Shape.{Shape}
use Rattle.hv_typing.specs.hv_logic.specs.declared.catalog.TableInfo.{TableInfo}
use Rattle.hv_typing.specs.hv_logic.specs.declared.effect.Found.{Found}
use Rattle.hv_typing.specs.hv_logic.specs.Shapes.{bucket_names}
use Rattle.hv_typing.specs.declared.scope.Field.{Field}
use Rattle.hv_typing.specs.declared.scope.Over.TheVariants as over
use Rattle.hv_typing.specs.Faults.{and_then}
use Rattle.hv_typing.specs.Kinds.{kind_of}
use Rattle.hv_typing.specs.declared.merge.TypedClauses.{TypedClauses}
use Rattle.hv_typing.specs.declared.merge.TypedMerge.{TypedMerge}
use Rattle.hv_typing.specs.declared.opened.Brought.{Brought}
use Rattle.hv_typing.specs.declared.places.Place.TheVariants as asked
use Rattle.hv_typing.specs.Scopes.{same_name}
use Rattle.hv_typing.specs.Merges.{value_over, row_over, new_row, no_clauses, action_onto, clause_onto, clauses_typed, clauses_clash, target_alias, target_fields, merge_typed, merge_over, merged_table, merged_at, merged}
use Rattle.hv_typing.specs.Subqueries.{brought}
use Rattle.hv_typing.specs.Typing.{typed, condition_of}
use Rattle.hv_typing.specs.Sources.{filter_typed}
use Rattle.hv_typing.specs.declared.change.Origin.{Origin}
use Rattle.hv_typing.specs.declared.change.Origin.TheVariants as origin
use Rattle.hv_typing.specs.declared.change.TypedChange.{TypedChange}
use Rattle.hv_typing.specs.Columns.{columns_of, field_of, fields_of, is_named, kinds_of, kind_at}
use Rattle.hv_typing.specs.Inserts.{is_empty, row_typed, rows_typed, has_count, converts, converted_row, output_kind, outputs_convert, value_or, new_value, values_for, overwritten, insert_typed, if_convertible, values_inserted, query_inserted}
use Rattle.hv_typing.specs.Partitions.{static_value, value_equals, item_equals, item_met, items_met, partition_met, are_given}
use Rattle.hv_typing.specs.Targets.{value_typed, column_named, if_new, static_of, value_stands, is_item, are_items, item_stands, items_stand, partition_stands, is_listed, are_listed, is_dynamic, dynamic_parts, are_static, column_listed, columns_listed, columns_for, targets_of}
use Rattle.hv_typing.specs.Updates.{is_fixed, is_set, if_free, place_set, value_set, kept, one_set, all_set, sets_of, updated, deleted, partitions_met, truncated}
use Rattle.hv_typing.specs.declared.logic.Logic.{Logic}
use Rattle.hv_typing.specs.declared.logic.Logic.TheVariants as logic
use Rattle.hv_typing.specs.Analysis.{is_windowless, is_windowless_source, are_windowless, is_form, query_analysed, explain_analysed, change_analysed, merge_analysed, form_analysed, analysed}
use Rattle.hv_typing.specs.Changes.{source_inserted, inserted, changing, changing_table, changing_at, change_of}
use Rattle.hv_typing.specs.Creates.{place_of, created, made, fault_of, unless_fault, names_repeat, is_bucket_column, arrays_route, numbers_fit, is_unkept}
use Rattle.hv_typing.specs.Drops.{dropped, dropped_as, dropped_at}
use Rattle.hv_typing.specs.Descriptions.{described, described_as, described_at}
use Rattle.hv_typing.specs.Shows.{partitions_as, partitions_at, partitions_shown, show_analysed}
use Rattle.hv_typing.specs.Settings.{set_analysed, takes_value}
use Rattle.hv_typing.specs.Asks.{value_as, item_typed, column_typed, items_typed, columns_typed, asked_values, is_whole_list, list_typed, asked_as, asked_at, asked}
use Rattle.hv_typing.specs.Subqueries.{selected}
use Rattle.hv_meaning.specs.Meaning.{its_tables, info_of, found_in, tables_of, changed_in, merged_in, refused_for, meant, meaning_in}
use Rattle.hv_meaning.specs.Laws.{MeansSomething, FormsMean, OtherFormsMeanNothing}
use Rattle.hv_meaning.proofs.Outcomes.{OnOk, on_ok, then-ok, IsChangeOf, changes-are, creates-are, drops-are, describes-are, explains-are, shows-are, settings-are, compacts-are}
use Rattle.hv_meaning.proofs.Queries.{free-filter, free-selected, free-brought}
use Rattle.hv_meaning.proofs.Merges.{IsMergeOf, merges-are}
use Rattle.hv_meaning.proofs.Typed.{IsOther, Free, free-then, free-if, free-front, free-each, free-placed, typed-free}

-- ---- analysis of these forms doesn't refuse them as Syntax

-- a statement that changes a table
abbrev is_change : Stmt → Bool
is_change (stmt.Insert insert) = true
is_change (stmt.Update update) = true
is_change (stmt.Delete delete) = true
is_change (stmt.Truncate truncate) = true
is_change _ = false

free-queried : (tables : List TableInfo) (query : Query Source) → is_windowless query ≡ true → Free (query_analysed tables query)
free-queried tables query e = free-then (selected tables query) _ (free-selected tables query e) (λ typed. tt)

free-explained : (tables : List TableInfo) (query : Query Source) → is_windowless query ≡ true → Free (explain_analysed tables query)
free-explained tables query e = free-then (selected tables query) _ (free-selected tables query e) (λ typed. tt)

free-new : (repeated : Bool) (found : Option Column) → Free (if_new repeated found)
free-new repeated None = tt
free-new repeated (Some column) = free-if repeated _ _ tt tt

free-typed : (x : Expr) → Free (value_typed x)
free-typed x = typed-free [] x over.Row

free-static : (kind : SqlType) (x : Expr) → Free (static_value kind x)
free-static kind x = free-then (value_typed x) _ (free-typed x) (λ y. free-if (is_convertible (kind_of y) kind) _ _ tt tt)

free-stands : (value : Option Expr) → Free (value_stands value)
free-stands None = tt
free-stands (Some x) = free-then (value_typed x) _ (free-typed x) (λ y. tt)

free-items : (parts : List Column) (before items : List PartitionItem) → Free (items_stand parts before items)
unfolding items_stand
free-items parts before [] = tt
free-items parts before (item ∷ items) =
    free-then (item_stands parts before item) _
    (free-then (if_new (is_item before item.name) (column_named item.name parts)) _ (free-new (is_item before item.name) (column_named item.name parts)) (λ column.
    free-stands item.value)) (λ stands.
    free-items parts (before ++ item ∷ []) items)

free-partition : (parts : List Column) (items : List PartitionItem) → Free (partition_stands parts items)
unfolding partition_stands
free-partition parts [] = tt
free-partition parts (item ∷ items) =
    free-then (items_stand parts [] (item ∷ items)) _ (free-items parts [] (item ∷ items)) (λ stand. free-if (are_items (item ∷ items) parts) _ _ tt tt)

free-listed : (items : List PartitionItem) (columns : List Column) (before names : List (List ℕ)) → Free (columns_listed items columns before names)
unfolding columns_listed
free-listed items columns before [] = tt
free-listed items columns before (name ∷ names) =
    free-then (column_listed items columns before name) _
    (free-then (if_new (is_listed before name) (column_named name columns)) _ (free-new (is_listed before name) (column_named name columns)) (λ column.
    free-if (is_dynamic items column) _ _ tt tt)) (λ column.
    free-front column (columns_listed items columns (before ++ name ∷ []) names) (free-listed items columns (before ++ name ∷ []) names))

free-columns : (shape : Shape) (items : List PartitionItem) (names : List (List ℕ)) → Free (columns_for shape items names)
unfolding columns_for
free-columns shape items [] = tt
free-columns shape items (name ∷ names) =
    free-then (columns_listed items (columns_of shape) [] (name ∷ names)) _ (free-listed items (columns_of shape) [] (name ∷ names)) (λ targets.
    free-if (are_listed (name ∷ names) (dynamic_parts items shape.parts)) _ _ tt tt)

free-targets : (shape : Shape) (items : List PartitionItem) (names : List (List ℕ)) → Free (targets_of shape items names)
unfolding targets_of
free-targets shape items names =
    free-then (partition_stands shape.parts items) _ (free-partition shape.parts items) (λ stands. free-columns shape items names)

free-rows : (rows : List (List Expr)) → Free (rows_typed rows)
unfolding rows_typed row_typed
free-rows rows = free-each row_typed rows (λ exprs. free-each value_typed exprs (λ x. typed-free [] x over.Row))

-- the values of a new row, and the condition of a partition

free-value-or : (targets : List Column) (kinds : List SqlType) (column : Column) (value : Option Expr) → Free (value_or targets kinds column value)
free-value-or targets kinds column None = tt
free-value-or targets kinds column (Some x) = free-static column.kind x

free-values : (items : List PartitionItem) (targets : List Column) (kinds : List SqlType) (columns : List Column) → Free (values_for items targets kinds columns)
unfolding values_for
free-values items targets kinds columns =
    free-each (new_value items targets kinds) columns (λ column. free-value-or targets kinds column (static_of items column.name))

free-equals : (place : ℕ) (kind : SqlType) (value : Option Expr) → Free (value_equals place kind value)
free-equals place kind None = tt
free-equals place kind (Some x) = free-then (static_value kind x) _ (free-static kind x) (λ y. tt)

free-item : (kinds : List SqlType) (value : Option Expr) (place : Option ℕ) → Free (item_equals kinds value place)
free-item kinds value None = tt
free-item kinds value (Some place) = free-equals place (kind_at kinds place) value

free-met : (columns : List Column) (items : List PartitionItem) → Free (partition_met columns items)
unfolding partition_met items_met
free-met columns items =
    free-then (items_met columns (kinds_of columns) items) _
    (free-each (item_met columns (kinds_of columns)) items (λ item. free-item (kinds_of columns) item.value (position (is_named item.name) columns))) (λ conditions. tt)

free-gone : (overwrite : Bool) (shape : Shape) (items : List PartitionItem) → Free (overwritten overwrite shape items)
unfolding overwritten
free-gone overwrite shape items =
    free-if overwrite _ _
    (free-if (is_empty shape.parts) _ _ tt
    (free-if (are_static items shape.parts) _ _ (free-then (partition_met (columns_of shape) items) _ (free-met (columns_of shape) items) (λ condition. tt)) tt)) tt

free-insert : (place : ℕ) (shape : Shape) (insert : Insert) (targets : List Column) (kinds : List SqlType) (o : Origin) (b : Bool)
    → Free (and_then (insert_typed place shape insert targets kinds o) (if_convertible b))
unfolding insert_typed
free-insert place shape insert targets kinds o b =
    free-then (insert_typed place shape insert targets kinds o) _
    (free-then (values_for insert.partition targets kinds (columns_of shape)) _ (free-values insert.partition targets kinds (columns_of shape)) (λ values.
    free-then (overwritten insert.overwrite shape insert.partition) _ (free-gone insert.overwrite shape insert.partition) (λ gone. tt))) (λ change.
    free-if b _ _ tt tt)

free-source : (tables : List TableInfo) (place : ℕ) (shape : Shape) (insert : Insert) (r : Rows) (targets : List Column)
    → are_windowless r ≡ true → Free (source_inserted tables place shape insert r targets)
unfolding source_inserted values_inserted query_inserted
free-source tables place shape insert (source_rows.Values rows) targets e =
    free-then (rows_typed rows) _ (free-rows rows) (λ typed.
    free-if (list_all (has_count _) typed) _ _
    (free-insert place shape insert targets (kinds_of targets) (origin.Values (map (converted_row targets) typed)) (list_all (converts targets) typed)) tt)
free-source tables place shape insert (source_rows.Query query) targets e =
    free-then (selected tables query) _ (free-selected tables query e) (λ typed.
    free-if (length typed.columns == length targets) _ _
    (free-insert place shape insert targets (map output_kind typed.columns) (origin.Query typed) (outputs_convert targets typed.columns)) tt)

-- the list of a TRUNCATE

free-partitions : (shape : Shape) (items : List PartitionItem) → Free (partitions_met shape items)
unfolding partitions_met
free-partitions shape [] = tt
free-partitions shape (item ∷ items) =
    free-if (are_given shape.parts [] (item ∷ items)) _ _
    (free-then (partition_met (columns_of shape) (item ∷ items)) _ (free-met (columns_of shape) (item ∷ items)) (λ condition. tt)) tt

free-place : (shape : Shape) (before : List Assignment) (name : List ℕ) (place : Option ℕ) → Free (if_free shape before name place)
free-place shape before name None = tt
free-place shape before name (Some place) = free-if (is_fixed shape place) _ _ tt (free-if (is_set before name) _ _ tt tt)

free-value : (fields : List Field) (kind : SqlType) (x : Expr) → Free (value_set fields kind x)
free-value fields kind x =
    free-then (typed fields x over.Row) _ (typed-free fields x over.Row) (λ y. free-if (is_convertible (kind_of y) kind) _ _ tt tt)

module _ (shape : Shape) (columns : List Column) (fields : List Field) (kinds : List SqlType) where
  free-set : (before : List Assignment) (values : List TypedExpr) (a : Assignment) → Free (one_set shape columns fields kinds before values a)
  unfolding one_set
  free-set before values a =
      free-then (place_set shape columns before a.column) _ (free-place shape before a.column (position (is_named a.column) columns)) (λ place.
      free-then (value_set fields (kind_at kinds place) a.value) _ (free-value fields (kind_at kinds place) a.value) (λ x. tt))

  free-sets : (before : List Assignment) (values : List TypedExpr) (assignments : List Assignment) → Free (all_set shape columns fields kinds before values assignments)
  unfolding all_set
  free-sets before values [] = tt
  free-sets before values (a ∷ rest) =
      free-then (one_set shape columns fields kinds before values a) _ (free-set before values a) (λ values. free-sets (before ++ a ∷ []) values rest)

free-newcomer : (columns : List Column) (fields : List Field) (exprs : List Expr) → Free (new_row columns fields exprs)
unfolding new_row row_over
free-newcomer columns fields exprs =
    free-then (row_over fields exprs) _ (free-each (value_over fields) exprs (λ x. typed-free fields x over.Row)) (λ row.
    free-if (has_count (length columns) row) _ _ (free-if (converts columns row) _ _ tt tt) tt)

module _ (shape : Shape) (columns : List Column) (both alone : List Field) where
  free-action : (done : TypedClauses) (condition : Option Expr) (act : MergeAction) → Free (action_onto shape columns both alone done condition act)
  free-action done condition (written.Update sets) =
      free-then (filter_typed both condition) _ (free-filter both condition) (λ met.
      free-then (all_set shape columns both (kinds_of columns) [] (kept 0 (kinds_of columns)) sets) _
      (free-sets shape columns both (kinds_of columns) [] (kept 0 (kinds_of columns)) sets) (λ values. tt))
  free-action done condition written.Delete = free-then (filter_typed both condition) _ (free-filter both condition) (λ met. tt)
  free-action done condition (written.Insert exprs) =
      free-then (filter_typed alone condition) _ (free-filter alone condition) (λ met.
      free-then (new_row columns alone exprs) _ (free-newcomer columns alone exprs) (λ values. tt))

  free-clauses : (done : TypedClauses) (clauses : List MergeClause) → Free (clauses_typed shape columns both alone done clauses)
  unfolding clauses_typed clause_onto
  free-clauses done [] = tt
  free-clauses done (clause ∷ clauses) =
      free-then (clause_onto shape columns both alone done clause) _ (free-action done clause.condition clause.action) (λ done. free-clauses done clauses)

free-merge : (place : ℕ) (shape : Shape) (merge : Merge) (source : Brought) → Free (merge_over place shape merge source)
unfolding merge_over merge_typed
free-merge place shape merge source =
    let both = target_fields shape merge ++ source.fields in
    free-if (same_name source.alias (target_alias merge)) _ _ tt
    (free-if (clauses_clash merge.clauses) _ _ tt
    (free-then (condition_of both merge.on over.Row) _
    (free-then (typed both merge.on over.Row) _ (typed-free both merge.on over.Row) (λ x. free-placed asked.Truth x)) (λ on.
    free-then (clauses_typed shape (columns_of shape) both source.fields no_clauses merge.clauses) _
    (free-clauses shape (columns_of shape) both source.fields no_clauses merge.clauses) (λ clauses. tt))))

free-merged : (tables : List TableInfo) (merge : Merge) → is_windowless_source merge.source ≡ true → Free (merge_analysed tables merge)
unfolding merged
free-merged tables merge e = free-then (merged tables merge) _ (at (place_of merge.table tables)) (λ typed. tt)
  where
    into : (place : ℕ) (info : Option TableInfo) → Free (merged_table tables merge place info)
    into place None = tt
    into place (Some info) =
        free-then (brought tables merge.source) _ (free-brought tables merge.source e) (λ source. free-merge place info.shape merge source)

    at : (place : Option ℕ) → Free (merged_at tables merge place)
    at None = tt
    at (Some place) = into place (slice_get tables place)

free-changing : (tables : List TableInfo) (place : ℕ) (shape : Shape) (tree : Stmt) → is_change tree ≡ true → is_form tree ≡ true → Free (changing tables place shape tree)
unfolding changing inserted updated deleted truncated is_form
free-changing tables place shape (stmt.Insert insert) c e =
    free-then (targets_of shape insert.partition insert.columns) _ (free-targets shape insert.partition insert.columns) (λ targets.
    free-source tables place shape insert insert.rows targets e)
free-changing tables place shape (stmt.Update update) c e =
    free-then (sets_of shape (columns_of shape) update.assignments) _
    (free-sets shape (columns_of shape) (map (field_of shape.name) (columns_of shape)) (kinds_of (columns_of shape)) [] (kept 0 (kinds_of (columns_of shape))) update.assignments) (λ values.
    free-then (filter_typed (fields_of shape) update.filter) _ (free-filter (fields_of shape) update.filter) (λ filter. tt))
free-changing tables place shape (stmt.Delete delete) c e =
    free-then (filter_typed (fields_of shape) delete.filter) _ (free-filter (fields_of shape) delete.filter) (λ filter. tt)
free-changing tables place shape (stmt.Truncate truncate) c e =
    free-then (partitions_met shape truncate.partition) _ (free-partitions shape truncate.partition) (λ condition. tt)
free-changing tables place shape other c e = cc

free-change : (tables : List TableInfo) (name : List ℕ) (tree : Stmt) → is_change tree ≡ true → is_form tree ≡ true → Free (change_analysed tables name tree)
unfolding change_of
free-change tables name tree c e = free-then (change_of tables name tree) _ (at (place_of name tables)) (λ change. tt)
  where
    into : (place : ℕ) (info : Option TableInfo) → Free (changing_table tables tree place info)
    into place None = tt
    into place (Some info) = free-changing tables place info.shape tree c e

    at : (place : Option ℕ) → Free (changing_at tables tree place)
    at None = tt
    at (Some place) = into place (slice_get tables place)

abbrev FreeFault : Option Refusal → Type 0
FreeFault None = Unit {0}
FreeFault (Some why) = IsOther why

free-fault : (b : Bool) (why : Refusal) (rest : Option Refusal) → IsOther why → FreeFault rest → FreeFault (cond b (Some why) rest)
free-fault true why rest h more = h
free-fault false why rest h more = more

free-made : (fault : Option Refusal) (made : Logic) → FreeFault fault → Free (unless_fault fault made)
free-made None made h = tt
free-made (Some why) made h = h

free-faults : (exists : Bool) (create : CreateTable) → FreeFault (fault_of exists create)
free-faults exists create =
    free-fault (exists && not create.if_absent) refusal.TableExists _ tt
    (free-fault (names_repeat create) refusal.Ambiguous _ tt
    (free-fault (not (list_all (is_bucket_column create.columns) (bucket_names create.clustering))) refusal.NoColumn _ tt
    (free-fault (arrays_route create) refusal.BadType _ tt
    (free-fault (not (numbers_fit create)) refusal.Limit _ tt
    (free-fault (list_any is_unkept create.properties) refusal.Limit None tt tt)))))

free-created : (tables : List TableInfo) (create : CreateTable) → Free (created tables create)
unfolding created
free-created tables create =
    let exists = is_some (place_of create.table tables) in
    free-made (fault_of exists create) (made exists create) (free-faults exists create)

free-dropped : (tables : List TableInfo) (drop : DropTable) → Free (dropped tables drop)
unfolding dropped
free-dropped tables drop = at (place_of drop.table tables)
  where
    told : (info : Option TableInfo) → Free (dropped_as drop.if_exists info)
    told None = free-if drop.if_exists _ _ tt tt
    told (Some info) = tt

    at : (place : Option ℕ) → Free (dropped_at tables drop.if_exists place)
    at None = told None
    at (Some place) = told (slice_get tables place)

free-described : (tables : List TableInfo) (name : List ℕ) → Free (described tables name)
unfolding described
free-described tables name = at (place_of name tables)
  where
    told : (info : Option TableInfo) → Free (described_as info)
    told None = tt
    told (Some info) = tt

    at : (place : Option ℕ) → Free (described_at tables place)
    at None = tt
    at (Some place) = told (slice_get tables place)

free-partitions-shown : (tables : List TableInfo) (name : List ℕ) → Free (partitions_shown tables name)
unfolding partitions_shown
free-partitions-shown tables name = at (place_of name tables)
  where
    told : (info : Option TableInfo) → Free (partitions_as info)
    told None = tt
    told (Some info) = free-if (is_empty info.shape.parts) _ _ tt tt

    at : (place : Option ℕ) → Free (partitions_at tables place)
    at None = tt
    at (Some place) = told (slice_get tables place)

free-shown : (tables : List TableInfo) (what : Show) → Free (show_analysed tables what)
unfolding show_analysed
free-shown tables show.Tables = tt
free-shown tables (show.Partitions name) = free-partitions-shown tables name
free-shown tables show.Transactions = tt
free-shown tables show.Locks = tt
free-shown tables show.Compactions = tt

free-setting : (setting : Setting) → Free (set_analysed setting)
unfolding set_analysed
free-setting setting = free-if (takes_value setting) _ _ tt tt

free-value-as : (column : Option Column) (x : Option Expr) → Free (value_as column x)
free-value-as None x = tt
free-value-as (Some column) None = tt
free-value-as (Some column) (Some x) = free-static column.kind x

free-list : (parts : List Column) (items : List PartitionItem) → Free (list_typed parts items)
unfolding list_typed asked_values items_typed columns_typed
free-list parts items =
    free-if (is_whole_list parts items) _ _
    (free-then (items_typed parts items) _ (free-each (item_typed parts) items (λ item. free-value-as (column_named item.name parts) item.value)) (λ firsts.
    free-each (column_typed items) parts (λ column. free-value-as (Some column) (static_of items column.name)))) tt

free-asked : (tables : List TableInfo) (compact : Compact) → Free (asked tables compact)
unfolding asked
free-asked tables compact = at (place_of compact.table tables)
  where
    told : (info : Option TableInfo) → Free (asked_as compact info)
    told None = tt
    told (Some info) = free-then (list_typed info.shape.parts compact.partition) _ (free-list info.shape.parts compact.partition) (λ values. tt)

    at : (place : Option ℕ) → Free (asked_at tables compact place)
    at None = tt
    at (Some place) = told (slice_get tables place)

-- ---- what isn't refused as Syntax means something

some-other : (why : Refusal) → IsOther why → MeansSomething (refused_for why)
some-other refusal.Syntax h = absurd h
some-other why h = tt

abbrev Means : List TableInfo → List (List Found) → Logic → Type 0
Means infos found logic = MeansSomething (meant infos found (Ok logic))

free-means : (infos : List TableInfo) (found : List (List Found)) (r : Result Logic Refusal) → Free r → OnOk (Means infos found) r → MeansSomething (meant infos found r)
free-means infos found (Ok logic) free h = h
free-means infos found (Err why) free h = some-other why free

change-means : (infos : List TableInfo) (found : List (List Found)) (name : List ℕ) (tree : Stmt) (change : TypedChange) → IsChangeOf infos name tree change
    → Means infos found (logic.Change change)
change-means infos found name tree change is =
    subst (λ (o : Option TableInfo). MeansSomething (changed_in o (slice_get found change.table) (tables_of found) change))
    (sym (ap (slice_get infos) is.table ∙ is.here)) tt

change-mean : (infos : List TableInfo) (found : List (List Found)) (name : List ℕ) (tree : Stmt) → is_change tree ≡ true → is_form tree ≡ true
    → MeansSomething (meant infos found (change_analysed infos name tree))
change-mean infos found name tree c e =
    free-means infos found (change_analysed infos name tree) (free-change infos name tree c e)
    (then-ok (Means infos found) (change_of infos name tree) _ (λ change is.
    change-means infos found name tree change (on_ok (IsChangeOf infos name tree) (change_of infos name tree) change (changes-are infos name tree) is)))

merge-means : (infos : List TableInfo) (found : List (List Found)) (merge : Merge) (typed : TypedMerge) → IsMergeOf infos merge.table typed
    → Means infos found (logic.Merge typed)
merge-means infos found merge typed is =
    subst (λ (o : Option TableInfo). MeansSomething (merged_in o (slice_get found typed.table) (tables_of found) typed))
    (sym (ap (slice_get infos) is.table ∙ is.here)) tt

merges-mean : (infos : List TableInfo) (found : List (List Found)) (merge : Merge) → is_windowless_source merge.source ≡ true
    → MeansSomething (meant infos found (merge_analysed infos merge))
merges-mean infos found merge e =
    free-means infos found (merge_analysed infos merge) (free-merged infos merge e)
    (then-ok (Means infos found) (merged infos merge) _ (λ typed is.
    merge-means infos found merge typed (on_ok (IsMergeOf infos merge.table) (merged infos merge) typed (merges-are infos merge) is)))

means-form : (tree : Stmt) (infos : List TableInfo) (found : List (List Found)) → is_form tree ≡ true → MeansSomething (meant infos found (form_analysed infos tree))
unfolding form_analysed is_form
means-form (stmt.Query query) infos found e =
    free-means infos found (query_analysed infos query) (free-queried infos query e) (then-ok (Means infos found) (selected infos query) _ (λ typed is. tt))
means-form (stmt.Insert insert) infos found e = change-mean infos found insert.table (stmt.Insert insert) refl e
means-form (stmt.Update update) infos found e = change-mean infos found update.table (stmt.Update update) refl e
means-form (stmt.Delete delete) infos found e = change-mean infos found delete.table (stmt.Delete delete) refl e
means-form (stmt.Merge merge) infos found e = merges-mean infos found merge e
means-form (stmt.Truncate truncate) infos found e = change-mean infos found truncate.table (stmt.Truncate truncate) refl e
means-form (stmt.CreateTable create) infos found e =
    free-means infos found (created infos create) (free-created infos create) (creates-are (Means infos found) infos create tt tt)
means-form (stmt.DropTable drop) infos found e =
    free-means infos found (dropped infos drop) (free-dropped infos drop) (drops-are (Means infos found) infos drop tt (λ table. tt))
means-form (stmt.Describe table) infos found e =
    free-means infos found (described infos table) (free-described infos table) (describes-are (Means infos found) infos table (λ columns. tt))
means-form (stmt.Show what) infos found e =
    free-means infos found (show_analysed infos what) (free-shown infos what) (shows-are (Means infos found) infos what tt)
means-form (stmt.Compact compact) infos found e =
    free-means infos found (asked infos compact) (free-asked infos compact) (compacts-are (Means infos found) infos compact (λ ask. tt))
means-form (stmt.Set setting) infos found e =
    free-means infos found (set_analysed setting) (free-setting setting) (settings-are (Means infos found) setting tt)
means-form (stmt.AbortTransactions txns) infos found e = tt
means-form (stmt.Explain query) infos found e =
    free-means infos found (explain_analysed infos query) (free-explained infos query e) (explains-are (Means infos found) infos query (λ typed. tt))
means-form other infos found e = cc

pub forms-mean : FormsMean
unfolding meaning_in analysed
forms-mean tree tables e =
    let infos = map info_of (its_tables tree tables) in
    let found = map found_in (its_tables tree tables) in
    subst (λ b. MeansSomething (meant infos found (cond b (form_analysed infos tree) (Err refusal.Syntax)))) (sym e) (means-form tree infos found e)

-- ---- another form means nothing

pub others-nothing : OtherFormsMeanNothing
unfolding meaning_in analysed
others-nothing tree tables e =
    let infos = map info_of (its_tables tree tables) in
    let found = map found_in (its_tables tree tables) in
    ap (λ b. meant infos found (cond b (form_analysed infos tree) (Err refusal.Syntax))) e
