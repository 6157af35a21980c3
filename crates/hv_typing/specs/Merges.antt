-- MERGE: its target (NoTable), its source, an alias that both have (Ambiguous), clauses that clash (MergeClauses), ON, then the clauses
-- in their order. A clause: its AND, then its assignments as those of an UPDATE, or its values, their number (BadCount) and their
-- conversions (BadType). ON and WHEN MATCHED see the target's columns and then the source's; WHEN NOT MATCHED sees the source's alone.
-- What is set is the target's. VALUES has one for each column and then for each partition column.
-- Source: Hive Language Manual, DML (Merge); the order of faults is this project's profile.
use Rattle.std.specs.Prelude.{ℕ, Bool, true, false, if◌then◌else◌, ◌&&◌, ◌||◌, nat_lt, List, [], ◌∷◌, ◌++◌, length, map, slice_get, Option, None, Some, Result, Ok, Err}
use Rattle.std.specs.List.{list_any}
use Rattle.hv_base.specs.declared.refusal.Refusal.{Refusal}
use Rattle.hv_base.specs.declared.refusal.Refusal.TheVariants as refusal
use Rattle.hv_logic.specs.hv_ast.specs.declared.expr.Expr.{Expr}
use Rattle.hv_logic.specs.hv_ast.specs.declared.change.Assignment.{Assignment}
use Rattle.hv_logic.specs.hv_ast.specs.declared.change.Merge.{Merge}
use Rattle.hv_logic.specs.hv_ast.specs.declared.change.MergeAction.{MergeAction}
use Rattle.hv_logic.specs.hv_ast.specs.declared.change.MergeAction.TheVariants as written
use Rattle.hv_logic.specs.hv_ast.specs.declared.change.MergeClause.{MergeClause}
use Rattle.hv_expr.specs.declared.tree.TypedExpr.{TypedExpr}
use Rattle.hv_logic.specs.declared.catalog.Column.{Column}
use Rattle.hv_logic.specs.declared.catalog.Shape.{Shape}
use Rattle.hv_logic.specs.declared.catalog.TableInfo.{TableInfo}
use Rattle.hv_typing.specs.declared.tree.TypedSource.{TypedSource}
use Rattle.hv_typing.specs.declared.merge.MatchedAction.{MatchedAction}
use Rattle.hv_typing.specs.declared.merge.MatchedAction.TheVariants as action
use Rattle.hv_typing.specs.declared.merge.TypedMatched.{TypedMatched}
use Rattle.hv_typing.specs.declared.merge.TypedNewcomers.{TypedNewcomers}
use Rattle.hv_typing.specs.declared.merge.TypedClauses.{TypedClauses}
use Rattle.hv_typing.specs.declared.merge.TypedMerge.{TypedMerge}
use Rattle.hv_typing.specs.declared.opened.Brought.{Brought}
use Rattle.hv_typing.specs.declared.scope.Field.{Field}
use Rattle.hv_typing.specs.declared.scope.Over.TheVariants as over
use Rattle.hv_typing.specs.Faults.{and_then, each_in_order}
use Rattle.hv_typing.specs.Scopes.{same_name}
use Rattle.hv_typing.specs.Typing.{typed, condition_of}
use Rattle.hv_typing.specs.Sources.{filter_typed}
use Rattle.hv_typing.specs.Columns.{columns_of, field_of, kinds_of}
use Rattle.hv_typing.specs.Inserts.{has_count, converts, converted_row}
use Rattle.hv_typing.specs.Updates.{kept, all_set}
use Rattle.hv_typing.specs.Creates.{place_of}
use Rattle.hv_typing.specs.Subqueries.{or_name, brought}

-- ---- clauses that clash: more than three, two of a kind, an INSERT before another, or both an UPDATE and a DELETE where the first
-- has no AND, so that the second could never act

abbrev pub is_update : MergeAction → Bool
is_update (written.Update sets) = true
is_update _ = false

abbrev pub is_delete : MergeAction → Bool
is_delete written.Delete = true
is_delete _ = false

abbrev pub is_insert : MergeAction → Bool
is_insert (written.Insert exprs) = true
is_insert _ = false

abbrev pub same_kind : MergeAction → MergeAction → Bool
same_kind (written.Update sets) other = is_update other
same_kind written.Delete other = is_delete other
same_kind (written.Insert exprs) other = is_insert other

abbrev pub is_like : MergeClause → MergeClause → Bool
is_like clause other = same_kind clause.action other.action

abbrev pub kinds_repeat : List MergeClause → Bool
kinds_repeat [] = false
kinds_repeat (clause ∷ clauses) = list_any (is_like clause) clauses || kinds_repeat clauses

abbrev pub has_more : List MergeClause → Bool
has_more [] = false
has_more (clause ∷ clauses) = true

abbrev pub inserts_early : List MergeClause → Bool
inserts_early [] = false
inserts_early (clause ∷ clauses) = (is_insert clause.action && has_more clauses) || inserts_early clauses

abbrev pub updates : MergeClause → Bool
updates clause = is_update clause.action

abbrev pub deletes : MergeClause → Bool
deletes clause = is_delete clause.action

abbrev pub is_bare : Option Expr → Bool
is_bare None = true
is_bare (Some condition) = false

abbrev pub starts_bare : List MergeClause → Bool
starts_bare [] = false
starts_bare (clause ∷ clauses) = is_bare clause.condition

abbrev pub hides_second : List MergeClause → Bool
hides_second clauses = list_any updates clauses && (list_any deletes clauses && starts_bare clauses)

unfoldable pub clauses_clash : List MergeClause → Bool
clauses_clash clauses =
    nat_lt 3 (length clauses) || (kinds_repeat clauses || (inserts_early clauses || hides_second clauses))

-- ---- a new row's values, over the source's columns

abbrev pub value_over : List Field → Expr → Result TypedExpr Refusal
value_over fields expr = typed fields expr over.Row

unfoldable pub row_over : List Field → List Expr → Result (List TypedExpr) Refusal
row_over fields exprs = each_in_order (value_over fields) exprs

abbrev pub row_converted : List Column → List TypedExpr → Result (List TypedExpr) Refusal
row_converted columns row = if converts columns row then Ok (converted_row columns row) else Err refusal.BadType

abbrev pub row_fitted : List Column → List TypedExpr → Result (List TypedExpr) Refusal
row_fitted columns row = if has_count (length columns) row then row_converted columns row else Err refusal.BadCount

unfoldable pub new_row : List Column → List Field → List Expr → Result (List TypedExpr) Refusal
new_row columns fields exprs = and_then (row_over fields exprs) (row_fitted columns)

-- ---- one clause more

abbrev pub no_clauses : TypedClauses
no_clauses = record { matched = []; newcomers = None }

abbrev pub matched_by : Option TypedExpr → MatchedAction → TypedMatched
matched_by condition act = record { condition = condition; action = act }

abbrev pub with_matched : TypedClauses → Option TypedExpr → MatchedAction → TypedClauses
with_matched done condition act = record { matched = done.matched ++ matched_by condition act ∷ []; newcomers = done.newcomers }

abbrev pub newcomers_by : Option TypedExpr → List TypedExpr → TypedNewcomers
newcomers_by condition values = record { condition = condition; values = values }

abbrev pub with_newcomers : TypedClauses → Option TypedExpr → List TypedExpr → TypedClauses
with_newcomers done condition values = record { matched = done.matched; newcomers = Some (newcomers_by condition values) }

-- behind its AND, of a table of these columns; these are the columns in scope
abbrev pub update_onto : Shape → List Column → List Field → TypedClauses → Option Expr → List Assignment → Result TypedClauses Refusal
update_onto shape columns both done condition sets =
    and_then (filter_typed both condition) (λ met.
    and_then (all_set shape columns both (kinds_of columns) [] (kept 0 (kinds_of columns)) sets) (λ values.
    Ok (with_matched done met (action.Update values))))

abbrev pub delete_onto : List Field → TypedClauses → Option Expr → Result TypedClauses Refusal
delete_onto both done condition = and_then (filter_typed both condition) (λ met. Ok (with_matched done met action.Delete))

abbrev pub insert_onto : List Column → List Field → TypedClauses → Option Expr → List Expr → Result TypedClauses Refusal
insert_onto columns alone done condition exprs =
    and_then (filter_typed alone condition) (λ met. and_then (new_row columns alone exprs) (λ values. Ok (with_newcomers done met values)))

-- where these are the columns of both rows, and these the source's
module _ (shape : Shape) (columns : List Column) (both alone : List Field) where
  abbrev pub action_onto : TypedClauses → Option Expr → MergeAction → Result TypedClauses Refusal
  action_onto done condition (written.Update sets) = update_onto shape columns both done condition sets
  action_onto done condition written.Delete = delete_onto both done condition
  action_onto done condition (written.Insert exprs) = insert_onto columns alone done condition exprs

  unfoldable pub clause_onto : TypedClauses → MergeClause → Result TypedClauses Refusal
  clause_onto done clause = action_onto done clause.condition clause.action

  unfoldable pub clauses_typed : TypedClauses → List MergeClause → Result TypedClauses Refusal
  clauses_typed done [] = Ok done
  clauses_typed done (clause ∷ clauses) = and_then (clause_onto done clause) (λ done. clauses_typed done clauses)

-- ---- over its source

abbrev pub target_alias : Merge → List ℕ
target_alias merge = or_name merge.alias merge.table

abbrev pub target_fields : Shape → Merge → List Field
target_fields shape merge = map (field_of (target_alias merge)) (columns_of shape)

abbrev pub merge_of : ℕ → TypedSource → TypedExpr → TypedClauses → TypedMerge
merge_of place source on clauses = record { table = place; source = source; on = Some on; clauses = clauses }

-- where its aliases differ and its clauses don't clash
unfoldable pub merge_typed : ℕ → Shape → Merge → Brought → Result TypedMerge Refusal
merge_typed place shape merge source =
    and_then (condition_of (target_fields shape merge ++ source.fields) merge.on over.Row) (λ on.
    and_then (clauses_typed shape (columns_of shape) (target_fields shape merge ++ source.fields) source.fields no_clauses merge.clauses) (λ clauses.
    Ok (merge_of place source.source on clauses)))

unfoldable pub merge_over : ℕ → Shape → Merge → Brought → Result TypedMerge Refusal
merge_over place shape merge source =
    if same_name source.alias (target_alias merge) then Err refusal.Ambiguous
    else if clauses_clash merge.clauses then Err refusal.MergeClauses
    else merge_typed place shape merge source

-- ---- over the live tables

abbrev pub merged_table : List TableInfo → Merge → ℕ → Option TableInfo → Result TypedMerge Refusal
merged_table tables merge place None = Err refusal.NoTable
merged_table tables merge place (Some info) = and_then (brought tables merge.source) (merge_over place info.shape merge)

abbrev pub merged_at : List TableInfo → Merge → Option ℕ → Result TypedMerge Refusal
merged_at tables merge None = Err refusal.NoTable
merged_at tables merge (Some place) = merged_table tables merge place (slice_get tables place)

unfoldable pub merged : List TableInfo → Merge → Result TypedMerge Refusal
merged tables merge = merged_at tables merge (place_of merge.table tables)
