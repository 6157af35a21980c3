-- UPDATE, DELETE and TRUNCATE. UPDATE: each assignment, then WHERE; in an assignment an unknown column (NoColumn), one that
-- can't be set (FixedColumn: a partition or bucket column), one that is set twice (BadCount), the value's own faults, its
-- conversion (BadType). Values and conditions are over the table's row, without aggregates.
-- Source: Hive Language Manual, DML (Update, Delete) and DDL (Truncate Table); the order of faults is this project's profile.
use Rattle.std.specs.Prelude.{ℕ, ◌+◌, ◌==◌, Bool, if◌then◌else◌, ◌||◌, nat_le, List, [], ◌∷◌, ◌++◌, length, map, position, slice_set, Option, None, Some, Result, Ok, Err}
use Rattle.std.specs.List.{list_any}
use Rattle.hv_base.specs.declared.refusal.Refusal.{Refusal}
use Rattle.hv_base.specs.declared.refusal.Refusal.TheVariants as refusal
use Rattle.hv_logic.specs.hv_ast.specs.declared.expr.Expr.{Expr}
use Rattle.hv_logic.specs.hv_ast.specs.declared.change.Assignment.{Assignment}
use Rattle.hv_logic.specs.hv_ast.specs.declared.change.Delete.{Delete}
use Rattle.hv_logic.specs.hv_ast.specs.declared.change.PartitionItem.{PartitionItem}
use Rattle.hv_logic.specs.hv_ast.specs.declared.change.Truncate.{Truncate}
use Rattle.hv_logic.specs.hv_ast.specs.declared.change.Update.{Update}
use Rattle.hv_logic.specs.hv_value.specs.declared.sql_type.SqlType.{SqlType}
use Rattle.hv_expr.specs.declared.tree.TypedExpr.{TypedExpr}
use Rattle.hv_expr.specs.declared.tree.TypedExpr.TheVariants as tree
use Rattle.hv_logic.specs.declared.catalog.Column.{Column}
use Rattle.hv_logic.specs.declared.catalog.Shape.{Shape}
use Rattle.hv_typing.specs.declared.scope.Field.{Field}
use Rattle.hv_typing.specs.declared.scope.Over.TheVariants as over
use Rattle.hv_typing.specs.Faults.{and_then}
use Rattle.hv_typing.specs.Scopes.{same_name}
use Rattle.hv_typing.specs.Typing.{typed}
use Rattle.hv_typing.specs.Sources.{filter_typed}
use Rattle.hv_typing.specs.declared.change.Deletes.TheVariants as deletes
use Rattle.hv_typing.specs.declared.change.Origin.TheVariants as origin
use Rattle.hv_typing.specs.declared.change.TypedChange.{TypedChange}
use Rattle.hv_typing.specs.Columns.{columns_of, is_named, field_of, fields_of, kinds_of, kind_at}
use Rattle.hv_typing.specs.Partitions.{if_converts, partition_met, are_given}

-- ---- which column is set

abbrev pub is_bucketed : List ℕ → ℕ → Bool
is_bucketed places place = list_any (λ other. other == place) places

-- partition columns come behind the others
abbrev pub is_fixed : Shape → ℕ → Bool
is_fixed shape place = nat_le (length shape.columns) place || is_bucketed shape.bucketed place

abbrev pub is_set : List Assignment → List ℕ → Bool
is_set before name = list_any (λ (other : Assignment). same_name other.column name) before

abbrev pub if_free : Shape → List Assignment → List ℕ → Option ℕ → Result ℕ Refusal
if_free shape before name None = Err refusal.NoColumn
if_free shape before name (Some place) =
    if is_fixed shape place then Err refusal.FixedColumn else if is_set before name then Err refusal.BadCount else Ok place

abbrev pub place_set : Shape → List Column → List Assignment → List ℕ → Result ℕ Refusal
place_set shape columns before name = if_free shape before name (position (is_named name) columns)

-- ---- what it is set to

abbrev pub value_set : List Field → SqlType → Expr → Result TypedExpr Refusal
value_set fields kind expr = and_then (typed fields expr over.Row) (if_converts kind)

-- ---- all assignments: a column that isn't set keeps its value

abbrev pub kept : ℕ → List SqlType → List TypedExpr
kept place [] = []
kept place (kind ∷ kinds) = tree.Column place kind ∷ kept (place + 1) kinds

-- of a table of these columns, of these types, behind these assignments, which came to these values
module _ (shape : Shape) (columns : List Column) (fields : List Field) (kinds : List SqlType) where
  unfoldable pub one_set : List Assignment → List TypedExpr → Assignment → Result (List TypedExpr) Refusal
  one_set before values assignment =
      and_then (place_set shape columns before assignment.column) (λ place.
      and_then (value_set fields (kind_at kinds place) assignment.value) (λ x. Ok (slice_set values place x)))

  unfoldable pub all_set : List Assignment → List TypedExpr → List Assignment → Result (List TypedExpr) Refusal
  all_set before values [] = Ok values
  all_set before values (assignment ∷ rest) =
      and_then (one_set before values assignment) (λ values. all_set (before ++ assignment ∷ []) values rest)

abbrev pub sets_of : Shape → List Column → List Assignment → Result (List TypedExpr) Refusal
sets_of shape columns assignments =
    all_set shape columns (map (field_of shape.name) columns) (kinds_of columns) [] (kept 0 (kinds_of columns)) assignments

-- ---- the statements

abbrev pub update_of : ℕ → List TypedExpr → Option TypedExpr → TypedChange
update_of place values filter =
    record { table = place; deletes = deletes.Matching filter; values = values; origin = origin.Deleted }

unfoldable pub updated : ℕ → Shape → Update → Result TypedChange Refusal
updated place shape update =
    and_then (sets_of shape (columns_of shape) update.assignments) (λ values.
    and_then (filter_typed (fields_of shape) update.filter) (λ filter. Ok (update_of place values filter)))

-- nothing is inserted
abbrev pub delete_of : ℕ → Option TypedExpr → TypedChange
delete_of place filter =
    record { table = place; deletes = deletes.Matching filter; values = []; origin = origin.Values [] }

unfoldable pub deleted : ℕ → Shape → Delete → Result TypedChange Refusal
deleted place shape delete = and_then (filter_typed (fields_of shape) delete.filter) (λ filter. Ok (delete_of place filter))

-- ---- TRUNCATE: all rows, or those of the partitions that its list names

unfoldable pub partitions_met : Shape → List PartitionItem → Result (Option TypedExpr) Refusal
partitions_met shape [] = Ok None
partitions_met shape (item ∷ items) =
    if are_given shape.parts [] (item ∷ items)
    then and_then (partition_met (columns_of shape) (item ∷ items)) (λ condition. Ok (Some condition))
    else Err refusal.BadCount

unfoldable pub truncated : ℕ → Shape → Truncate → Result TypedChange Refusal
truncated place shape truncate = and_then (partitions_met shape truncate.partition) (λ condition. Ok (delete_of place condition))
