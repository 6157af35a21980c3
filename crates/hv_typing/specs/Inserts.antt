-- INSERT: its target columns (Targets), its source, the number of the source's values (BadCount), and the conversions (BadType), those of
-- static values before those of the rows; VALUES in three passes: the expressions of all rows, all numbers, all conversions. A
-- column that isn't listed is NULL. Under OVERWRITE rows go.
-- Source: Hive Language Manual, DML; the order of faults is this project's profile.
use Rattle.std.specs.Prelude.{ℕ, ◌==◌, Bool, true, false, if◌then◌else◌, ◌&&◌, List, [], ◌∷◌, length, map, drop, position, Option, None, Some, Result, Ok, Err}
use Rattle.std.specs.List.{list_all}
use Rattle.hv_base.specs.declared.refusal.Refusal.{Refusal}
use Rattle.hv_base.specs.declared.refusal.Refusal.TheVariants as refusal
use Rattle.hv_logic.specs.hv_ast.specs.declared.change.Insert.{Insert}
use Rattle.hv_logic.specs.hv_ast.specs.declared.change.PartitionItem.{PartitionItem}
use Rattle.hv_logic.specs.hv_ast.specs.declared.expr.Expr.{Expr}
use Rattle.hv_logic.specs.hv_value.specs.declared.sql_type.SqlType.{SqlType}
use Rattle.hv_logic.specs.hv_value.specs.declared.sql_type.SqlType.TheVariants as type
use Rattle.hv_logic.specs.hv_value.specs.declared.value.Value.TheVariants as value
use Rattle.hv_logic.specs.hv_value.specs.Conversion.{is_convertible}
use Rattle.hv_expr.specs.declared.tree.TypedExpr.{TypedExpr}
use Rattle.hv_expr.specs.declared.tree.TypedExpr.TheVariants as tree
use Rattle.hv_logic.specs.declared.catalog.Column.{Column}
use Rattle.hv_logic.specs.declared.catalog.Shape.{Shape}
use Rattle.hv_typing.specs.declared.tree.OutputColumn.{OutputColumn}
use Rattle.hv_typing.specs.declared.tree.TypedQuery.{TypedQuery}
use Rattle.hv_typing.specs.declared.tree.TypedSource.{TypedSource}
use Rattle.hv_typing.specs.Faults.{and_then, each_in_order}
use Rattle.hv_typing.specs.Kinds.{kind_of}
use Rattle.hv_typing.specs.Nodes.{as_kind}
use Rattle.hv_typing.specs.declared.change.Deletes.{Deletes}
use Rattle.hv_typing.specs.declared.change.Deletes.TheVariants as deletes
use Rattle.hv_typing.specs.declared.change.Origin.{Origin}
use Rattle.hv_typing.specs.declared.change.Origin.TheVariants as origin
use Rattle.hv_typing.specs.declared.change.TypedChange.{TypedChange}
use Rattle.hv_typing.specs.Columns.{columns_of, is_named, kinds_of, kind_at}
use Rattle.hv_typing.specs.Targets.{value_typed, static_of, are_static}
use Rattle.hv_typing.specs.Partitions.{static_value, partition_met}

abbrev pub is_empty : {A : Type 0} → List A → Bool
is_empty [] = true
is_empty (a ∷ rest) = false

-- ---- VALUES: the first pass

unfoldable pub row_typed : List Expr → Result (List TypedExpr) Refusal
row_typed exprs = each_in_order value_typed exprs

unfoldable pub rows_typed : List (List Expr) → Result (List (List TypedExpr)) Refusal
rows_typed rows = each_in_order row_typed rows

-- ---- the second pass

abbrev pub has_count : ℕ → List TypedExpr → Bool
has_count count row = length row == count

-- ---- the third pass: each value is converted by itself to its column's type

abbrev pub converts : List Column → List TypedExpr → Bool
converts columns [] = true
converts [] (x ∷ xs) = true
converts (column ∷ columns) (x ∷ xs) = is_convertible (kind_of x) column.kind && converts columns xs

abbrev pub first_type : List Column → SqlType
first_type [] = type.Null
first_type (column ∷ columns) = column.kind

abbrev pub converted_row : List Column → List TypedExpr → List TypedExpr
converted_row columns [] = []
converted_row columns (x ∷ xs) = as_kind (first_type columns) x ∷ converted_row (drop 1 columns) xs

-- ---- the values of a new row, over the source's row with values of these types: a CAST, where the column is of another

abbrev pub value_at : List SqlType → SqlType → Option ℕ → TypedExpr
value_at kinds kind None = tree.Literal value.Null kind
value_at kinds kind (Some place) = as_kind kind (tree.Column place (kind_at kinds place))

abbrev pub value_for : List Column → List SqlType → Column → TypedExpr
value_for targets kinds column = value_at kinds column.kind (position (is_named column.name) targets)

-- the static one, where there is one
abbrev pub value_or : List Column → List SqlType → Column → Option Expr → Result TypedExpr Refusal
value_or targets kinds column None = Ok (value_for targets kinds column)
value_or targets kinds column (Some expr) = static_value column.kind expr

abbrev pub new_value : List PartitionItem → List Column → List SqlType → Column → Result TypedExpr Refusal
new_value items targets kinds column = value_or targets kinds column (static_of items column.name)

unfoldable pub values_for : List PartitionItem → List Column → List SqlType → List Column → Result (List TypedExpr) Refusal
values_for items targets kinds columns = each_in_order (new_value items targets kinds) columns

-- ---- which rows go: under OVERWRITE all of a table without partitions, those of the one partition where no column is dynamic, else
-- those of the partitions that get a row

abbrev pub overwritten_parts : Shape → List PartitionItem → Result Deletes Refusal
overwritten_parts shape items =
    if are_static items shape.parts
    then and_then (partition_met (columns_of shape) items) (λ condition. Ok (deletes.Matching (Some condition)))
    else Ok deletes.Received

abbrev pub overwritten_rows : Shape → List PartitionItem → Result Deletes Refusal
overwritten_rows shape items =
    if is_empty shape.parts then Ok (deletes.Matching None) else overwritten_parts shape items

unfoldable pub overwritten : Bool → Shape → List PartitionItem → Result Deletes Refusal
overwritten overwrite shape items = if overwrite then overwritten_rows shape items else Ok deletes.Nothing

-- ---- the change: the static values are converted before those of the source

abbrev pub insert_of : ℕ → Deletes → List TypedExpr → Origin → TypedChange
insert_of place gone values origin = record { table = place; deletes = gone; values = values; origin = origin }

unfoldable pub insert_typed : ℕ → Shape → Insert → List Column → List SqlType → Origin → Result TypedChange Refusal
insert_typed place shape insert targets kinds origin =
    and_then (values_for insert.partition targets kinds (columns_of shape)) (λ values.
    and_then (overwritten insert.overwrite shape insert.partition) (λ gone. Ok (insert_of place gone values origin)))

abbrev pub if_convertible : Bool → TypedChange → Result TypedChange Refusal
if_convertible converts change = if converts then Ok change else Err refusal.BadType

-- ---- a source of VALUES

abbrev pub values_insert : ℕ → Shape → Insert → List Column → List (List TypedExpr) → Result TypedChange Refusal
values_insert place shape insert targets rows =
    and_then (insert_typed place shape insert targets (kinds_of targets) (origin.Values (map (converted_row targets) rows)))
    (if_convertible (list_all (converts targets) rows))

unfoldable pub values_inserted : ℕ → Shape → Insert → List Column → List (List TypedExpr) → Result TypedChange Refusal
values_inserted place shape insert targets rows =
    if list_all (has_count (length targets)) rows then values_insert place shape insert targets rows else Err refusal.BadCount

-- ---- a source that is a query: its output columns

abbrev pub output_kind : OutputColumn → SqlType
output_kind column = column.kind

abbrev pub outputs_convert : List Column → List OutputColumn → Bool
outputs_convert columns [] = true
outputs_convert [] (output ∷ outputs) = true
outputs_convert (column ∷ columns) (output ∷ outputs) = is_convertible output.kind column.kind && outputs_convert columns outputs

abbrev pub query_insert : ℕ → Shape → Insert → List Column → TypedQuery TypedSource → Result TypedChange Refusal
query_insert place shape insert targets query =
    and_then (insert_typed place shape insert targets (map output_kind query.columns) (origin.Query query))
    (if_convertible (outputs_convert targets query.columns))

unfoldable pub query_inserted : ℕ → Shape → Insert → List Column → TypedQuery TypedSource → Result TypedChange Refusal
query_inserted place shape insert targets query =
    if length query.columns == length targets then query_insert place shape insert targets query else Err refusal.BadCount
