-- The target columns of an INSERT. In PARTITION an item is a partition column (else NoColumn) that no item before it names (BadCount), and
-- its value, which is static: an expression over no columns and without aggregates. At its end a partition column that no item names is
-- BadCount. A partition column without a static value is dynamic, and all are without PARTITION. In the column list an unknown name is
-- NoColumn, a repeated one BadCount, and so is one with a static value, and at its end a dynamic partition column that isn't listed.
-- Without a list the targets are the columns and then the dynamic partition columns.
-- Source: Hive Language Manual, DML; the order of faults is this project's profile.
use Rattle.std.specs.Prelude.{ℕ, Bool, not, if◌then◌else◌, List, [], ◌∷◌, ◌++◌, filter, is_some, Option, None, Some, Result, Ok, Err}
use Rattle.std.specs.List.{list_all, list_any}
use Rattle.hv_base.specs.declared.refusal.Refusal.{Refusal}
use Rattle.hv_base.specs.declared.refusal.Refusal.TheVariants as refusal
use Rattle.hv_logic.specs.hv_ast.specs.declared.change.PartitionItem.{PartitionItem}
use Rattle.hv_logic.specs.hv_ast.specs.declared.expr.Expr.{Expr}
use Rattle.hv_expr.specs.declared.tree.TypedExpr.{TypedExpr}
use Rattle.hv_logic.specs.declared.catalog.Column.{Column}
use Rattle.hv_logic.specs.declared.catalog.Shape.{Shape}
use Rattle.hv_typing.specs.declared.scope.Over.TheVariants as over
use Rattle.hv_typing.specs.Faults.{and_then, in_front}
use Rattle.hv_typing.specs.Scopes.{same_name}
use Rattle.hv_typing.specs.Typing.{typed}
use Rattle.hv_typing.specs.Columns.{columns_of, is_named}

-- ---- a value over no columns: of a row of VALUES, or static

abbrev pub value_typed : Expr → Result TypedExpr Refusal
value_typed expr = typed [] expr over.Row

-- ---- names

abbrev pub column_named : List ℕ → List Column → Option Column
column_named name [] = None
column_named name (column ∷ columns) = if is_named name column then Some column else column_named name columns

-- the column that a name means, where the name isn't repeated
abbrev pub if_new : Bool → Option Column → Result Column Refusal
if_new repeated None = Err refusal.NoColumn
if_new repeated (Some column) = if repeated then Err refusal.BadCount else Ok column

-- ---- PARTITION

abbrev pub is_item : List PartitionItem → List ℕ → Bool
is_item items name = list_any (λ (item : PartitionItem). same_name item.name name) items

abbrev pub are_items : List PartitionItem → List Column → Bool
are_items items columns = list_all (λ (column : Column). is_item items column.name) columns

-- the static value of the column of that name
abbrev pub static_of : List PartitionItem → List ℕ → Option Expr
static_of [] name = None
static_of (item ∷ items) name = if same_name item.name name then item.value else static_of items name

abbrev pub is_static : List PartitionItem → List ℕ → Bool
is_static items name = is_some (static_of items name)

-- whether a value has no fault of its own: all that is asked before the conversions
abbrev pub value_stands : Option Expr → Result (Unit {0}) Refusal
value_stands None = Ok tt
value_stands (Some expr) = and_then (value_typed expr) (λ x. Ok tt)

abbrev pub item_stands : List Column → List PartitionItem → PartitionItem → Result (Unit {0}) Refusal
item_stands parts before item =
    and_then (if_new (is_item before item.name) (column_named item.name parts)) (λ column. value_stands item.value)

-- behind these items
unfoldable pub items_stand : List Column → List PartitionItem → List PartitionItem → Result (Unit {0}) Refusal
items_stand parts before [] = Ok tt
items_stand parts before (item ∷ items) =
    and_then (item_stands parts before item) (λ stands. items_stand parts (before ++ item ∷ []) items)

abbrev pub if_all_named : List PartitionItem → List Column → Result (Unit {0}) Refusal
if_all_named items parts = if are_items items parts then Ok tt else Err refusal.BadCount

unfoldable pub partition_stands : List Column → List PartitionItem → Result (Unit {0}) Refusal
partition_stands parts [] = Ok tt
partition_stands parts (item ∷ items) = and_then (items_stand parts [] (item ∷ items)) (λ stand. if_all_named (item ∷ items) parts)

-- ---- the column list: the columns that the source's values are for, in its order

abbrev pub is_listed : List (List ℕ) → List ℕ → Bool
is_listed names name = list_any (same_name name) names

abbrev pub are_listed : List (List ℕ) → List Column → Bool
are_listed names columns = list_all (λ (column : Column). is_listed names column.name) columns

abbrev pub is_dynamic : List PartitionItem → Column → Bool
is_dynamic items column = not (is_static items column.name)

abbrev pub are_static : List PartitionItem → List Column → Bool
are_static items columns = list_all (λ (column : Column). is_static items column.name) columns

abbrev pub dynamic_parts : List PartitionItem → List Column → List Column
dynamic_parts items parts = filter (is_dynamic items) parts

abbrev pub if_dynamic : List PartitionItem → Column → Result Column Refusal
if_dynamic items column = if is_dynamic items column then Ok column else Err refusal.BadCount

abbrev pub column_listed : List PartitionItem → List Column → List (List ℕ) → List ℕ → Result Column Refusal
column_listed items columns before name = and_then (if_new (is_listed before name) (column_named name columns)) (if_dynamic items)

-- behind these names of the list
unfoldable pub columns_listed : List PartitionItem → List Column → List (List ℕ) → List (List ℕ) → Result (List Column) Refusal
columns_listed items columns before [] = Ok []
columns_listed items columns before (name ∷ names) =
    and_then (column_listed items columns before name) (λ column.
    in_front column (columns_listed items columns (before ++ name ∷ []) names))

-- dynamic partition columns are among them
abbrev pub if_whole : List (List ℕ) → List Column → List Column → Result (List Column) Refusal
if_whole names parts targets = if are_listed names parts then Ok targets else Err refusal.BadCount

-- without a list they are all but those with static values
unfoldable pub columns_for : Shape → List PartitionItem → List (List ℕ) → Result (List Column) Refusal
columns_for shape items [] = Ok (shape.columns ++ dynamic_parts items shape.parts)
columns_for shape items (name ∷ names) =
    and_then (columns_listed items (columns_of shape) [] (name ∷ names)) (if_whole (name ∷ names) (dynamic_parts items shape.parts))

unfoldable pub targets_of : Shape → List PartitionItem → List (List ℕ) → Result (List Column) Refusal
targets_of shape items names = and_then (partition_stands shape.parts items) (λ stands. columns_for shape items names)
