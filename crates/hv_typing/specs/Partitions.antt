-- The rows of a partition that a statement names: those whose partition columns equal the values that the items give them, as their types,
-- where NULLs are equal. An item without a column or without a value says of no partition which one it is: BadCount.
-- Source: Hive Language Manual, DML and DDL (Truncate Table); the order of faults is this project's profile.
use Rattle.std.specs.Prelude.{ℕ, Bool, true, not, if◌then◌else◌, ◌&&◌, is_some, List, [], ◌∷◌, ◌++◌, position, Option, None, Some, Result, Ok, Err}
use Rattle.hv_base.specs.declared.refusal.Refusal.{Refusal}
use Rattle.hv_base.specs.declared.refusal.Refusal.TheVariants as refusal
use Rattle.hv_logic.specs.hv_ast.specs.declared.change.PartitionItem.{PartitionItem}
use Rattle.hv_logic.specs.hv_ast.specs.declared.expr.Expr.{Expr}
use Rattle.hv_logic.specs.hv_value.specs.declared.sql_type.SqlType.{SqlType}
use Rattle.hv_logic.specs.hv_value.specs.declared.sql_type.SqlType.TheVariants as type
use Rattle.hv_logic.specs.hv_value.specs.Conversion.{is_convertible}
use Rattle.hv_expr.specs.declared.function.Many.TheVariants as many
use Rattle.hv_expr.specs.declared.function.Two.TheVariants as two
use Rattle.hv_expr.specs.declared.tree.TypedExpr.{TypedExpr}
use Rattle.hv_expr.specs.declared.tree.TypedExpr.TheVariants as tree
use Rattle.hv_logic.specs.declared.catalog.Column.{Column}
use Rattle.hv_typing.specs.Faults.{and_then, each_in_order}
use Rattle.hv_typing.specs.Kinds.{kind_of}
use Rattle.hv_typing.specs.Nodes.{as_kind}
use Rattle.hv_typing.specs.Columns.{is_named, kinds_of, kind_at}
use Rattle.hv_typing.specs.Targets.{value_typed, column_named, is_item}

-- ---- a static value as its column's type, or BadType

abbrev pub if_converts : SqlType → TypedExpr → Result TypedExpr Refusal
if_converts kind x = if is_convertible (kind_of x) kind then Ok (as_kind kind x) else Err refusal.BadType

abbrev pub static_value : SqlType → Expr → Result TypedExpr Refusal
static_value kind expr = and_then (value_typed expr) (if_converts kind)

-- ---- what the items ask of a row

abbrev pub equals_at : ℕ → SqlType → TypedExpr → TypedExpr
equals_at place kind x = tree.Two two.NullSafeEqual type.Boolean (tree.Column place kind) x

abbrev pub value_equals : ℕ → SqlType → Option Expr → Result TypedExpr Refusal
value_equals place kind None = Err refusal.BadCount
value_equals place kind (Some expr) = and_then (static_value kind expr) (λ x. Ok (equals_at place kind x))

-- of columns of these types
abbrev pub item_equals : List SqlType → Option Expr → Option ℕ → Result TypedExpr Refusal
item_equals kinds expr None = Err refusal.BadCount
item_equals kinds expr (Some place) = value_equals place (kind_at kinds place) expr

abbrev pub item_met : List Column → List SqlType → PartitionItem → Result TypedExpr Refusal
item_met columns kinds item = item_equals kinds item.value (position (is_named item.name) columns)

unfoldable pub items_met : List Column → List SqlType → List PartitionItem → Result (List TypedExpr) Refusal
items_met columns kinds items = each_in_order (item_met columns kinds) items

abbrev pub all_met : List TypedExpr → TypedExpr
all_met conditions = tree.Many many.And type.Boolean conditions

unfoldable pub partition_met : List Column → List PartitionItem → Result TypedExpr Refusal
partition_met columns items = and_then (items_met columns (kinds_of columns) items) (λ conditions. Ok (all_met conditions))

-- ---- the list of a TRUNCATE may name some of the partition columns, each once and with a value, or all of it is BadCount

abbrev pub is_given : List Column → List PartitionItem → PartitionItem → Bool
is_given parts before item = is_some item.value && is_some (column_named item.name parts) && not (is_item before item.name)

-- behind these items
unfoldable pub are_given : List Column → List PartitionItem → List PartitionItem → Bool
are_given parts before [] = true
are_given parts before (item ∷ items) = is_given parts before item && are_given parts (before ++ item ∷ []) items
