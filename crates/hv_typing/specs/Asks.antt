-- ALTER TABLE COMPACT: the live table of that name (NoTable), and its list, which names all partition columns, each
-- once and with a value, or all of it is BadCount; so a table without partition columns has none. Then come the values'
-- own faults and conversions, in the order of the list.
-- Source: Hive Language Manual, DDL (Alter Table/Partition Compact); the order of faults is this project's profile.
use Rattle.std.specs.Prelude.{ℕ, Bool, ◌&&◌, if◌then◌else◌, List, [], slice_get, Option, None, Some, Result, Ok, Err}
use Rattle.hv_base.specs.declared.refusal.Refusal.{Refusal}
use Rattle.hv_base.specs.declared.refusal.Refusal.TheVariants as refusal
use Rattle.hv_logic.specs.hv_ast.specs.declared.change.PartitionItem.{PartitionItem}
use Rattle.hv_logic.specs.hv_ast.specs.declared.expr.Expr.{Expr}
use Rattle.hv_logic.specs.hv_ast.specs.declared.table.Compact.{Compact}
use Rattle.hv_expr.specs.declared.tree.TypedExpr.{TypedExpr}
use Rattle.hv_logic.specs.declared.catalog.Column.{Column}
use Rattle.hv_logic.specs.declared.catalog.TableInfo.{TableInfo}
use Rattle.hv_typing.specs.Faults.{and_then, each_in_order}
use Rattle.hv_typing.specs.Targets.{column_named, static_of, are_items}
use Rattle.hv_typing.specs.Partitions.{static_value, are_given}
use Rattle.hv_typing.specs.declared.asks.TypedAsk.{TypedAsk}
use Rattle.hv_typing.specs.declared.logic.Logic.{Logic}
use Rattle.hv_typing.specs.declared.logic.Logic.TheVariants as logic
use Rattle.hv_typing.specs.Creates.{place_of}

-- ---- values

abbrev pub value_as : Option Column → Option Expr → Result TypedExpr Refusal
value_as None expr = Err refusal.BadCount
value_as (Some column) None = Err refusal.BadCount
value_as (Some column) (Some expr) = static_value column.kind expr

abbrev pub item_typed : List Column → PartitionItem → Result TypedExpr Refusal
item_typed parts item = value_as (column_named item.name parts) item.value

abbrev pub column_typed : List PartitionItem → Column → Result TypedExpr Refusal
column_typed items column = value_as (Some column) (static_of items column.name)

-- in the order of the list, in which faults come
unfoldable pub items_typed : List Column → List PartitionItem → Result (List TypedExpr) Refusal
items_typed parts items = each_in_order (item_typed parts) items

-- and in the order of the columns
unfoldable pub columns_typed : List PartitionItem → List Column → Result (List TypedExpr) Refusal
columns_typed items parts = each_in_order (column_typed items) parts

unfoldable pub asked_values : List Column → List PartitionItem → Result (List TypedExpr) Refusal
asked_values parts items = and_then (items_typed parts items) (λ firsts. columns_typed items parts)

-- ---- the list

abbrev pub is_whole_list : List Column → List PartitionItem → Bool
is_whole_list parts items = are_given parts [] items && are_items items parts

unfoldable pub list_typed : List Column → List PartitionItem → Result (List TypedExpr) Refusal
list_typed parts items = if is_whole_list parts items then asked_values parts items else Err refusal.BadCount

-- ---- the statement

abbrev pub asked_of : Compact → TableInfo → List TypedExpr → TypedAsk
asked_of compact info values = record { table = info; values = values; kind = compact.kind }

abbrev pub asked_as : Compact → Option TableInfo → Result Logic Refusal
asked_as compact None = Err refusal.NoTable
asked_as compact (Some info) =
    and_then (list_typed info.shape.parts compact.partition) (λ values. Ok (logic.Ask (asked_of compact info values)))

abbrev pub asked_at : List TableInfo → Compact → Option ℕ → Result Logic Refusal
asked_at tables compact None = Err refusal.NoTable
asked_at tables compact (Some place) = asked_as compact (slice_get tables place)

unfoldable pub asked : List TableInfo → Compact → Result Logic Refusal
asked tables compact = asked_at tables compact (place_of compact.table tables)
