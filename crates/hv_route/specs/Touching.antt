-- How many rows a change inserts and deletes in each partition, and the limits of a change. The limits are this project's
-- profile.
use Rattle.std.specs.Prelude.{if◌then◌else◌, ℕ, Bool, true, false, ◌||◌, nat_lt, List, ◌++◌, map, length, take, sum_by, Result, Ok, Err}
use Rattle.std.specs.Ordering.{bool_cmp}
use Rattle.std.specs.List.{list_all, list_any}
use Rattle.hv_base.specs.declared.ids.Touch.{Touch}
use Rattle.hv_value.specs.declared.row.Row.{Row}
use Rattle.hv_logic.specs.Sizes.{values_fit}
use Rattle.hv_base.specs.Sorting.{sorted_by}
use Rattle.hv_logic.specs.declared.catalog.Shape.{Shape}
use Rattle.hv_logic.specs.declared.catalog.TableInfo.{TableInfo}
use Rattle.hv_logic.specs.declared.effect.Found.{Found}
use Rattle.hv_logic.specs.declared.effect.Effect.{Effect}
use Rattle.hv_route.specs.Placing.{placed_cmp, runs_of}
use Rattle.hv_route.specs.Routes.{partition_of}
use Rattle.hv_route.specs.declared.placed.Placed.{Placed}
use Rattle.hv_route.specs.declared.runs.Run.{Run}
use Rattle.hv_route.specs.declared.fault.RouteFault.{RouteFault}
use Rattle.hv_route.specs.declared.fault.RouteFault.TheVariants as fault

-- the most bytes of a partition's text, and the most partitions that a change touches
abbrev pub text_limit : ℕ
text_limit = 240

abbrev pub partition_limit : ℕ
partition_limit = 100

-- ---- the rows of a change by partition: false for one that is inserted, true for one that is deleted

abbrev pub place_of_insert : Shape → Row → Placed Bool
place_of_insert shape row = record { partition = partition_of shape row; bucket = 0; item = false }

abbrev pub place_of_delete : Found → Placed Bool
place_of_delete found = record { partition = found.partition; bucket = 0; item = true }

abbrev pub rows_touched : Shape → Effect → List (Placed Bool)
rows_touched shape effect = map (place_of_insert shape) effect.inserts ++ map place_of_delete effect.deletes

-- ---- the touches: of each partition how many of both

abbrev pub inserted_count : List Bool → ℕ
inserted_count marks = sum_by (λ mark. if mark then 0 else 1) marks

abbrev pub deleted_count : List Bool → ℕ
deleted_count marks = sum_by (λ mark. if mark then 1 else 0) marks

abbrev pub touch_of : ℕ → Run Bool → Touch
touch_of table run =
    record {
      table = record { 0 = table };
      partition = run.partition;
      inserted = inserted_count run.items;
      deleted = deleted_count run.items;
    }

abbrev pub touches_of : TableInfo → Effect → List Touch
touches_of info effect =
    map (touch_of info.table.0) (runs_of (sorted_by (placed_cmp bool_cmp) (rows_touched info.shape effect)))

-- ---- the limits

-- the values that a file keeps of a row take few enough bytes
abbrev pub stored_fits : Shape → Row → Bool
stored_fits shape row = values_fit (take (length shape.columns) row.values)

abbrev pub is_long : Touch → Bool
is_long touch = nat_lt text_limit (length touch.partition)

abbrev pub is_above : List Touch → Bool
is_above touches = list_any is_long touches || nat_lt partition_limit (length touches)

abbrev pub within_limits : List Touch → Result (List Touch) RouteFault
within_limits touches = if is_above touches then Err fault.PartitionLimit else Ok touches

-- the touches of a change, or the limit that it is above
unfoldable pub touched : TableInfo → Effect → Result (List Touch) RouteFault
touched info effect =
    if list_all (stored_fits info.shape) effect.inserts then within_limits (touches_of info effect) else Err fault.RowLimit
