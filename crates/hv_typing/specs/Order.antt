-- ORDER BY and LIMIT: by the keys, which are places of the row, and then by the whole row.
-- Source: Hive Language Manual, Sort By and Select. That the whole row decides behind the keys is this project's profile.
use Rattle.std.specs.Prelude.{if◌then◌else◌, ℕ, Bool, List, [], ◌∷◌, Option, Some, None, take, slice_index_or}
use Rattle.std.specs.declared.cmp.Ordering.{Ordering}
use Rattle.std.specs.Ordering.{ordering_then, flip_args, on}
use Rattle.hv_base.specs.Sorting.{sorted_by}
use Rattle.hv_logic.specs.hv_value.specs.declared.value.Value.{Value}
use Rattle.hv_logic.specs.hv_value.specs.declared.value.Value.TheVariants.{Null}
use Rattle.hv_logic.specs.hv_value.specs.declared.row.Row.{Row}
use Rattle.hv_logic.specs.hv_value.specs.Order.{value_cmp, row_cmp}
use Rattle.hv_typing.specs.declared.tree.SortKey.{SortKey}

-- ---- the keys
abbrev pub value_at : ℕ → Row → Value
value_at place row = slice_index_or row.values place Null

-- under DESC the other way round, so that NULL is last
abbrev pub turned : Bool → (Row → Row → Ordering) → Row → Row → Ordering
turned descending cmp = if descending then flip_args cmp else cmp

unfoldable pub key_cmp : SortKey → Row → Row → Ordering
key_cmp key = turned key.descending (on (value_at key.place) value_cmp)

unfoldable pub order_cmp : List SortKey → Row → Row → Ordering
order_cmp [] left right = row_cmp left right
order_cmp (key ∷ keys) left right = ordering_then (key_cmp key left right) (order_cmp keys left right)

abbrev pub ordered : List SortKey → List Row → List Row
ordered keys rows = sorted_by (order_cmp keys) rows

abbrev pub limited : Option ℕ → List Row → List Row
limited None rows = rows
limited (Some count) rows = take count rows
