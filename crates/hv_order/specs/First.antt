-- The first rows of an order.
use Rattle.std.specs.Prelude.{◌≡◌, ℕ, ◌<◌, ◌≤◌, length, IsSorted, IsTrue, List, take, Option, None, Some}
use Rattle.hv_value.specs.declared.row.Row.{Row}
use Rattle.hv_typing.specs.declared.tree.SortKey.{SortKey}
use Rattle.hv_typing.specs.Order.{order_cmp, ordered}
use Rattle.hv_order.specs.declared.Front.{Front}
use Rattle.hv_order.specs.declared.Kept.{Kept}

abbrev pub first_ordered : List SortKey → ℕ → List Row → List Row
first_ordered keys count rows = take count (ordered keys rows)

-- the first rows, as many as are wanted, are sorted
abbrev pub IsBounded : List SortKey → ℕ → List Row → Type 0
IsBounded keys count rows = (0 < count) × (count ≤ length rows) × IsSorted (order_cmp keys) (take count rows)

-- Rows that do for all: the same rows where all are wanted, else rows with the same first ones.
abbrev pub IsEnough : Option Front → List Row → List Row → Type 0
IsEnough None rows all = rows ≡ all
IsEnough (Some front) rows all = first_ordered front.keys.now front.count rows ≡ first_ordered front.keys.now front.count all

-- what `bounded` says of rows that are kept
abbrev pub IsSound : Option Front → Kept → Type 0
IsSound None kept = Unit {0}
IsSound (Some front) kept = IsTrue kept.bounded → IsBounded front.keys.now front.count kept.rows.items
