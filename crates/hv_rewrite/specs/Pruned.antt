-- Which partitions of a table a query can't need: those whose rows fail, at each place where the table stands, a
-- condition that looks at the partition's values alone. The values of the partition columns are the last ones of a row.
use Rattle.std.specs.Prelude.{ℕ, zero, suc, ◌+◌, ◌-◌, ◌==◌, ◌≡◌, Bool, true, if◌then◌else◌, List, [], ◌∷◌, ◌++◌, length, drop, map, filter, flat_map, IsTrue, Option}
use Rattle.std.specs.List.{list_any, list_all}
use Rattle.std.specs.Borrow.{Bor}
use Rattle.hv_value.specs.declared.value.Value.{Value}
use Rattle.hv_value.specs.declared.row.Row.{Row}
use Rattle.hv_expr.specs.declared.tree.TypedExpr.{TypedExpr}
use Rattle.hv_law_expr.specs.Places.{looks_only}
use Rattle.hv_typing.specs.declared.tree.TypedQuery.{TypedQuery}
use Rattle.hv_typing.specs.declared.tree.TypedSource.{TypedSource}
use Rattle.hv_typing.specs.declared.tree.TypedSource.TheOpen.{TypedSource-F}
use Rattle.hv_typing.specs.declared.tree.TypedSource.TheFolds.{fold-TypedSource}
use Rattle.hv_typing.specs.Rows.{Frame, Tables, is_true, is_met, nulls, rows_of}
use Rattle.hv_rewrite.specs.declared.keeping.TableUse.{TableUse}
use Rattle.hv_rewrite.specs.declared.keeping.PartitionTest.{PartitionTest}
use Rattle.hv_rewrite.specs.Conditions.{within}
use Rattle.hv_rewrite.specs.Reach.{Spot, Placed, query_spots}
use Rattle.hv_rewrite.specs.Wide.{is_wide}

-- ---- the spots at which the table with that place stands

module _ (wanted : ℕ) where
  abbrev pub layer_uses : TypedSource-F (Spot → List Spot) → Spot → List Spot
  layer_uses (TypedSource-F.Table place) spot = if place == wanted then spot ∷ [] else []
  layer_uses (TypedSource-F.Query query) spot =
      flat_map (λ (one : Placed (Spot → List Spot)). one.source one.spot) (query_spots query)

  unfoldable pub uses_at : TypedSource → Spot → List Spot
  uses_at = fold-TypedSource (Spot → List Spot) layer_uses

  abbrev pub placed_uses : Placed TypedSource → List Spot
  placed_uses one = uses_at one.source one.spot

  unfoldable pub uses_of : TypedQuery TypedSource → List Spot
  uses_of query = flat_map placed_uses (query_spots query)

-- ---- what is kept

-- a condition that looks at these places alone is true there; of others that isn't known
abbrev pub passes_over : ℕ → ℕ → Frame → TypedExpr → Bool
passes_over from to frame condition = if looks_only (within from to) condition then is_true condition frame else true

-- the place, among the values of a joined row, of the first of the last values
abbrev pub first_part : Spot → List Value → ℕ
first_part spot parts = (spot.base + spot.width) - length parts

abbrev pub spot_keeps : List Value → Spot → Bool
spot_keeps parts spot =
    list_all (passes_over (first_part spot parts) (spot.base + spot.width) (nulls (first_part spot parts) ++ parts))
    spot.conditions

unfoldable pub keeps : List Spot → List Value → Bool
keeps spots parts = list_any (spot_keeps parts) spots

-- ---- the tables without the rows that aren't kept

abbrev pub last_values : ℕ → List Value → List Value
last_values count values = drop (length values - count) values

abbrev pub row_kept : (List Value → Bool) → ℕ → Row → Bool
row_kept kept count row = kept (last_values count row.values)

-- those rows alone of the table with that place that a test lets through
abbrev pub narrowed : ℕ → (Row → Bool) → Tables → Tables
narrowed place test [] = []
narrowed zero test (rows ∷ tables) = filter test rows ∷ tables
narrowed (suc place) test (rows ∷ tables) = rows ∷ narrowed place test tables

-- whatever the number of partition columns: where rows are as wide as analysis says, the query has the same rows
-- without those of the table whose partition isn't kept
abbrev pub PrunedKeepsRows : TypedQuery TypedSource → ℕ → (List Value → Bool) → Type 0
PrunedKeepsRows query place kept =
    (count : ℕ) (tables : Tables) → IsTrue (is_wide query tables)
    → rows_of query (narrowed place (row_kept kept count) tables) ≡ rows_of query tables

-- a row on which the condition is true stands in a partition that is kept
abbrev pub MatchingRowsAreKept : Option TypedExpr → ℕ → (List Value → Bool) → Type 0
MatchingRowsAreKept condition width kept =
    (count : ℕ) (row : List Value) → length row ≡ width → IsTrue (is_met condition row)
    → IsTrue (kept (last_values count row))

-- ---- as the code has them

abbrev pub exprs_seen : List (Bor TypedExpr) → List TypedExpr
exprs_seen exprs = map (λ expr. expr.now) exprs

abbrev pub spot_seen : TableUse → Spot
spot_seen one = record { base = one.base; width = one.width; conditions = exprs_seen one.conditions.items }

abbrev pub uses_seen : PartitionTest → List Spot
uses_seen test = map spot_seen test.uses.items
