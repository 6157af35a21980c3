-- Whether the rows of each source have as many values as its width says: then a place in an expression means the value
-- that it was typed for. The rows that a query in FROM makes have as many values as its selects have items.
use Rattle.std.specs.Prelude.{ℕ, ◌==◌, Bool, true, ◌&&◌, List, length, map, slice_get, Option, None, Some}
use Rattle.std.specs.List.{list_all}
use Rattle.hv_logic.specs.declared.effect.TableRows.{TableRows}
use Rattle.hv_logic.specs.Rows.{rows_in}
use Rattle.hv_typing.specs.declared.tree.TypedJoin.{TypedJoin}
use Rattle.hv_typing.specs.declared.tree.TypedFrom.{TypedFrom}
use Rattle.hv_typing.specs.declared.tree.TypedSelect.{TypedSelect}
use Rattle.hv_typing.specs.declared.tree.TypedUnion.{TypedUnion}
use Rattle.hv_typing.specs.declared.tree.TypedQuery.{TypedQuery}
use Rattle.hv_typing.specs.declared.tree.TypedSource.{TypedSource}
use Rattle.hv_typing.specs.declared.tree.TypedSource.TheOpen.{TypedSource-F}
use Rattle.hv_typing.specs.declared.tree.TypedSource.TheFolds.{fold-TypedSource}
use Rattle.hv_typing.specs.Rows.{Frame, Tables, values_in}

abbrev pub tables_in : List TableRows → Tables
tables_in tables = map (λ (table : TableRows). rows_in table.rows) tables

abbrev pub has_width : ℕ → Frame → Bool
has_width width frame = length frame == width

abbrev pub all_have_width : ℕ → List Frame → Bool
all_have_width width frames = list_all (has_width width) frames

module _ {S : Type 0} where
  abbrev pub has_items : ℕ → TypedSelect S → Bool
  has_items width select = length select.items == width

  abbrev pub union_has_items : ℕ → TypedUnion S → Bool
  union_has_items width next = has_items width next.select

  -- each select of the query shows so many values
  abbrev pub shows : ℕ → TypedQuery S → Bool
  shows width query = has_items width query.select && list_all (union_has_items width) query.unions

module _ {S : Type 0} (wide : S → ℕ → Bool) where
  abbrev pub join_wide : TypedJoin S → Bool
  join_wide join = wide join.source join.width

  abbrev pub joins_wide : List (TypedJoin S) → Bool
  joins_wide joins = list_all join_wide joins

  abbrev pub from_wide : Option (TypedFrom S) → Bool
  from_wide None = true
  from_wide (Some from) = wide from.source from.width && joins_wide from.joins

  abbrev pub select_wide : TypedSelect S → Bool
  select_wide select = from_wide select.from

  abbrev pub union_wide : TypedUnion S → Bool
  union_wide next = select_wide next.select

  abbrev pub unions_wide : List (TypedUnion S) → Bool
  unions_wide unions = list_all union_wide unions

  abbrev pub query_wide : TypedQuery S → Bool
  query_wide query = select_wide query.select && unions_wide query.unions

-- whether a source has that width over these tables
abbrev pub Widths : Type 0
Widths = Tables → ℕ → Bool

abbrev pub layer_wide : TypedSource-F Widths → Widths
layer_wide (TypedSource-F.Table place) tables width = all_have_width width (values_in (slice_get tables place))
layer_wide (TypedSource-F.Query query) tables width =
    shows width query && query_wide (λ (widths : Widths) count. widths tables count) query

unfoldable pub source_widths : TypedSource → Widths
source_widths = fold-TypedSource Widths layer_wide

unfoldable pub source_wide : Tables → TypedSource → ℕ → Bool
source_wide tables source width = source_widths source tables width

unfoldable pub is_wide : TypedQuery TypedSource → Tables → Bool
is_wide query tables = query_wide (source_wide tables) query
