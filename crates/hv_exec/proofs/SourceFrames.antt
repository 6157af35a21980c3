-- The rows of a source: of a table, and of a query.
use Rattle.std.proofs.Common.{◌≡◌, ℕ, List, [], ◌∷◌, ◌++◌, map, filter, slice_get, if◌then◌else◌, Option, Some, None, refl, sym, ap, ◌∙◌}
use Rattle.hv_value.specs.declared.row.Row.{Row}
use Rattle.hv_typing.specs.declared.tree.TypedJoin.{TypedJoin}
use Rattle.hv_typing.specs.declared.tree.TypedFrom.{TypedFrom}
use Rattle.hv_typing.specs.declared.tree.TypedSelect.{TypedSelect}
use Rattle.hv_typing.specs.declared.tree.TypedUnion.{TypedUnion}
use Rattle.hv_typing.specs.declared.tree.TypedQuery.{TypedQuery}
use Rattle.hv_typing.specs.declared.tree.TypedSource.{TypedSource}
use Rattle.hv_typing.specs.declared.tree.TypedSource.TheOpen.{TypedSource-F}
use Rattle.hv_typing.specs.declared.tree.TypedSource.TheFolds.{fold_out-TypedSource, map-TypedSource}
use Rattle.hv_typing.specs.declared.tree.TypedSource.TheShapes
use Rattle.hv_typing.specs.declared.tree.TypedSource.TheVariants as source
use Rattle.hv_typing.specs.declared.tree.TypedSource.TheVariants.{rolls-Table, rolls-Query}
use Rattle.hv_typing.specs.declared.tree.TypedSource.TheViews.{out-TypedSource, out-roll-TypedSource}
use Rattle.hv_typing.specs.Grouped.{distinct}
use Rattle.hv_typing.specs.Order.{ordered, limited}
use Rattle.hv_typing.specs.Rows.{Frame, Tables, is_met, shown, kept, same_row, viewed, width_behind, joined, joined_with, frames_from, selected, united, rows_of, values_in, layer_frames, source_frames}
use Rattle.hv_joins.specs.Sources.{row_values}
use Rattle.hv_exec.specs.Tables.{frames_over}

abbrev Meaning : Type 0
Meaning = Tables → List Frame

source_frames-out : (s : TypedSource) (tables : Tables)
    → source_frames s tables ≡ layer_frames (map-TypedSource TypedSource Meaning source_frames (out-TypedSource s)) tables
unfolding source_frames
source_frames-out s tables = ap (λ (meaning : Meaning). meaning tables) (fold_out-TypedSource Meaning layer_frames s)

-- ---- a query whose sources are replaced by what they mean has the same rows
module _ (tables : Tables) where
  abbrev rows_meant : Meaning → List Frame
  rows_meant frames = frames tables

  abbrev rows_found : TypedSource → List Frame
  rows_found source = source_frames source tables

  joins_first : (width : ℕ) (lefts : List Frame) (joins : List (TypedJoin TypedSource))
      → joined_with rows_meant width lefts (map ((TheShapes.former-TypedSource-Query-0-at-8).map TypedSource Meaning source_frames) joins)
      ≡ joined_with rows_found width lefts joins
  joins_first width lefts [] = refl
  joins_first width lefts (join ∷ joins) =
      joins_first (width_behind join.kind width join.width)
      (joined width join.width (λ left right. is_met join.on (left ++ right)) join.kind lefts (source_frames join.source tables)) joins

  from_first : (from : Option (TypedFrom TypedSource))
      → frames_from rows_meant ((TheShapes.former-TypedSource-Query-0-at-12).map TypedSource Meaning source_frames from) ≡ frames_from rows_found from
  from_first None = refl
  from_first (Some from) = ap (viewed from.laterals) (joins_first from.width (source_frames from.source tables) from.joins)

  selected_first : (select : TypedSelect TypedSource)
      → selected rows_meant ((TheShapes.former-TypedSource-Query-0-at-15).map TypedSource Meaning source_frames select) ≡ selected rows_found select
  selected_first select =
      ap (λ frames. kept select.distinct (shown select.items select.groups (filter (is_met select.filter) frames))) (from_first select.from)

  joins_later : (width : ℕ) (lefts : List Frame) (joins : List (TypedJoin TypedSource))
      → joined_with rows_meant width lefts (map ((TheShapes.former-TypedSource-Query-0-at-25).map TypedSource Meaning source_frames) joins)
      ≡ joined_with rows_found width lefts joins
  joins_later width lefts [] = refl
  joins_later width lefts (join ∷ joins) =
      joins_later (width_behind join.kind width join.width)
      (joined width join.width (λ left right. is_met join.on (left ++ right)) join.kind lefts (source_frames join.source tables)) joins

  from_later : (from : Option (TypedFrom TypedSource))
      → frames_from rows_meant ((TheShapes.former-TypedSource-Query-0-at-29).map TypedSource Meaning source_frames from) ≡ frames_from rows_found from
  from_later None = refl
  from_later (Some from) = ap (viewed from.laterals) (joins_later from.width (source_frames from.source tables) from.joins)

  selected_later : (select : TypedSelect TypedSource)
      → selected rows_meant ((TheShapes.former-TypedSource-Query-0-at-32).map TypedSource Meaning source_frames select) ≡ selected rows_found select
  selected_later select =
      ap (λ frames. kept select.distinct (shown select.items select.groups (filter (is_met select.filter) frames))) (from_later select.from)

  abbrev behind : TypedUnion TypedSource → List Row → List Row → List Row
  behind next found more = if next.all then found ++ more else distinct same_row (found ++ more)

  united_meant : (found : List Row) (unions : List (TypedUnion TypedSource))
      → united rows_meant found (map ((TheShapes.former-TypedSource-Query-0-at-33).map TypedSource Meaning source_frames) unions)
      ≡ united rows_found found unions
  united_meant found [] = refl
  united_meant found (next ∷ unions) =
      ap (λ more. united rows_meant (behind next found more) (map ((TheShapes.former-TypedSource-Query-0-at-33).map TypedSource Meaning source_frames) unions))
      (selected_later next.select)
      ∙ united_meant (behind next found (selected rows_found next.select)) unions

  query_meant : (query : TypedQuery TypedSource)
      → layer_frames (map-TypedSource TypedSource Meaning source_frames (TypedSource-F.Query query)) tables ≡ row_values (rows_of query tables)
  query_meant query =
      ap (λ rows. row_values (limited query.limit (ordered query.order rows)))
      (ap (λ rows. united rows_meant rows (map ((TheShapes.former-TypedSource-Query-0-at-33).map TypedSource Meaning source_frames) query.unions))
      (selected_first query.select)
      ∙ united_meant (selected rows_found query.select) query.unions)

pub over_table : (tables : Tables) (place : ℕ) → frames_over tables (source.Table place) ≡ values_in (slice_get tables place)
unfolding frames_over
over_table tables place =
    source_frames-out (source.Table place) tables
    ∙ ap (λ layer. layer_frames (map-TypedSource TypedSource Meaning source_frames layer) tables)
    (ap out-TypedSource (sym (rolls-Table place)) ∙ out-roll-TypedSource (TypedSource-F.Table place))

pub over_query : (tables : Tables) (query : TypedQuery TypedSource) → frames_over tables (source.Query query) ≡ row_values (rows_of query tables)
unfolding frames_over
over_query tables query =
    source_frames-out (source.Query query) tables
    ∙ ap (λ layer. layer_frames (map-TypedSource TypedSource Meaning source_frames layer) tables)
    (ap out-TypedSource (sym (rolls-Query query)) ∙ out-roll-TypedSource (TypedSource-F.Query query))
    ∙ query_meant tables query

pub ruleset sources = (over_table, over_query)
