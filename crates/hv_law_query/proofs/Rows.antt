-- The rows of a source: of a table, and of a query.
use Rattle.std.proofs.Common.{◌≡◌, ℕ, List, map, slice_get, ap, ◌∙◌}
use Rattle.hv_value.specs.declared.row.Row.{Row}
use Rattle.hv_typing.specs.declared.tree.TypedQuery.{TypedQuery}
use Rattle.hv_typing.specs.declared.tree.TypedSource.{TypedSource}
use Rattle.hv_typing.specs.declared.tree.TypedSource.TheFolds.{fold-TypedSource}
use Rattle.hv_typing.specs.declared.tree.TypedSource.TheVariants as source
use Rattle.hv_typing.specs.Rows.{Frame, Tables, values_in, layer_frames, source_frames, rows_of}
use Rattle.hv_law_query.proofs.Folds.{fold-Table, fold-Query}
use Rattle.hv_law_query.proofs.Replaced.{query_rows-mapped}

abbrev Meaning : Type 0
Meaning = Tables → List Frame

abbrev frames_at : Tables → Meaning → List Frame
frames_at tables meaning = meaning tables

abbrev row_values : List Row → List Frame
row_values rows = map (λ (row : Row). row.values) rows

pub over_table : (tables : Tables) (place : ℕ) → source_frames (source.Table place) tables ≡ values_in (slice_get tables place)
unfolding source_frames
over_table tables place = ap (frames_at tables) (fold-Table layer_frames place)

pub over_query : (tables : Tables) (query : TypedQuery TypedSource)
    → source_frames (source.Query query) tables ≡ map (λ (row : Row). row.values) (rows_of query tables)
unfolding source_frames
over_query tables query =
    ap (frames_at tables) (fold-Query layer_frames query)
    ∙ ap row_values (query_rows-mapped (fold-TypedSource Meaning layer_frames) (frames_at tables) query)

pub ruleset sources = (over_table, over_query)
