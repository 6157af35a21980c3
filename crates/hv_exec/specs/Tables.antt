-- The tables that a query is run over, as they are handed in.
use Rattle.std.specs.Prelude.{List, map, filter}
use Rattle.hv_logic.specs.declared.effect.TableRows.{TableRows}
use Rattle.hv_logic.specs.Rows.{rows_in}
use Rattle.hv_typing.specs.declared.tree.TypedSource.{TypedSource}
use Rattle.hv_typing.specs.declared.tree.TypedSelect.{TypedSelect}
use Rattle.hv_value.specs.declared.row.Row.{Row}
use Rattle.hv_typing.specs.Rows.{Frame, Tables, is_met, source_frames, shown, kept}

abbrev pub tables_in : List TableRows → Tables
tables_in tables = map (λ (table : TableRows). rows_in table.rows) tables

-- the rows of a source over these tables
unfoldable pub frames_over : Tables → TypedSource → List Frame
frames_over tables source = source_frames source tables

-- what a select makes of the rows of its FROM
unfoldable pub select_rows : TypedSelect TypedSource → List Frame → List Row
select_rows select frames = kept select.distinct (shown select.items select.groups (filter (is_met select.filter) frames))
