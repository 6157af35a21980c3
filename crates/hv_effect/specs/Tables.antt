-- The rows that stand in the tables that are handed in.
use Rattle.std.specs.Prelude.{List, map}
use Rattle.hv_logic.specs.declared.effect.Found.{Found}
use Rattle.hv_logic.specs.declared.effect.TableRows.{TableRows}

abbrev pub rows_standing : TableRows → List Found
rows_standing table = table.rows

abbrev pub found_of : List TableRows → List (List Found)
found_of tables = map rows_standing tables
