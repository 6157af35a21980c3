-- The rows that stand in tables, and the rows that a query is run over.
use Rattle.std.proofs.Common.{◌≡◌, List, [], ◌∷◌, refl, ap}
use Rattle.hv_value.specs.declared.row.Row.{Row}
use Rattle.hv_logic.specs.declared.effect.TableRows.{TableRows}
use Rattle.hv_logic.specs.Rows.{rows_in}
use Rattle.hv_exec.specs.Tables.{tables_in, frames_over}
use Rattle.hv_typing.specs.declared.tree.TypedSource.{TypedSource}
use Rattle.hv_typing.specs.Rows.{source_frames}
use Rattle.hv_meaning.specs.Meaning.{tables_of}
use Rattle.hv_effect.specs.Tables.{found_of}

pub tables-found : (tables : List TableRows) → tables_in tables ≡ tables_of (found_of tables)
tables-found [] = refl
tables-found (table ∷ tables) = ap (λ (more : List (List Row)). rows_in table.rows ∷ more) (tables-found tables)

pub sources_found : (tables : List TableRows) (source : TypedSource) → frames_over (tables_in tables) source ≡ source_frames source (tables_of (found_of tables))
unfolding frames_over
sources_found tables source = ap (source_frames source) (tables-found tables)
