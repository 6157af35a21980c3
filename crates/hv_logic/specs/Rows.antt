-- Rows that stand in a table.
use Rattle.std.specs.Prelude.{List, map}
use Rattle.std.specs.declared.cmp.Ordering.{Ordering}
use Rattle.std.specs.Ordering.{nat_cmp, on, then_cmp}
use Rattle.std.specs.Cmp.Lexicographic.{slice_cmp}
use Rattle.hv_base.specs.Identifiers.{row_id_cmp}
use Rattle.hv_value.specs.declared.row.Row.{Row}
use Rattle.hv_logic.specs.declared.effect.Found.{Found}

-- the rows alone
abbrev pub rows_in : List Found → List Row
rows_in found = map (λ (f : Found). f.row) found

-- rows that stand in a table, by partition and identifier
abbrev pub found_cmp : Found → Found → Ordering
found_cmp = then_cmp (on (λ (found : Found). found.partition) (slice_cmp nat_cmp)) (on (λ (found : Found). found.id) row_id_cmp)
