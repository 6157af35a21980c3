-- The rows of live tables, by their descriptions.
use Rattle.std.proofs.Common.{◌≡◌, ℕ, nat_eq, Bool, true, false, cond, Some, List, [], ◌∷◌, ◌++◌, map, refl, ap, ◌∙◌}
use Rattle.std.specs.Prelude.{◌&&◌, if◌then◌else◌}
use Rattle.std.specs.Option.{option_map}
use Rattle.std.specs.Cmp.Lexicographic.{pointwise}
use Rattle.hv_value.specs.declared.row.Row.{Row}
use Rattle.hv_history.specs.declared.state.Table.{Table}
use Rattle.hv_history.specs.Shown.{table_rows, number_named}
use Rattle.hv_fits.specs.hv_meta.specs.Catalogs.{info_if, live_infos}
use Rattle.hv_earlier.specs.Lists.{info_of_name}
use Rattle.hv_showing.specs.Fronts.{info_row, info_number}

pub rows-named : (tables : List Table) → map info_row (live_infos tables) ≡ table_rows tables
rows-named [] = refl
rows-named (table ∷ tables) = by table.is_live (rows-named tables)
  where
    by : (b : Bool) → map info_row (live_infos tables) ≡ table_rows tables
        → map info_row (info_if b table.info ++ live_infos tables) ≡ (if b then info_row table.info ∷ [] else []) ++ table_rows tables
    by true rest = ap (λ (rows : List Row). info_row table.info ∷ rows) rest
    by false rest = rest

pub number-found : (name : List ℕ) (tables : List Table) → option_map info_number (info_of_name name (live_infos tables)) ≡ number_named name tables
number-found name [] = refl
number-found name (table ∷ tables) = by table.is_live (pointwise nat_eq table.info.shape.name name) refl (number-found name tables)
  where
    by : (b c : Bool) → pointwise nat_eq table.info.shape.name name ≡ c
        → option_map info_number (info_of_name name (live_infos tables)) ≡ number_named name tables
        → option_map info_number (info_of_name name (info_if b table.info ++ live_infos tables))
        ≡ (if b && c then Some table.info.table.0 else number_named name tables)
    by true true is rest = ap (λ e. option_map info_number (cond e (Some table.info) (info_of_name name (live_infos tables)))) is
    by true false is rest = ap (λ e. option_map info_number (cond e (Some table.info) (info_of_name name (live_infos tables)))) is ∙ rest
    by false c is rest = rest
