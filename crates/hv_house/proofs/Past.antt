-- A table at a place of the book is found by its name.
use Rattle.std.proofs.Common.{◌≡◌, ℕ, Bool, true, false, cond, Option, Some, List, [], ◌∷◌, ◌++◌, refl}
use Rattle.std.specs.Prelude.{◌&&◌, nat_eq}
use Rattle.std.specs.Cmp.Lexicographic.{pointwise}
use Rattle.std.specs.Option.{option_map}
use Rattle.hv_logic.specs.declared.catalog.TableInfo.{TableInfo}
use Rattle.hv_history.specs.declared.state.Table.{Table}
use Rattle.hv_recovery.specs.hv_fits.specs.hv_meta.specs.Catalogs.{info_if, live_infos}
use Rattle.hv_earlier.specs.Lists.{info_of_name}
use Rattle.hv_stands.specs.Reading.{table_of_name}

-- ---- by its name

abbrev info_in : Table → TableInfo
info_in table = table.info

info-by : (b : Bool) (table : Table) (rest : Option TableInfo) (more : Option Table) → rest ≡ option_map info_in more
    → cond b (Some table.info) rest ≡ option_map info_in (cond b (Some table) more)
info-by true table rest more e = refl
info-by false table rest more e = e

infos-next : (name : List ℕ) (table : Table) (rest : List TableInfo) (more : Option Table) → info_of_name name rest ≡ option_map info_in more → (live : Bool)
    → info_of_name name (info_if live table.info ++ rest)
    ≡ option_map info_in (cond (live && pointwise nat_eq table.info.shape.name name) (Some table) more)
infos-next name table rest more e true = info-by (pointwise nat_eq table.info.shape.name name) table (info_of_name name rest) more e
infos-next name table rest more e false = e

pub infos-named : (name : List ℕ) (tables : List Table) → info_of_name name (live_infos tables) ≡ option_map info_in (table_of_name name tables)
infos-named name [] = refl
infos-named name (table ∷ tables) =
    infos-next name table (live_infos tables) (table_of_name name tables) (infos-named name tables) table.is_live
