-- The catalog of a state: its live tables, by number. Source: the Hive manual, DDL (Create Table, Drop Table).
use Rattle.std.specs.Prelude.{Bool, true, false, Option, Some, None, List, [], ◌∷◌}
use Rattle.std.specs.List.{flat_map}
use Rattle.hv_book.specs.hv_history.specs.hv_meaning.specs.hv_typing.specs.hv_logic.specs.declared.catalog.TableInfo.{TableInfo}
use Rattle.hv_book.specs.hv_history.specs.declared.state.Table.{Table}

abbrev pub info_if : Bool → TableInfo → List TableInfo
info_if true info = info ∷ []
info_if false info = []

abbrev pub live_info : Table → List TableInfo
live_info table = info_if table.is_live table.info

abbrev pub live_infos : List Table → List TableInfo
live_infos tables = flat_map live_info tables

abbrev pub info_in : Option Table → List TableInfo
info_in None = []
info_in (Some table) = live_info table
