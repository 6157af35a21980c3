-- DROP TABLE: the live table of that name. Where there is none, nothing under IF EXISTS, else NoTable. PURGE changes nothing,
-- since a dropped table's rows go to no trash. Source: Hive Language Manual, DDL (Drop Table). That the name of no table is
-- refused is this project's profile, as with `hive.exec.drop.ignorenonexistent` set to false.
use Rattle.std.specs.Prelude.{ℕ, Bool, if◌then◌else◌, List, slice_get, Option, None, Some, Result, Ok, Err}
use Rattle.hv_base.specs.declared.refusal.Refusal.{Refusal}
use Rattle.hv_base.specs.declared.refusal.Refusal.TheVariants as refusal
use Rattle.hv_logic.specs.hv_ast.specs.declared.table.DropTable.{DropTable}
use Rattle.hv_logic.specs.declared.catalog.TableInfo.{TableInfo}
use Rattle.hv_typing.specs.declared.logic.Logic.{Logic}
use Rattle.hv_typing.specs.declared.logic.Logic.TheVariants as logic
use Rattle.hv_typing.specs.Creates.{place_of}

abbrev pub dropped_as : Bool → Option TableInfo → Result Logic Refusal
dropped_as if_exists None = if if_exists then Ok logic.Nothing else Err refusal.NoTable
dropped_as if_exists (Some info) = Ok (logic.Unmake info.table)

abbrev pub dropped_at : List TableInfo → Bool → Option ℕ → Result Logic Refusal
dropped_at tables if_exists None = dropped_as if_exists None
dropped_at tables if_exists (Some place) = dropped_as if_exists (slice_get tables place)

unfoldable pub dropped : List TableInfo → DropTable → Result Logic Refusal
dropped tables drop = dropped_at tables drop.if_exists (place_of drop.table tables)
