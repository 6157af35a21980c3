-- SHOW: PARTITIONS is of the live table of that name, which has partition columns, or NoTable, or BadCount; the other forms have no
-- fault. What is listed is said of the whole book and not of the tables alone, so it stands with the history.
-- Source: Hive Language Manual, DDL (Show Tables, Show Partitions, Show Transactions, Show Locks, Show Compactions). That a table
-- without partition columns is refused is Hive's; the number of the refusal is this project's profile.
use Rattle.std.specs.Prelude.{ℕ, if◌then◌else◌, List, slice_get, Option, None, Some, Result, Ok, Err}
use Rattle.hv_base.specs.declared.refusal.Refusal.{Refusal}
use Rattle.hv_base.specs.declared.refusal.Refusal.TheVariants as refusal
use Rattle.hv_logic.specs.hv_ast.specs.declared.statement.Show.{Show}
use Rattle.hv_logic.specs.hv_ast.specs.declared.statement.Show.TheVariants as show
use Rattle.hv_logic.specs.declared.catalog.TableInfo.{TableInfo}
use Rattle.hv_typing.specs.Inserts.{is_empty}
use Rattle.hv_typing.specs.declared.logic.Logic.{Logic}
use Rattle.hv_typing.specs.declared.logic.Logic.TheVariants as logic
use Rattle.hv_typing.specs.Creates.{place_of}

abbrev pub partitions_as : Option TableInfo → Result Logic Refusal
partitions_as None = Err refusal.NoTable
partitions_as (Some info) = if is_empty info.shape.parts then Err refusal.BadCount else Ok logic.Nothing

abbrev pub partitions_at : List TableInfo → Option ℕ → Result Logic Refusal
partitions_at tables None = Err refusal.NoTable
partitions_at tables (Some place) = partitions_as (slice_get tables place)

unfoldable pub partitions_shown : List TableInfo → List ℕ → Result Logic Refusal
partitions_shown tables name = partitions_at tables (place_of name tables)

unfoldable pub show_analysed : List TableInfo → Show → Result Logic Refusal
show_analysed tables (show.Partitions name) = partitions_shown tables name
show_analysed tables _ = Ok logic.Nothing
