-- DESCRIBE: the columns of the live table of that name, those of its partitions last, or NoTable.
-- Source: Hive Language Manual, DDL (Describe).
use Rattle.std.specs.Prelude.{ℕ, List, slice_get, Option, None, Some, Result, Ok, Err}
use Rattle.hv_base.specs.declared.refusal.Refusal.{Refusal}
use Rattle.hv_base.specs.declared.refusal.Refusal.TheVariants as refusal
use Rattle.hv_logic.specs.declared.catalog.TableInfo.{TableInfo}
use Rattle.hv_typing.specs.declared.logic.Logic.{Logic}
use Rattle.hv_typing.specs.declared.logic.Logic.TheVariants as logic
use Rattle.hv_typing.specs.Columns.{columns_of}
use Rattle.hv_typing.specs.Creates.{place_of}

abbrev pub described_as : Option TableInfo → Result Logic Refusal
described_as None = Err refusal.NoTable
described_as (Some info) = Ok (logic.Describe (columns_of info.shape))

abbrev pub described_at : List TableInfo → Option ℕ → Result Logic Refusal
described_at tables None = Err refusal.NoTable
described_at tables (Some place) = described_as (slice_get tables place)

unfoldable pub described : List TableInfo → List ℕ → Result Logic Refusal
described tables name = described_at tables (place_of name tables)
