-- INSERT, UPDATE, DELETE and TRUNCATE over the live tables: the target (NoTable), then what the statement says of it. The source
-- of an INSERT comes behind its PARTITION and its column list. Source: Hive Language Manual, DML and DDL; the order of faults is this
-- project's profile.
use Rattle.std.specs.Prelude.{ℕ, List, slice_get, Option, None, Some, Result, Ok, Err}
use Rattle.hv_base.specs.declared.refusal.Refusal.{Refusal}
use Rattle.hv_base.specs.declared.refusal.Refusal.TheVariants as refusal
use Rattle.hv_logic.specs.hv_ast.specs.declared.change.Insert.{Insert}
use Rattle.hv_logic.specs.hv_ast.specs.declared.change.Rows.{Rows}
use Rattle.hv_logic.specs.hv_ast.specs.declared.change.Rows.TheVariants as rows
use Rattle.hv_logic.specs.hv_ast.specs.declared.statement.Stmt.{Stmt}
use Rattle.hv_logic.specs.hv_ast.specs.declared.statement.Stmt.TheVariants as stmt
use Rattle.hv_logic.specs.declared.catalog.Column.{Column}
use Rattle.hv_logic.specs.declared.catalog.Shape.{Shape}
use Rattle.hv_logic.specs.declared.catalog.TableInfo.{TableInfo}
use Rattle.hv_typing.specs.Faults.{and_then}
use Rattle.hv_typing.specs.declared.change.TypedChange.{TypedChange}
use Rattle.hv_typing.specs.Inserts.{rows_typed, values_inserted, query_inserted}
use Rattle.hv_typing.specs.Targets.{targets_of}
use Rattle.hv_typing.specs.Updates.{updated, deleted, truncated}
use Rattle.hv_typing.specs.Creates.{place_of}
use Rattle.hv_typing.specs.Subqueries.{selected}

module _ (tables : List TableInfo) (place : ℕ) (shape : Shape) where
  -- for these columns
  unfoldable pub source_inserted : Insert → Rows → List Column → Result TypedChange Refusal
  source_inserted insert (rows.Values rows) targets = and_then (rows_typed rows) (values_inserted place shape insert targets)
  source_inserted insert (rows.Query query) targets = and_then (selected tables query) (query_inserted place shape insert targets)

  unfoldable pub inserted : Insert → Result TypedChange Refusal
  inserted insert = and_then (targets_of shape insert.partition insert.columns) (source_inserted insert insert.rows)

  unfoldable pub changing : Stmt → Result TypedChange Refusal
  changing (stmt.Insert insert) = inserted insert
  changing (stmt.Update update) = updated place shape update
  changing (stmt.Delete delete) = deleted place shape delete
  changing (stmt.Truncate truncate) = truncated place shape truncate
  changing _ = Err refusal.Syntax

abbrev pub changing_table : List TableInfo → Stmt → ℕ → Option TableInfo → Result TypedChange Refusal
changing_table tables tree place None = Err refusal.NoTable
changing_table tables tree place (Some info) = changing tables place info.shape tree

abbrev pub changing_at : List TableInfo → Stmt → Option ℕ → Result TypedChange Refusal
changing_at tables tree None = Err refusal.NoTable
changing_at tables tree (Some place) = changing_table tables tree place (slice_get tables place)

-- a change of the table of that name
unfoldable pub change_of : List TableInfo → List ℕ → Stmt → Result TypedChange Refusal
change_of tables name tree = changing_at tables tree (place_of name tables)
