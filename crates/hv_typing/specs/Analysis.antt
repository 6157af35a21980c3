-- The typed statement, or its first fault. A form that isn't built yet is Syntax.
use Rattle.std.specs.Prelude.{ℕ, Bool, true, false, not, if◌then◌else◌, ◌&&◌, List, Option, None, Some, Result, Ok, Err}
use Rattle.std.specs.List.{list_all, list_any}
use Rattle.hv_base.specs.declared.refusal.Refusal.{Refusal}
use Rattle.hv_base.specs.declared.refusal.Refusal.TheVariants as refusal
use Rattle.hv_logic.specs.hv_ast.specs.declared.change.Rows.{Rows}
use Rattle.hv_logic.specs.hv_ast.specs.declared.change.Rows.TheVariants as rows
use Rattle.hv_logic.specs.hv_ast.specs.declared.query.From.{From}
use Rattle.hv_logic.specs.hv_ast.specs.declared.query.Item.{Item}
use Rattle.hv_logic.specs.hv_ast.specs.declared.query.Item.TheVariants as item
use Rattle.hv_logic.specs.hv_ast.specs.declared.query.Join.{Join}
use Rattle.hv_logic.specs.hv_ast.specs.declared.query.Query.{Query}
use Rattle.hv_logic.specs.hv_ast.specs.declared.query.Select.{Select}
use Rattle.hv_logic.specs.hv_ast.specs.declared.query.Source.{Source}
use Rattle.hv_logic.specs.hv_ast.specs.declared.query.Source.TheOpen.{Source-F}
use Rattle.hv_logic.specs.hv_ast.specs.declared.query.Source.TheFolds.{fold-Source}
use Rattle.hv_logic.specs.hv_ast.specs.declared.query.Union.{Union}
use Rattle.hv_logic.specs.hv_ast.specs.declared.statement.Stmt.{Stmt}
use Rattle.hv_logic.specs.hv_ast.specs.declared.statement.Stmt.TheVariants as stmt
use Rattle.hv_logic.specs.declared.catalog.TableInfo.{TableInfo}
use Rattle.hv_typing.specs.Faults.{and_then}
use Rattle.hv_typing.specs.declared.logic.Logic.{Logic}
use Rattle.hv_typing.specs.declared.logic.Logic.TheVariants as logic
use Rattle.hv_typing.specs.Creates.{created}
use Rattle.hv_typing.specs.Changes.{change_of}
use Rattle.hv_typing.specs.Merges.{merged}
use Rattle.hv_logic.specs.hv_ast.specs.declared.change.Merge.{Merge}
use Rattle.hv_typing.specs.Subqueries.{selected}
use Rattle.hv_typing.specs.Drops.{dropped}
use Rattle.hv_typing.specs.Descriptions.{described}
use Rattle.hv_typing.specs.Shows.{show_analysed}
use Rattle.hv_typing.specs.Settings.{set_analysed}
use Rattle.hv_typing.specs.Asks.{asked}

-- ---- a query without windows, in all its selects and in those of its subqueries

abbrev pub is_window : Item → Bool
is_window (item.Window window alias) = true
is_window _ = false

-- where a source has none
module _ {S : Type 0} (windowless : S → Bool) where
  abbrev pub is_windowless_join : Join S → Bool
  is_windowless_join join = windowless join.source

  unfoldable pub windowless_joins : List (Join S) → Bool
  windowless_joins joins = list_all is_windowless_join joins

  abbrev pub is_windowless_from : Option (From S) → Bool
  is_windowless_from None = true
  is_windowless_from (Some from) = windowless from.source && windowless_joins from.joins

  abbrev pub is_windowless_select : Select S → Bool
  is_windowless_select select = not (list_any is_window select.items) && is_windowless_from select.from

  abbrev pub is_windowless_union : Union S → Bool
  is_windowless_union union = is_windowless_select union.select

  unfoldable pub windowless_unions : List (Union S) → Bool
  windowless_unions unions = list_all is_windowless_union unions

  abbrev pub is_windowless_query : Query S → Bool
  is_windowless_query query = is_windowless_select query.select && windowless_unions query.unions

abbrev pub layer_windowless : Source-F Bool → Bool
layer_windowless (Source-F.Table name alias) = true
layer_windowless (Source-F.Query query alias) = is_windowless_query (λ (windowless : Bool). windowless) query

unfoldable pub is_windowless_source : Source → Bool
is_windowless_source = fold-Source Bool layer_windowless

unfoldable pub is_windowless : Query Source → Bool
is_windowless query = is_windowless_query is_windowless_source query

-- ---- the forms that are built

abbrev pub are_windowless : Rows → Bool
are_windowless (rows.Values values) = true
are_windowless (rows.Query query) = is_windowless query

unfoldable pub is_form : Stmt → Bool
is_form (stmt.Query query) = is_windowless query
is_form (stmt.Insert insert) = are_windowless insert.rows
is_form (stmt.Update update) = true
is_form (stmt.Delete delete) = true
is_form (stmt.Merge merge) = is_windowless_source merge.source
is_form (stmt.Truncate truncate) = true
is_form (stmt.CreateTable create) = true
is_form (stmt.DropTable drop) = true
is_form (stmt.Show show) = true
is_form (stmt.Describe table) = true
is_form (stmt.Compact compact) = true
is_form (stmt.Set setting) = true
is_form (stmt.AbortTransactions txns) = true
is_form (stmt.Explain query) = is_windowless query
is_form _ = false

-- ----

abbrev pub query_analysed : List TableInfo → Query Source → Result Logic Refusal
query_analysed tables query = and_then (selected tables query) (λ typed. Ok (logic.Query typed))

abbrev pub explain_analysed : List TableInfo → Query Source → Result Logic Refusal
explain_analysed tables query = and_then (selected tables query) (λ typed. Ok (logic.Explain typed))

abbrev pub change_analysed : List TableInfo → List ℕ → Stmt → Result Logic Refusal
change_analysed tables name tree = and_then (change_of tables name tree) (λ change. Ok (logic.Change change))

abbrev pub merge_analysed : List TableInfo → Merge → Result Logic Refusal
merge_analysed tables merge = and_then (merged tables merge) (λ typed. Ok (logic.Merge typed))

unfoldable pub form_analysed : List TableInfo → Stmt → Result Logic Refusal
form_analysed tables (stmt.Query query) = query_analysed tables query
form_analysed tables (stmt.Insert insert) = change_analysed tables insert.table (stmt.Insert insert)
form_analysed tables (stmt.Update update) = change_analysed tables update.table (stmt.Update update)
form_analysed tables (stmt.Delete delete) = change_analysed tables delete.table (stmt.Delete delete)
form_analysed tables (stmt.Merge merge) = merge_analysed tables merge
form_analysed tables (stmt.Truncate truncate) = change_analysed tables truncate.table (stmt.Truncate truncate)
form_analysed tables (stmt.CreateTable create) = created tables create
form_analysed tables (stmt.DropTable drop) = dropped tables drop
form_analysed tables (stmt.Show show) = show_analysed tables show
form_analysed tables (stmt.Describe table) = described tables table
form_analysed tables (stmt.Compact compact) = asked tables compact
form_analysed tables (stmt.Set setting) = set_analysed setting
form_analysed tables (stmt.AbortTransactions txns) = Ok logic.Nothing
form_analysed tables (stmt.Explain query) = explain_analysed tables query
form_analysed tables _ = Err refusal.Syntax

unfoldable pub analysed : List TableInfo → Stmt → Result Logic Refusal
analysed tables tree = if is_form tree then form_analysed tables tree else Err refusal.Syntax
