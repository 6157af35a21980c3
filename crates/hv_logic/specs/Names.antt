-- The tables that a statement names, each with its lock: making a table, dropping it and changing its columns take its
-- name alone, and every other statement shares the names of all its sources, those of subqueries among them.
-- Source: Hive Transactions, locks (shared and exclusive).
use Rattle.std.specs.Prelude.{Bool, true, false, ℕ, Option, Some, None, List, [], ◌∷◌, ◌++◌}
use Rattle.std.specs.List.{flat_map}
use Rattle.hv_locks.specs.declared.table.Lock.{Lock}
use Rattle.hv_ast.specs.declared.query.Source.{Source}
use Rattle.hv_ast.specs.declared.query.Source.TheOpen.{Source-F}
use Rattle.hv_ast.specs.declared.query.Source.TheFolds.{fold-Source}
use Rattle.hv_ast.specs.declared.query.Join.{Join}
use Rattle.hv_ast.specs.declared.query.From.{From}
use Rattle.hv_ast.specs.declared.query.Union.{Union}
use Rattle.hv_ast.specs.declared.query.Query.{Query}
use Rattle.hv_ast.specs.declared.change.Rows.{Rows}
use Rattle.hv_ast.specs.declared.change.Rows.TheVariants as source_rows
use Rattle.hv_ast.specs.declared.statement.Show.{Show}
use Rattle.hv_ast.specs.declared.statement.Show.TheVariants as show
use Rattle.hv_ast.specs.declared.statement.Stmt.{Stmt}
use Rattle.hv_ast.specs.declared.statement.Stmt.TheVariants as stmt

abbrev pub shared : List ℕ → Lock
shared name = record { name = name; exclusive = false }

abbrev pub exclusive : List ℕ → Lock
exclusive name = record { name = name; exclusive = true }

-- of a query, from left to right, where a source names these
module _ {S : Type 0} (names : S → List Lock) where
  abbrev pub names_of_join : Join S → List Lock
  names_of_join join = names join.source

  abbrev pub names_in_from : From S → List Lock
  names_in_from from = names from.source ++ flat_map names_of_join from.joins

  abbrev pub names_in_maybe : Option (From S) → List Lock
  names_in_maybe None = []
  names_in_maybe (Some from) = names_in_from from

  abbrev pub names_of_union : Union S → List Lock
  names_of_union union = names_in_maybe union.select.from

  abbrev pub names_in_query : Query S → List Lock
  names_in_query query = names_in_maybe query.select.from ++ flat_map names_of_union query.unions

-- of a source, where the sources of its query name these
abbrev pub layer_names : Source-F (List Lock) → List Lock
layer_names (Source-F.Table name alias) = shared name ∷ []
layer_names (Source-F.Query query alias) = names_in_query (λ (names : List Lock). names) query

unfoldable pub source_names : Source → List Lock
source_names = fold-Source (List Lock) layer_names

abbrev pub query_names : Query Source → List Lock
query_names query = names_in_query source_names query

abbrev pub rows_names : Rows → List Lock
rows_names (source_rows.Values rows) = []
rows_names (source_rows.Query query) = query_names query

abbrev pub show_names : Show → List Lock
show_names (show.Partitions table) = shared table ∷ []
show_names _ = []

abbrev pub names_in : Stmt → List Lock
names_in (stmt.Query query) = query_names query
names_in (stmt.Insert insert) = shared insert.table ∷ rows_names insert.rows
names_in (stmt.Update update) = shared update.table ∷ []
names_in (stmt.Delete delete) = shared delete.table ∷ []
names_in (stmt.Merge merge) = shared merge.table ∷ source_names merge.source
names_in (stmt.CreateTable create) = exclusive create.table ∷ []
names_in (stmt.DropTable drop) = exclusive drop.table ∷ []
names_in (stmt.AddColumns add) = exclusive add.table ∷ []
names_in (stmt.Truncate truncate) = shared truncate.table ∷ []
names_in (stmt.Show show) = show_names show
names_in (stmt.Describe table) = shared table ∷ []
names_in (stmt.Compact compact) = shared compact.table ∷ []
names_in (stmt.AbortTransactions txns) = []
names_in (stmt.Explain query) = query_names query
names_in (stmt.Set setting) = []
names_in (stmt.Transaction transaction) = []
names_in (stmt.CreateView create) = exclusive create.view ∷ query_names create.query
names_in (stmt.RebuildView view) = exclusive view ∷ []
names_in (stmt.DropView view) = exclusive view ∷ []
