-- What a source of FROM brings: a table its columns and then its partition columns (NoTable where it isn't live), a query
-- in parentheses its output columns. It is taken whole, and sees nothing of what stands around it.
-- Source: Hive Language Manual, Select and SubQueries.
use Rattle.std.specs.Prelude.{ℕ, List, map, slice_get, Option, None, Some, Result, Ok, Err}
use Rattle.hv_base.specs.declared.refusal.Refusal.{Refusal}
use Rattle.hv_base.specs.declared.refusal.Refusal.TheVariants as refusal
use Rattle.hv_logic.specs.hv_ast.specs.declared.query.Query.{Query}
use Rattle.hv_logic.specs.hv_ast.specs.declared.query.Source.{Source}
use Rattle.hv_logic.specs.hv_ast.specs.declared.query.Source.TheOpen.{Source-F}
use Rattle.hv_logic.specs.hv_ast.specs.declared.query.Source.TheFolds.{fold-Source}
use Rattle.hv_logic.specs.declared.catalog.Column.{Column}
use Rattle.hv_logic.specs.declared.catalog.TableInfo.{TableInfo}
use Rattle.hv_typing.specs.declared.tree.TypedQuery.{TypedQuery}
use Rattle.hv_typing.specs.declared.tree.TypedSource.{TypedSource}
use Rattle.hv_typing.specs.declared.tree.TypedSource.TheVariants as typed_source
use Rattle.hv_typing.specs.Faults.{and_then}
use Rattle.hv_typing.specs.declared.opened.Brought.{Brought}
use Rattle.hv_typing.specs.Sources.{query_brought}
use Rattle.hv_typing.specs.Queries.{query_typed}
use Rattle.hv_typing.specs.Columns.{columns_of, field_of}
use Rattle.hv_typing.specs.Creates.{place_of}

abbrev pub or_name : Option (List ℕ) → List ℕ → List ℕ
or_name None name = name
or_name (Some alias) name = alias

abbrev pub table_brought : ℕ → List ℕ → List Column → Brought
table_brought place alias columns =
    record { source = typed_source.Table place; alias = alias; fields = map (field_of alias) columns }

abbrev pub info_brought : ℕ → Option TableInfo → List ℕ → Result Brought Refusal
info_brought place None alias = Err refusal.NoTable
info_brought place (Some info) alias = Ok (table_brought place alias (columns_of info.shape))

abbrev pub place_brought : List TableInfo → Option ℕ → List ℕ → Result Brought Refusal
place_brought tables None alias = Err refusal.NoTable
place_brought tables (Some place) alias = info_brought place (slice_get tables place) alias

-- of a source, where the sources of its query bring this
abbrev pub layer_brought : List TableInfo → Source-F (Result Brought Refusal) → Result Brought Refusal
layer_brought tables (Source-F.Table name alias) = place_brought tables (place_of name tables) (or_name alias name)
layer_brought tables (Source-F.Query query alias) =
    and_then (query_typed (λ (brought : Result Brought Refusal). brought) query) (λ typed. Ok (query_brought alias typed))

unfoldable pub brought : List TableInfo → Source → Result Brought Refusal
brought tables = fold-Source (Result Brought Refusal) (layer_brought tables)

-- a query over the live tables
abbrev pub selected : List TableInfo → Query Source → Result (TypedQuery TypedSource) Refusal
selected tables query = query_typed (brought tables) query
