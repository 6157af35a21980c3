-- Which partitions of the tables that a statement names it needs, by its typed tree: of a query those that its conditions keep;
-- of a change besides those of its own table in which rows may stand that it deletes; of a MERGE all.
use Rattle.std.specs.Prelude.{ℕ, ◌==◌, Bool, true, false, ◌||◌, if◌then◌else◌, List, [], ◌∷◌, length, map, slice_get, Option, None, Some, Result, Ok, Err}
use Rattle.std.specs.List.{list_any}
use Rattle.hv_base.specs.declared.refusal.Refusal.{Refusal}
use Rattle.hv_value.specs.declared.value.Value.{Value}
use Rattle.hv_expr.specs.declared.tree.TypedExpr.{TypedExpr}
use Rattle.hv_logic.specs.declared.catalog.Column.{Column}
use Rattle.hv_logic.specs.declared.catalog.TableInfo.{TableInfo}
use Rattle.hv_route.specs.Partitions.{partition_values}
use Rattle.hv_typing.specs.declared.change.Deletes.{Deletes}
use Rattle.hv_typing.specs.declared.change.Deletes.TheVariants as deletes
use Rattle.hv_typing.specs.declared.change.Origin.{Origin}
use Rattle.hv_typing.specs.declared.change.Origin.TheVariants as origin
use Rattle.hv_typing.specs.declared.change.TypedChange.{TypedChange}
use Rattle.hv_typing.specs.declared.logic.Logic.{Logic}
use Rattle.hv_typing.specs.declared.logic.Logic.TheVariants as logic
use Rattle.hv_typing.specs.declared.tree.TypedQuery.{TypedQuery}
use Rattle.hv_typing.specs.declared.tree.TypedSource.{TypedSource}
use Rattle.hv_typing.specs.Columns.{columns_of}
use Rattle.hv_meaning.specs.Needs.{Needs}
use Rattle.hv_rewrite.specs.declared.keeping.PartitionTest.{PartitionTest}
use Rattle.hv_rewrite.specs.Conditions.{conjuncts_of}
use Rattle.hv_rewrite.specs.Fits.{fits}
use Rattle.hv_rewrite.specs.Pruned.{uses_of, keeps, uses_seen}
use Rattle.hv_rewrite.specs.Reach.{spot_at}
use Rattle.hv_effect.specs.declared.needs.Need.{Need}

-- how many values a row of the table has
abbrev pub width_of : TableInfo → ℕ
width_of info = length (columns_of info.shape)

abbrev pub widths_of : List TableInfo → List ℕ
widths_of infos = map width_of infos

abbrev pub parts_at : Option TableInfo → List Column
parts_at None = []
parts_at (Some info) = info.shape.parts

-- whether the rows of a table of so many values on which the condition is true may stand in a partition with these values
abbrev pub condition_needs : ℕ → Option TypedExpr → List Value → Bool
condition_needs width condition values = keeps (spot_at 0 width (conjuncts_of condition) ∷ []) values

-- ---- whether the partition with these values of the table at this place is needed

-- by a query over tables whose rows have so many values; one whose widths are not theirs looks at all rows
abbrev pub query_needs : List ℕ → ℕ → List Value → TypedQuery TypedSource → Bool
query_needs widths place values query = if fits query widths then keeps (uses_of place query) values else true

-- for the rows that a change deletes of the table of this description
abbrev pub deletes_need : TableInfo → List Value → Deletes → Bool
deletes_need info values deletes.Nothing = false
deletes_need info values (deletes.Matching condition) = condition_needs (width_of info) condition values
deletes_need info values deletes.Received = true

-- without a description nothing is deleted
abbrev pub deletes_need_of : Option TableInfo → List Value → Deletes → Bool
deletes_need_of None values gone = false
deletes_need_of (Some info) values gone = deletes_need info values gone

-- for the rows that new ones are made from
abbrev pub origin_needs : List ℕ → ℕ → List Value → Origin → Bool
origin_needs widths place values (origin.Values rows) = false
origin_needs widths place values (origin.Query query) = query_needs widths place values query
origin_needs widths place values origin.Deleted = false

abbrev pub own_needs : List TableInfo → ℕ → List Value → TypedChange → Bool
own_needs infos place values change =
    if change.table == place then deletes_need_of (slice_get infos place) values change.deletes else false

abbrev pub change_needs : List TableInfo → ℕ → List Value → TypedChange → Bool
change_needs infos place values change =
    own_needs infos place values change || origin_needs (widths_of infos) place values change.origin

abbrev pub logic_needs : List TableInfo → ℕ → List Value → Result Logic Refusal → Bool
logic_needs infos place values (Ok (logic.Query query)) = query_needs (widths_of infos) place values query
logic_needs infos place values (Ok (logic.Change change)) = change_needs infos place values change
logic_needs infos place values (Ok (logic.Merge merge)) = true
logic_needs infos place values (Ok (logic.Make shape)) = false
logic_needs infos place values (Ok (logic.Unmake table)) = false
logic_needs infos place values (Ok logic.Nothing) = false
logic_needs infos place values (Ok (logic.Describe columns)) = false
logic_needs infos place values (Ok (logic.Explain query)) = false
logic_needs infos place values (Ok (logic.Ask ask)) = false
logic_needs infos place values (Err why) = false

unfoldable pub needs_of : List TableInfo → Result Logic Refusal → Needs
needs_of infos typed place text = logic_needs infos place (partition_values (parts_at (slice_get infos place)) text) typed

-- ---- as the code has them

abbrev pub test_keeps : List Value → PartitionTest → Bool
test_keeps values test = keeps (uses_seen test) values

abbrev pub some_keeps : List PartitionTest → List Value → Bool
some_keeps tests values = list_any (test_keeps values) tests

abbrev pub wants : Need → List Value → Bool
wants need values = need.all || some_keeps need.tests.items values
