-- What a statement comes to over the tables that it names. Source: Hive Language Manual, DDL (Create Table, Drop Table, Describe, Alter
-- Table/Partition Compact), DML
-- (Inserting values into tables from SQL, Inserting data into
-- Hive Tables from queries, Update, Delete, Merge), Select, Explain.
use Rattle.std.specs.Prelude.{if◌then◌else◌, ℕ, nat_le, Bool, Option, Some, None, List, [], ◌∷◌, length, map, filter, drop, slice_get, Result, Ok, Err}
use Rattle.std.specs.List.{flat_map, list_any}
use Rattle.std.specs.Option.{option_to_list}
use Rattle.std.specs.Ordering.{is_eq}
use Rattle.std.specs.Cmp.Lexicographic.{slice_cmp}
use Rattle.hv_base.specs.declared.ids.Touch.{Touch}
use Rattle.hv_base.specs.declared.refusal.Refusal.{Refusal}
use Rattle.hv_base.specs.declared.refusal.Refusal.TheVariants as refusal
use Rattle.hv_ast.specs.declared.statement.Stmt.{Stmt}
use Rattle.hv_locks.specs.declared.table.Lock.{Lock}
use Rattle.hv_value.specs.declared.value.Value.{Value}
use Rattle.hv_value.specs.declared.value.Value.TheVariants as value
use Rattle.hv_value.specs.declared.row.Row.{Row}
use Rattle.hv_value.specs.Conversion.{converted}
use Rattle.hv_value.specs.Order.{value_cmp}
use Rattle.hv_typing.specs.hv_expr.specs.declared.tree.TypedExpr.{TypedExpr}
use Rattle.hv_typing.specs.hv_expr.specs.Evaluation.{value_of, values_of}
use Rattle.hv_typing.specs.hv_logic.specs.declared.catalog.Column.{Column}
use Rattle.hv_typing.specs.hv_logic.specs.declared.catalog.Shape.{Shape}
use Rattle.hv_typing.specs.hv_logic.specs.declared.catalog.TableInfo.{TableInfo}
use Rattle.hv_typing.specs.hv_logic.specs.declared.effect.Effect.{Effect}
use Rattle.hv_typing.specs.hv_logic.specs.declared.effect.Found.{Found}
use Rattle.hv_typing.specs.hv_logic.specs.declared.meaning.Meaning.{Meaning}
use Rattle.hv_typing.specs.hv_logic.specs.declared.meaning.Meaning.TheVariants.{Refused, Listing, Change, Make, Unmake, Ask, Plain, Twice, RowLimit, PartitionLimit}
use Rattle.hv_typing.specs.hv_logic.specs.declared.seen.Seen.{Seen}
use Rattle.hv_typing.specs.hv_logic.specs.Tables.{named}
use Rattle.hv_typing.specs.hv_logic.specs.Names.{names_in}
use Rattle.hv_typing.specs.hv_logic.specs.Rows.{rows_in}
use Rattle.hv_route.specs.declared.fault.RouteFault.{RouteFault}
use Rattle.hv_route.specs.declared.fault.RouteFault.TheVariants as route_fault
use Rattle.hv_route.specs.Partitions.{partition_text}
use Rattle.hv_route.specs.Touching.{touched, text_limit}
use Rattle.hv_typing.specs.declared.tree.OutputColumn.{OutputColumn}
use Rattle.hv_typing.specs.declared.tree.TypedQuery.{TypedQuery}
use Rattle.hv_typing.specs.declared.tree.TypedSource.{TypedSource}
use Rattle.hv_typing.specs.Rows.{Frame, Tables, is_met, rows_of, source_frames}
use Rattle.hv_typing.specs.declared.merge.TypedMerge.{TypedMerge}
use Rattle.hv_meaning.specs.Merging.{twice_found, merge_effect}
use Rattle.hv_typing.specs.declared.asks.TypedAsk.{TypedAsk}
use Rattle.hv_typing.specs.declared.change.Deletes.{Deletes}
use Rattle.hv_typing.specs.declared.change.Deletes.TheVariants as deletes
use Rattle.hv_typing.specs.declared.change.Origin.{Origin}
use Rattle.hv_typing.specs.declared.change.Origin.TheVariants as origin
use Rattle.hv_typing.specs.declared.change.TypedChange.{TypedChange}
use Rattle.hv_typing.specs.Columns.{columns_of}
use Rattle.hv_typing.specs.declared.logic.Logic.{Logic}
use Rattle.hv_typing.specs.declared.logic.Logic.TheVariants as logic
use Rattle.hv_typing.specs.Analysis.{analysed}
use Rattle.hv_typing.specs.Stages.{stages_of}
use Rattle.hv_typing.specs.StageLine.{stages_line}
use Rattle.hv_meaning.specs.Describing.{described}

-- ---- the live tables that a statement names, in the order in which it names them: a name means one of these

abbrev pub named_by : List Seen → Lock → List Seen
named_by tables lock = option_to_list (named lock.name tables)

abbrev pub its_tables : Stmt → List Seen → List Seen
its_tables tree tables = flat_map (named_by tables) (names_in tree)

abbrev pub info_of : Seen → TableInfo
info_of seen = seen.info

abbrev pub found_in : Seen → List Found
found_in seen = seen.rows

-- the tables that a query is run over, where these rows stand
abbrev pub tables_of : List (List Found) → Tables
tables_of found = map rows_in found

-- ---- a query: the names of its columns, and its rows

abbrev pub column_name : OutputColumn → List ℕ
column_name column = column.name

abbrev pub listed : TypedQuery TypedSource → Tables → Meaning
listed query rows = Listing (map column_name query.columns) (rows_of query rows)

-- ---- EXPLAIN FORMATTED: no rows below the line of the query's stages, which stands where the names of columns do

abbrev pub explained : TypedQuery TypedSource → Meaning
explained query = Listing (stages_line (stages_of query) ∷ []) []

-- ---- the rows that a change deletes: those for which a condition is true, in their order

abbrev pub is_matched : Option TypedExpr → Found → Bool
is_matched condition found = is_met condition found.row.values

abbrev pub matched : Deletes → List Found → List Found
matched (deletes.Matching condition) found = filter (is_matched condition) found
matched _ found = []

-- those that a new row is made for: UPDATE makes one for each row that it deletes, INSERT for each row of its source

abbrev pub values_alone : List TypedExpr → Frame
values_alone xs = values_of xs []

abbrev pub frame_of : Row → Frame
frame_of row = row.values

abbrev pub found_frame : Found → Frame
found_frame found = found.row.values

abbrev pub frames_from : Origin → List Found → Tables → List Frame
frames_from (origin.Values rows) gone tables = map values_alone rows
frames_from (origin.Query query) gone tables = map frame_of (rows_of query tables)
frames_from origin.Deleted gone tables = map found_frame gone

-- ---- a new row: each value is converted by itself to its column's type, and a column without one is NULL

abbrev pub first_value : Column → List TypedExpr → Frame → Value
first_value column [] frame = value.Null
first_value column (x ∷ xs) frame = converted (value_of x frame) column.kind

abbrev pub stored_values : List Column → List TypedExpr → Frame → List Value
stored_values [] xs frame = []
stored_values (column ∷ columns) xs frame = first_value column xs frame ∷ stored_values columns (drop 1 xs) frame

abbrev pub stored_row : List Column → List TypedExpr → Frame → Row
stored_row columns xs frame = record { values = stored_values columns xs frame }

abbrev pub inserts_of : Shape → TypedChange → List Found → Tables → List Row
inserts_of shape change gone tables = map (stored_row (columns_of shape) change.values) (frames_from change.origin gone tables)

-- ---- and the rows of the partitions that get a new row, which have the same values in the columns behind so many

abbrev pub same_parts : ℕ → Found → Row → Bool
same_parts width found row = is_eq (slice_cmp value_cmp (drop width found.row.values) (drop width row.values))

abbrev pub is_received : ℕ → List Row → Found → Bool
is_received width rows found = list_any (same_parts width found) rows

abbrev pub deleted : ℕ → Deletes → List Row → List Found → List Found
deleted width deletes.Received rows found = filter (is_received width rows) found
deleted width gone rows found = matched gone found

-- ---- a change of a table where these rows stand; rows, and the partitions that are touched, have their limits

abbrev pub effect_of : Shape → Deletes → List Row → List Found → Effect
effect_of shape gone rows found = record { inserts = rows; deletes = deleted (length shape.columns) gone rows found }

abbrev pub change_effect : Shape → TypedChange → List Found → Tables → Effect
change_effect shape change found tables =
    effect_of shape change.deletes (inserts_of shape change (matched change.deletes found) tables) found

abbrev pub unless_limited : TableInfo → Effect → Result (List Touch) RouteFault → Meaning
unless_limited info effect (Ok touches) = Change info effect
unless_limited info effect (Err route_fault.RowLimit) = RowLimit
unless_limited info effect (Err _) = PartitionLimit

abbrev pub within_limits : TableInfo → Effect → Meaning
within_limits info effect = unless_limited info effect (touched info effect)

abbrev pub or_none : Option (List Found) → List Found
or_none None = []
or_none (Some found) = found

abbrev pub changed_in : Option TableInfo → Option (List Found) → Tables → TypedChange → Option Meaning
changed_in None found tables change = None
changed_in (Some info) found tables change = Some (within_limits info (change_effect info.shape change (or_none found) tables))

-- ---- MERGE: the first row of the target that two source rows match, where a clause is of matched rows, or the change

abbrev pub twice_or : TableInfo → Option Found → Effect → Meaning
twice_or info None effect = within_limits info effect
twice_or info (Some found) effect = Twice found.partition found.id

abbrev pub merge_of : TableInfo → List Found → List Frame → TypedMerge → Meaning
merge_of info rows sources merge =
    twice_or info (twice_found merge sources rows) (merge_effect (stored_row (columns_of info.shape)) merge sources rows)

abbrev pub merged_in : Option TableInfo → Option (List Found) → Tables → TypedMerge → Option Meaning
merged_in None found tables merge = None
merged_in (Some info) found tables merge = Some (merge_of info (or_none found) (source_frames merge.source tables) merge)

-- ---- a compaction that is asked for: of the partition whose text these values give, which is as long as that of a change may be

abbrev pub asked_partition : TypedAsk → List ℕ
asked_partition ask = partition_text ask.table.shape.parts (stored_row ask.table.shape.parts ask.values []).values

abbrev pub unless_long : TypedAsk → List ℕ → Meaning
unless_long ask text = if nat_le (length text) text_limit then Ask ask.table.table text ask.kind else PartitionLimit

abbrev pub asking : TypedAsk → Meaning
asking ask = unless_long ask (asked_partition ask)

-- ---- a form that isn't built has no meaning

abbrev pub refused_for : Refusal → Option Meaning
refused_for refusal.Syntax = None
refused_for why = Some (Refused why)

abbrev pub meant : List TableInfo → List (List Found) → Result Logic Refusal → Option Meaning
meant infos found (Ok (logic.Query query)) = Some (listed query (tables_of found))
meant infos found (Ok (logic.Change change)) =
    changed_in (slice_get infos change.table) (slice_get found change.table) (tables_of found) change
meant infos found (Ok (logic.Merge merge)) =
    merged_in (slice_get infos merge.table) (slice_get found merge.table) (tables_of found) merge
meant infos found (Ok (logic.Make shape)) = Some (Make shape)
meant infos found (Ok (logic.Unmake table)) = Some (Unmake table)
meant infos found (Ok logic.Nothing) = Some Plain
meant infos found (Ok (logic.Describe columns)) = Some (described columns)
meant infos found (Ok (logic.Explain query)) = Some (explained query)
meant infos found (Ok (logic.Ask ask)) = Some (asking ask)
meant infos found (Err why) = refused_for why

-- over tables of these descriptions, where these rows stand
abbrev pub meaning_over : Stmt → List TableInfo → List (List Found) → Option Meaning
meaning_over tree infos found = meant infos found (analysed infos tree)

-- over the tables that a statement names
unfoldable pub meaning_in : Stmt → List Seen → Option Meaning
meaning_in tree tables = meaning_over tree (map info_of tables) (map found_in tables)

-- what a statement comes to over the live tables
abbrev pub meaning_of : List Seen → Stmt → Option Meaning
meaning_of tables tree = meaning_in tree (its_tables tree tables)
