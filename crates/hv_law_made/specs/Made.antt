-- Which directories a book makes, and what stands in each: the own deltas of its commits, the wide deltas of its minor compactions,
-- and the bases of its major ones. What a directory holds is a function of its name and of the committed writes, whenever it was
-- made, since no write is committed later whose id lies in a range that was published.
-- Source: Hive Transactions, base and delta directories, and compactor.
use Rattle.std.specs.Prelude.{if◌then◌else◌, ℕ, ◌==◌, ◌&&◌, nat_eq, nat_le, Bool, true, false, Option, Some, None, List, [], ◌∷◌, ◌++◌, map, filter}
use Rattle.std.specs.declared.cmp.Ordering.{Ordering}
use Rattle.std.specs.Ordering.{on}
use Rattle.std.specs.Cmp.Lexicographic.{pointwise}
use Rattle.std.specs.List.{flat_map, list_any}
use Rattle.hv_base.specs.Identifiers.{row_id_cmp}
use Rattle.hv_base.specs.Sorting.{sorted_by}
use Rattle.hv_shelf.specs.declared.place.Place.{Place}
use Rattle.hv_logic.specs.declared.catalog.Shape.{Shape}
use Rattle.hv_logic.specs.declared.effect.Found.{Found}
use Rattle.hv_route.specs.Standing.{insert_record, stands_in}
use Rattle.hv_rowfile.specs.declared.record.Rec.{Rec}
use Rattle.hv_rowfile.specs.Layout.{id_of as record_id}
use Rattle.hv_dirs.specs.declared.names.DirName.{DirName}
use Rattle.hv_dirs.specs.declared.names.DirName.TheVariants as dir
use Rattle.hv_dirs.specs.Names.{text_of}
use Rattle.hv_dirs.specs.Choice.{Delta, Own, Wide}
use Rattle.hv_stands.specs.hv_history.specs.declared.state.Table.{Table}
use Rattle.hv_stands.specs.hv_history.specs.declared.state.Written.{Written}
use Rattle.hv_stands.specs.hv_history.specs.State.{State, Job, content_of, numbered}
use Rattle.hv_stands.specs.Files.{records_of}
use Rattle.hv_stands.specs.hv_history.specs.Jobs.{jobs_of}
use Rattle.hv_jobs.specs.Covers.{job_names, is_freed, is_cleaned_away}

-- ---- the records of a directory in a bucket

-- the writes of which a delta has the events
abbrev pub has_written : Delta → Written → Bool
has_written (Own write statement) written = (written.write == write) && (written.statement == statement)
has_written (Wide low high) written = nat_le low written.write && nat_le written.write high

abbrev pub rec_cmp : Rec → Rec → Ordering
rec_cmp = on record_id row_id_cmp

-- those of its writes, by identifier
unfoldable pub delta_recs : Shape → List Written → List ℕ → Bool → Delta → ℕ → List Rec
delta_recs shape writes partition deletes d bucket =
    sorted_by rec_cmp (flat_map (records_of shape deletes partition bucket) (filter (has_written d) writes))

abbrev pub is_up_to : ℕ → Written → Bool
is_up_to high written = nat_le written.write high

-- what a table's writes up to a number left of it
abbrev pub rows_up_to : List Written → ℕ → List Found
rows_up_to writes high = content_of (filter (is_up_to high) writes)

-- a base has the rows of the partition that are left
unfoldable pub base_recs : Shape → List Written → List ℕ → ℕ → ℕ → List Rec
base_recs shape writes partition high bucket = map (insert_record shape) (filter (stands_in partition bucket) (rows_up_to writes high))

abbrev pub name_recs : Shape → List Written → List ℕ → DirName → ℕ → List Rec
name_recs shape writes partition (dir.Base high) bucket = base_recs shape writes partition high.0 bucket
name_recs shape writes partition (dir.Own deletes write statement) bucket = delta_recs shape writes partition deletes (Own write.0 statement) bucket
name_recs shape writes partition (dir.Wide deletes low high) bucket = delta_recs shape writes partition deletes (Wide low.0 high.0) bucket
name_recs shape writes partition (dir.Staged job name) bucket = []

-- the kind of its files: deletes or rows
abbrev pub has_deletes : DirName → Bool
has_deletes (dir.Base high) = false
has_deletes (dir.Own deletes write statement) = deletes
has_deletes (dir.Wide deletes low high) = deletes
has_deletes (dir.Staged job name) = false

-- ---- the file of a bucket: one without records has none, but for the first one of a base without rows, so that the base stands

abbrev pub in_partition : List ℕ → Found → Bool
in_partition partition found = pointwise nat_eq found.partition partition

abbrev pub has_rows : List Written → List ℕ → ℕ → Bool
has_rows writes partition high = list_any (in_partition partition) (rows_up_to writes high)

-- an empty file of rows
abbrev pub if_bare : Bool → ℕ → Option (Bool × List Rec)
if_bare true bucket = None
if_bare false bucket = if bucket == 0 then Some (false, []) else None

abbrev pub bare_file : List Written → List ℕ → DirName → ℕ → Option (Bool × List Rec)
bare_file writes partition (dir.Base high) bucket = if_bare (has_rows writes partition high.0) bucket
bare_file writes partition (dir.Own deletes write statement) bucket = None
bare_file writes partition (dir.Wide deletes low high) bucket = None
bare_file writes partition (dir.Staged job name) bucket = None

-- these records, or else that
abbrev pub some_or : Bool → List Rec → Option (Bool × List Rec) → Option (Bool × List Rec)
some_or deletes [] other = other
some_or deletes (r ∷ recs) other = Some (deletes, r ∷ recs)

unfoldable pub name_file : Shape → List Written → List ℕ → DirName → ℕ → Option (Bool × List Rec)
name_file shape writes partition name bucket =
    some_or (has_deletes name) (name_recs shape writes partition name bucket) (bare_file writes partition name bucket)

-- ---- the names that a table's writes and a partition's jobs make

abbrev pub write_names : Written → List DirName
write_names written =
    dir.Own false (record { 0 = written.write }) written.statement ∷ dir.Own true (record { 0 = written.write }) written.statement ∷ []

abbrev pub names_in : List Written → List Job → List DirName
names_in writes jobs = flat_map write_names writes ++ flat_map job_names jobs

-- rows that were inserted in the partition, or deleted
abbrev pub has_events : Bool → List ℕ → Written → Bool
has_events false partition written = list_any (in_partition partition) written.inserts
has_events true partition written = list_any (in_partition partition) written.deletes

-- a delta is made where some bucket has a record, a base in any case
abbrev pub is_made : List Written → List ℕ → DirName → Bool
is_made writes partition (dir.Base high) = true
is_made writes partition (dir.Own deletes write statement) = list_any (has_events deletes partition) (filter (has_written (Own write.0 statement)) writes)
is_made writes partition (dir.Wide deletes low high) = list_any (has_events deletes partition) (filter (has_written (Wide low.0 high.0)) writes)
is_made writes partition (dir.Staged job name) = false

abbrev pub made_names : List Written → List Job → List ℕ → List DirName
made_names writes jobs partition = filter (is_made writes partition) (names_in writes jobs)

-- ---- at a place

abbrev pub is_named : List ℕ → DirName → Bool
is_named text name = pointwise nat_eq (text_of name) text

-- the file of the first of these names that the place's directory has
abbrev pub file_among : Shape → List Written → Place → List DirName → Option (Bool × List Rec)
file_among shape writes place [] = None
file_among shape writes place (name ∷ names) =
    if is_named place.dir name then name_file shape writes place.partition name place.bucket else file_among shape writes place names

abbrev pub jobs_at : State → Place → List Job
jobs_at state place = jobs_of place.table.0 place.partition state.jobs

abbrev pub recs_in : State → Place → Option Table → Option (Bool × List Rec)
recs_in state place None = None
recs_in state place (Some table) = file_among table.info.shape table.writes place (names_in table.writes (jobs_at state place))

-- the kind and the records of the file that the book makes there
unfoldable pub made_recs : State → Place → Option (Bool × List Rec)
made_recs state place = recs_in state place (numbered state.tables place.table.0)

-- ---- what nobody needs any more

abbrev pub is_spare_name : State → List Job → List ℕ → DirName → Bool
is_spare_name state jobs text name = is_named text name && is_freed state jobs name

abbrev pub is_spare_in : State → Place → Option Table → Bool
is_spare_in state place None = false
is_spare_in state place (Some table) =
    list_any (is_spare_name state (jobs_at state place) place.dir) (made_names table.writes (jobs_at state place) place.partition)

-- the place is in a directory that the book makes and a compaction covers, below whose mark nobody is open
unfoldable pub is_spare : State → Place → Bool
is_spare state place = is_spare_in state place (numbered state.tables place.table.0)

abbrev pub is_gone_name : List Job → List ℕ → DirName → Bool
is_gone_name jobs text name = is_named text name && is_cleaned_away jobs name

abbrev pub is_gone_in : State → Place → Option Table → Bool
is_gone_in state place None = false
is_gone_in state place (Some table) =
    list_any (is_gone_name (jobs_at state place) place.dir) (made_names table.writes (jobs_at state place) place.partition)

-- in one that a compaction covers whose directories were all removed
unfoldable pub is_gone : State → Place → Bool
is_gone state place = is_gone_in state place (numbered state.tables place.table.0)
