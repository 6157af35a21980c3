-- How the merge goes, step by step. The contract of the public call doesn't cite these words.
use Rattle.std.specs.Prelude.{ℕ, ◌+◌, ◌-◌, min, ◌^◌, Bool, true, false, if◌then◌else◌, Option, Some, None, List, [], ◌∷◌, ◌++◌, drop, fold, length}
use Rattle.std.specs.List.{filter_map, prefix_len}
use Rattle.std.specs.Ordering.{is_lt}
use Rattle.hv_base.specs.declared.ids.RowId.{RowId}
use Rattle.hv_base.specs.Identifiers.{row_id_cmp, row_id_eq}
use Rattle.hv_wids.specs.WriteIds.{WriteIds, is_valid}
use Rattle.hv_rowfile.specs.declared.record.Rec.{Rec}
use Rattle.hv_rowfile.specs.declared.record.Rec.TheVariants as rec
use Rattle.hv_rowfile.specs.Layout.{id_of as record_id}
use Rattle.hv_merge.specs.declared.shown.Shown.{Shown}
use Rattle.hv_merge.specs.declared.turns.Turn.{Turn}

-- ---- what of the files matters under a list

abbrev pub valid_row : WriteIds → Rec → Option Shown
valid_row list (rec.Insert id row) = if is_valid list id.write.0 then Some (record { id = id; row = row }) else None
valid_row list (rec.Delete id by) = None

abbrev pub valid_delete : WriteIds → Rec → Option RowId
valid_delete list (rec.Insert id row) = None
valid_delete list (rec.Delete id by) = if is_valid list by.0 then Some id else None

abbrev pub valid_rows : WriteIds → List Rec → List Shown
valid_rows list recs = filter_map (valid_row list) recs

abbrev pub valid_deletes : WriteIds → List Rec → List RowId
valid_deletes list recs = filter_map (valid_delete list) recs

-- ---- how many records there are, as far as a machine's word counts

abbrev pub count_with : ℕ → List Rec → ℕ
count_with count file = min (count + length file) (2 ^ 64 - 1)

-- ---- the file with the least first record, and the least of the others

abbrev pub is_below : RowId → RowId → Bool
is_below id other = is_lt (row_id_cmp other id)

-- whether an identifier comes before the other one, if there is one
abbrev pub is_before : RowId → Option RowId → Bool
is_before id None = true
is_before id (Some other) = is_below other id

abbrev pub better_than : Turn → ℕ → RowId → Turn
better_than turn place id =
    if is_before id turn.others
    then (if is_below id turn.least
    then record { place = turn.place; least = turn.least; others = Some id }
    else record { place = place; least = id; others = Some turn.least })
    else turn

abbrev pub better : Option Turn → ℕ → RowId → Turn
better None place id = record { place = place; least = id; others = None }
better (Some turn) place id = better_than turn place id

abbrev pub seen_at : Option Turn → ℕ → List Rec → Option Turn
seen_at found place [] = found
seen_at found place (r ∷ recs) = Some (better found place (record_id r))

-- the files from this place on
abbrev pub turn_from : ℕ → Option Turn → List (List Rec) → Option Turn
turn_from place found [] = found
turn_from place found (file ∷ files) = turn_from (place + 1) (seen_at found place file) files

abbrev pub turn_of : List (List Rec) → Option Turn
turn_of files = turn_from 0 None files

-- whether another file begins with the same identifier
abbrev pub is_least : RowId → Option RowId → Bool
is_least least None = false
is_least least (Some other) = row_id_eq other least

abbrev pub is_tied : Turn → Bool
is_tied turn = is_least turn.least turn.others

-- ---- the records of a file that come before the others' first ones

abbrev pub taken_before : Option RowId → List Rec → Option Rec
taken_before others [] = None
taken_before others (r ∷ recs) = if is_before (record_id r) others then Some r else None

abbrev pub left_before : Option RowId → List Rec → List Rec
left_before others [] = []
left_before others (r ∷ recs) = if is_before (record_id r) others then recs else r ∷ recs

abbrev pub run_of : Option RowId → List Rec → List Rec
run_of others [] = []
run_of others (r ∷ recs) = if is_before (record_id r) others then r ∷ run_of others recs else []

abbrev pub rest_of : Option RowId → List Rec → List Rec
rest_of others [] = []
rest_of others (r ∷ recs) = if is_before (record_id r) others then rest_of others recs else r ∷ recs

-- ---- the first records that have an identifier are taken, and the last row of them stands

abbrev pub front_at : WriteIds → RowId → List Rec → Option Shown
front_at list id [] = None
front_at list id (r ∷ recs) = if row_id_eq (record_id r) id then valid_row list r else None

abbrev pub behind_at : RowId → List Rec → List Rec
behind_at id [] = []
behind_at id (r ∷ recs) = if row_id_eq (record_id r) id then recs else r ∷ recs

abbrev pub begins_at : RowId → List Rec → Bool
begins_at id [] = false
begins_at id (r ∷ recs) = row_id_eq (record_id r) id

abbrev pub later : Option Shown → Option Shown → Option Shown
later found None = found
later found (Some shown) = Some shown

abbrev pub later_at : WriteIds → RowId → Option Shown → List Rec → Option Shown
later_at list id found file = later found (front_at list id file)

abbrev pub last_at : WriteIds → RowId → List (List Rec) → Option Shown
last_at list id files = fold (later_at list id) None files

-- ---- the deleted identifiers from one on

abbrev pub gone_from : RowId → List RowId → List RowId
gone_from id gone = drop (prefix_len (is_below id) gone) gone

abbrev pub begins_with : RowId → List RowId → Bool
begins_with id [] = false
begins_with id (first ∷ rest) = row_id_eq first id

-- the row that was found, where it isn't deleted
abbrev pub kept_front : List RowId → RowId → Option Shown → List Shown
kept_front gone id None = []
kept_front gone id (Some shown) = if begins_with id gone then [] else shown ∷ []

-- the rows that aren't deleted, and the deleted identifiers that are left
abbrev pub kept_run : List RowId → List Shown → List Shown
kept_run gone [] = []
kept_run gone (shown ∷ rows) =
    kept_front (gone_from shown.id gone) shown.id (Some shown) ++ kept_run (gone_from shown.id gone) rows

abbrev pub gone_after : List RowId → List Shown → List RowId
gone_after gone [] = gone
gone_after gone (shown ∷ rows) = gone_after (gone_from shown.id gone) rows

-- ---- whether records rise

abbrev pub is_behind : Option RowId → RowId → Bool
is_behind None id = true
is_behind (Some before) id = is_lt (row_id_cmp before id)

abbrev pub rises_from : Option RowId → List Rec → Bool
rises_from before [] = true
rises_from before (r ∷ recs) = if is_behind before (record_id r) then rises_from (Some (record_id r)) recs else false
