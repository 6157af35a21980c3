-- The rows that a partition's directories show under a list of write ids: those of the chosen base and deltas with a
-- valid write id, without those that a record of a chosen delete delta with a valid deleter names.
-- Source: Hive Transactions, base and delta directories.
use Rattle.std.specs.Prelude.{ℕ, zero, suc, Bool, not, ◌&&◌, List, [], filter, ◌++◌}
use Rattle.std.specs.declared.cmp.Ordering.{Ordering}
use Rattle.std.specs.Ordering.{on}
use Rattle.std.specs.List.{flat_map, list_any}
use Rattle.hv_base.specs.declared.ids.RowId.{RowId}
use Rattle.hv_base.specs.Identifiers.{row_id_cmp}
use Rattle.hv_dirs.specs.Choice.{Sight, Delta, base_of, chosen_above}
use Rattle.hv_law_visible.specs.History.{Write, write_of, is_row}

-- ---- of records

-- a delete record with a valid deleter names the row
abbrev pub names_it : Sight → RowId → RowId × ℕ → Bool
names_it sight id deleted = sight.valid deleted.1 && is_row deleted.0 id

abbrev pub is_gone : Sight → List (RowId × ℕ) → RowId → Bool
is_gone sight deletes id = list_any (names_it sight id) deletes

abbrev pub is_visible : Sight → List (RowId × ℕ) → RowId → Bool
is_visible sight deletes id = sight.valid (write_of id) && not (is_gone sight deletes id)

-- the visible rows among the records of bases and deltas, where these are the records of delete deltas
abbrev pub visible_among : {Found : Type 0} → (Found → RowId) → Sight → List (RowId × ℕ) → List Found → List Found
visible_among id_of sight deletes records = filter (λ found. is_visible sight deletes (id_of found)) records

-- ---- of directories

-- the directories of a partition, with the records of their files
pub record Tree (Found : Type 0) : Type 0 where
  pub bases : List ℕ
  pub deltas : List Delta
  pub delete_deltas : List Delta
  pub rows : ℕ → List Found
  pub inserts : Delta → List Found
  pub deletes : Delta → List (RowId × ℕ)

abbrev pub base_chosen : {Found : Type 0} → Sight → Tree Found → ℕ
base_chosen sight tree = base_of sight tree.bases

abbrev pub deltas_chosen : {Found : Type 0} → Sight → Tree Found → List Delta
deltas_chosen sight tree = chosen_above sight (base_chosen sight tree) tree.deltas

abbrev pub deletes_chosen : {Found : Type 0} → Sight → Tree Found → List Delta
deletes_chosen sight tree = chosen_above sight (base_chosen sight tree) tree.delete_deltas

-- the rows of the base, if one is chosen
abbrev pub base_rows : {Found : Type 0} → Tree Found → ℕ → List Found
base_rows tree zero = []
base_rows tree (suc n) = tree.rows (suc n)

abbrev pub records_read : {Found : Type 0} → Sight → Tree Found → List Found
records_read sight tree = base_rows tree (base_chosen sight tree) ++ flat_map tree.inserts (deltas_chosen sight tree)

abbrev pub deletes_read : {Found : Type 0} → Sight → Tree Found → List (RowId × ℕ)
deletes_read sight tree = flat_map tree.deletes (deletes_chosen sight tree)

abbrev pub visible_rows : {Found : Type 0} → (Found → RowId) → Sight → Tree Found → List Found
visible_rows id_of sight tree = visible_among id_of sight (deletes_read sight tree) (records_read sight tree)

-- ---- of the history

-- the writes that a list shows
abbrev pub writes_shown : {Found : Type 0} → Sight → List (Write Found) → List (Write Found)
writes_shown {Found} sight writes = filter (λ (w : Write Found). sight.valid w.write) writes

-- the order of rows by their identifiers
abbrev pub by_id : {Found : Type 0} → (Found → RowId) → Found → Found → Ordering
by_id id_of = on id_of row_id_cmp
