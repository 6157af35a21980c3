-- What a partition's history is to its directories: the writes that are committed, and the compactions that are
-- published. What a directory holds is a function of its name and of the writes that are committed, whenever it was made.
-- Source: Hive Transactions, base and delta directories, and compactor.
use Rattle.std.specs.Prelude.{◌≢◌, ℕ, ◌==◌, ◌≤◌, ◌<◌, nat_le, Bool, ◌&&◌, not, List, filter, map}
use Rattle.std.specs.Ordering.{is_eq}
use Rattle.std.specs.List.{flat_map, list_any}
use Rattle.hv_base.specs.declared.ids.RowId.{RowId}
use Rattle.hv_base.specs.Identifiers.{row_id_cmp}
use Rattle.hv_dirs.specs.Choice.{Delta, Own, Wide, low_of, high_of}
use Rattle.hv_law_visible.specs.Members.{IsIn}

-- what one committed statement wrote in the partition: rows, and the identifiers of those that it deleted
pub record Write (Found : Type 0) : Type 0 where
  pub write : ℕ
  pub statement : ℕ
  pub inserts : List Found
  pub deletes : List RowId

-- a published compaction: minor from a write id to another, or major up to one, with its mark, the number of the
-- transaction that is opened next
pub data Compaction : Type 0 where
  Minor : ℕ → ℕ → ℕ → Compaction
  Major : ℕ → ℕ → Compaction

abbrev pub end_of : Compaction → ℕ
end_of (Minor first last mark) = last
end_of (Major last mark) = last

abbrev pub mark_of : Compaction → ℕ
mark_of (Minor first last mark) = mark
mark_of (Major last mark) = mark

-- the deltas that it takes the place of, and the bases
abbrev pub CoversDelta : Compaction → Delta → Type 0
CoversDelta (Minor first last mark) d = (first ≤ low_of d) × (high_of d ≤ last) × (d ≢ Wide first last)
CoversDelta (Major last mark) d = high_of d ≤ last

abbrev pub CoversBase : Compaction → ℕ → Type 0
CoversBase (Minor first last mark) base = ⊥
CoversBase (Major last mark) base = base < last

-- ---- identifiers

-- the write id that inserted the row
abbrev pub write_of : RowId → ℕ
write_of id = id.write.0

abbrev pub is_row : RowId → RowId → Bool
is_row x y = is_eq (row_id_cmp x y)

-- ---- the rows that stand: what the writes inserted, without what they deleted

abbrev pub inserts_of : {Found : Type 0} → List (Write Found) → List Found
inserts_of {Found} writes = flat_map (λ (w : Write Found). w.inserts) writes

abbrev pub deletes_of : {Found : Type 0} → List (Write Found) → List RowId
deletes_of {Found} writes = flat_map (λ (w : Write Found). w.deletes) writes

abbrev pub is_deleted : {Found : Type 0} → List (Write Found) → RowId → Bool
is_deleted writes id = list_any (λ (other : RowId). is_row other id) (deletes_of writes)

abbrev pub content_of : {Found : Type 0} → (Found → RowId) → List (Write Found) → List Found
content_of id_of writes = filter (λ found. not (is_deleted writes (id_of found))) (inserts_of writes)

-- ---- the records of a directory

-- the writes of which a delta has the events
abbrev pub has_write : {Found : Type 0} → Delta → Write Found → Bool
has_write (Own write statement) w = (w.write == write) && (w.statement == statement)
has_write (Wide first last) w = nat_le first w.write && nat_le w.write last

abbrev pub is_upto : {Found : Type 0} → ℕ → Write Found → Bool
is_upto base w = nat_le w.write base

-- of a delta
abbrev pub inserts_in : {Found : Type 0} → List (Write Found) → Delta → List Found
inserts_in {Found} writes d = flat_map (λ (w : Write Found). w.inserts) (filter (has_write d) writes)

-- of a delete delta: each identifier, with the write id that deleted its row
abbrev pub by_deleter : {Found : Type 0} → Write Found → List (RowId × ℕ)
by_deleter w = map (λ (id : RowId). (id, w.write)) w.deletes

abbrev pub deletes_in : {Found : Type 0} → List (Write Found) → Delta → List (RowId × ℕ)
deletes_in writes d = flat_map by_deleter (filter (has_write d) writes)

-- of a base: the rows that are left
abbrev pub rows_in : {Found : Type 0} → (Found → RowId) → List (Write Found) → ℕ → List Found
rows_in id_of writes base = content_of id_of (filter (is_upto base) writes)

-- ---- which names the history makes

abbrev pub IsMade : List Compaction → Delta → Type 0
IsMade jobs (Own write statement) = Unit {0}
IsMade jobs (Wide first last) = (mark : ℕ) × IsIn (Minor first last mark) jobs

abbrev pub IsMadeBase : List Compaction → ℕ → Type 0
IsMadeBase jobs base = (mark : ℕ) × IsIn (Major base mark) jobs
