-- Which directories must stand for a reader, what may stand beside them, and what the history must be for it.
-- Source: Hive Transactions, base and delta directories, compactor, and cleaner.
use Rattle.std.specs.Prelude.{◌≡◌, ◌⊎◌, ℕ, ◌≤◌, true, false, List}
use Rattle.hv_base.specs.declared.ids.RowId.{RowId}
use Rattle.hv_dirs.specs.Choice.{Sight, Delta, Own}
use Rattle.hv_law_visible.specs.Members.{IsIn, HasNoTies}
use Rattle.hv_law_visible.specs.History.{Write, Compaction, Minor, Major, end_of, write_of, CoversDelta, CoversBase, inserts_of, inserts_in, deletes_in, rows_in, IsMade, IsMadeBase}
use Rattle.hv_law_visible.specs.Visible.{Tree, by_id}

-- What the book keeps of a partition: write ids are counted from 1, inserted rows carry the one that inserted them,
-- deleted rows are of the same or an earlier one; a compaction's range is one, up to at most `most`.
pub record IsSound {Found : Type 0} (id_of : Found → RowId) (most : ℕ) (writes : List (Write Found)) (jobs : List Compaction) : Type 0 where
  pub from_one : (w : Write Found) → IsIn w writes → 1 ≤ w.write
  pub carried : (w : Write Found) (found : Found) → IsIn w writes → IsIn found w.inserts → write_of (id_of found) ≡ w.write
  pub earlier : (w : Write Found) (id : RowId) → IsIn w writes → IsIn id w.deletes → write_of id ≤ w.write
  pub minors : (first last mark : ℕ) → IsIn (Minor first last mark) jobs → (1 ≤ first) × (first ≤ last) × (last ≤ most)
  pub majors : (last mark : ℕ) → IsIn (Major last mark) jobs → (1 ≤ last) × (last ≤ most)

-- no two inserted rows have one identifier
abbrev pub HasDistinctRows : {Found : Type 0} → (Found → RowId) → List (Write Found) → Type 0
HasDistinctRows id_of writes = HasNoTies (by_id id_of) (inserts_of writes)

-- What a reader's list is to the history: a range has some valid id just where one of its ids is valid; the ids whose
-- directories may hold anything are not valid; below a base that it may read all that is committed is valid; and it may
-- read up to where a compaction that is past was published.
pub record Fits {Found : Type 0} (sight : Sight) (past : Compaction → Type 0) (foreign : ℕ → Type 0) (writes : List (Write Found)) (jobs : List Compaction) : Type 0 where
  pub some_from : (first last write : ℕ) → first ≤ write → write ≤ last → sight.valid write ≡ true → sight.has_some first last ≡ true
  pub some_valid : (first last : ℕ) → sight.has_some first last ≡ true
      → (write : ℕ) × (first ≤ write) × (write ≤ last) × (sight.valid write ≡ true)
  pub unseen : (write : ℕ) → foreign write → sight.valid write ≡ false
  pub decided : (base : ℕ) (w : Write Found) → sight.may_base base ≡ true → IsIn w writes → w.write ≤ base → sight.valid w.write ≡ true
  pub past_may : (job : Compaction) → IsIn job jobs → past job → sight.may_base (end_of job) ≡ true

-- loose: a compaction that is past covers it, so it may be gone, or in pieces
abbrev pub IsLoose : (Compaction → Type 0) → List Compaction → Delta → Type 0
IsLoose past jobs d = (job : Compaction) × IsIn job jobs × past job × CoversDelta job d

abbrev pub IsLooseBase : (Compaction → Type 0) → List Compaction → ℕ → Type 0
IsLooseBase past jobs base = (job : Compaction) × IsIn job jobs × past job × CoversBase job base

-- foreign: an own directory of a write id that may hold anything
abbrev pub IsForeign : (ℕ → Type 0) → Delta → Type 0
IsForeign foreign d = (write statement : ℕ) × (d ≡ Own write statement) × foreign write

-- The directories of one kind, deltas or delete deltas, `made` being the records that the history gives each. `past`
-- are the compactions below whose mark no transaction is open; `foreign` are the write ids that are open, or aborted
-- and not forgotten.
module _ {Record : Type 0} (past : Compaction → Type 0) (foreign : ℕ → Type 0) (jobs : List Compaction) (made : Delta → List Record) (names : List Delta) (files : Delta → List Record) where
  pub record Stand : Type 0 where
    -- a made directory that isn't loose stands, with all its records
    pub each : (d : Delta) (r : Record) → IsMade jobs d → IsIn r (made d)
        → IsLoose past jobs d ⊎ (IsIn d names × ((s : Record) → IsIn s (made d) → IsIn s (files d)))
    -- what stands is made, and has records of it alone unless it is loose; or it may hold anything
    pub only : (d : Delta) → IsIn d names
        → (IsMade jobs d × ((r : Record) × IsIn r (made d)) × (IsLoose past jobs d ⊎ ((r : Record) → IsIn r (files d) → IsIn r (made d))))
        ⊎ IsForeign foreign d

pub record Stands {Found : Type 0} (id_of : Found → RowId) (past : Compaction → Type 0) (foreign : ℕ → Type 0) (writes : List (Write Found)) (jobs : List Compaction) (tree : Tree Found) : Type 0 where
  pub deltas : Stand past foreign jobs (inserts_in writes) tree.deltas tree.inserts
  pub delete_deltas : Stand past foreign jobs (deletes_in writes) tree.delete_deltas tree.deletes
  pub bases : (base : ℕ) → IsMadeBase jobs base
      → IsLooseBase past jobs base ⊎ (IsIn base tree.bases × ((found : Found) → IsIn found (rows_in id_of writes base) → IsIn found (tree.rows base)))
  pub only_bases : (base : ℕ) → IsIn base tree.bases
      → IsMadeBase jobs base
      × (IsLooseBase past jobs base ⊎ ((found : Found) → IsIn found (tree.rows base) → IsIn found (rows_in id_of writes base)))
