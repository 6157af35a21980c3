-- A partition at a moment of the book: what the book knows of its table's write ids, of its compactions and of open
-- transactions, and the directories that stand; and what always holds of them.
use Rattle.std.specs.Prelude.{◌≡◌, ◌⊎◌, ℕ, ◌≤◌, Some, List, ◌++◌}
use Rattle.hv_base.specs.declared.ids.RowId.{RowId}
use Rattle.hv_wids.specs.WriteIds.{WriteIds}
use Rattle.hv_law_visible.specs.Members.{IsIn}
use Rattle.hv_law_visible.specs.History.{Write, Compaction, end_of, mark_of}
use Rattle.hv_law_visible.specs.Visible.{Tree}
use Rattle.hv_law_visible.specs.Stands.{IsSound, HasDistinctRows, Stands}
use Rattle.hv_law_visible.specs.Snapshots.{Fate, Committed, fate_of, list_at, list_up_to, IsUndone, IsSince}
use Rattle.hv_law_visible.specs.Readers.{Reader, IsPast, Knows}

pub record State (Found : Type 0) : Type 0 where
  -- of the table's write ids, and what their transactions committed in the partition
  pub fates : List Fate
  pub writes : List (Write Found)
  -- the compactions of the partition that are published
  pub jobs : List Compaction
  -- the number of the transaction that is opened next, those that are open, and their snapshots
  pub next : ℕ
  pub open_txns : List ℕ
  pub readers : List Reader
  pub tree : Tree Found

-- what an open snapshot is to the book now: some of the writes were committed before it, and the others since
abbrev pub HasSeen : {Found : Type 0} → State Found → Reader → Type 0
HasSeen {Found} state reader =
    (seen : List (Write Found)) × (since : List (Write Found)) × (state.writes ≡ seen ++ since) × IsSince reader.before state.fates seen since

pub record IsKept {Found : Type 0} (id_of : Found → RowId) (state : State Found) : Type 0 where
  pub most : ℕ
  pub knows : Knows state.fates state.jobs state.next state.open_txns state.readers
  pub marks : (job : Compaction) → IsIn job state.jobs → mark_of job ≤ state.next
  pub sound : IsSound id_of most state.writes state.jobs
  pub distinct : HasDistinctRows id_of state.writes
  pub committed : (w : Write Found) → IsIn w state.writes → fate_of state.fates w.write ≡ Some Committed
  pub seen : (reader : Reader) → IsIn reader state.readers → HasSeen state reader
  pub stands : Stands id_of (IsPast state.open_txns) (IsUndone state.fates) state.writes state.jobs state.tree

-- no compaction in the past goes beyond the watermark
abbrev pub ReachesPast : {Found : Type 0} → State Found → ℕ → Type 0
ReachesPast state watermark = (job : Compaction) → IsIn job state.jobs → IsPast state.open_txns job → end_of job ≤ watermark

-- The lists under which somebody may read: that of an open snapshot, that of the end of the book, which is the next
-- one's, and that of a compaction at work, which is that of the end up to a watermark.
abbrev pub IsOpenList : {Found : Type 0} → State Found → WriteIds → Type 0
IsOpenList state list =
    ((reader : Reader) × IsIn reader state.readers × (list_at reader.before ≡ list))
    ⊎ ((list_at state.fates ≡ list)
    ⊎ ((watermark : ℕ) × ReachesPast state watermark × (list_up_to watermark (list_at state.fates) ≡ list)))
