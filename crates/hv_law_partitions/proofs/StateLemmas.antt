-- A partition of a book is kept, and its readers see their content.
use Rattle.std.proofs.Common.{refl, ◌≡◌, inl, inr, ℕ, zero, suc, ◌+◌, ◌<◌, ◌≤◌, Bool, true, false, cond, Option, Some, None, List, [], ◌∷◌, ◌++◌, length, take, sym, ap, ◌∙◌, subst, arith}
use Rattle.std.specs.Prelude.{IsTrue}
use Rattle.std.specs.List.{slice_get}
use Rattle.hv_wids.specs.WriteIds.{WriteIds}
use Rattle.hv_dirs.specs.Choice.{sight_of}
use Rattle.hv_base.specs.declared.ids.Limits.{Limits}
use Rattle.hv_base.specs.Sorting.{sorted_by, rising_by}
use Rattle.hv_logic.specs.declared.effect.Found.{Found}
use Rattle.hv_history.specs.declared.entry.Entry.{Entry}
use Rattle.hv_history.specs.declared.state.Snapshot.{Snapshot}
use Rattle.hv_history.specs.declared.state.Transaction.{Transaction}
use Rattle.hv_history.specs.declared.state.Written.{Written}
use Rattle.hv_history.specs.State.{State, numbered, nothing_yet, state_of, content_of, content}
use Rattle.hv_history.specs.Legal.{is_open, AllFit}
use Rattle.hv_earlier.specs.Lists as lists
use Rattle.hv_stands.proofs.Numbers.{one_value}
use Rattle.hv_law_visible.specs.Members.{IsIn, HasNoTies}
use Rattle.hv_law_visible.specs.Stands.{HasDistinctRows, Stands}
use Rattle.hv_law_visible.proofs.SortingLemmas.{distinct-left, distinct-right}
use Rattle.std.proofs.lemmas.List.{append-nil}
use Rattle.hv_law_visible.specs.History as visible
use Rattle.hv_law_visible.specs.History.{Write, Compaction, Minor, Major, end_of, mark_of, write_of, inserts_of}
use Rattle.hv_law_visible.specs.Visible.{Tree, writes_shown, visible_rows, by_id}
use Rattle.hv_law_visible.specs.Snapshots.{Fate, list_at, HaveEnded, IsUndone}
use Rattle.hv_law_visible.specs.Readers.{Reader, IsPast}
use Rattle.hv_law_visible.proofs.MemberLemmas.{in-right, in-either}
use Rattle.hv_law_published.specs.State.{IsKept, IsOpenList, State as Partition}
use Rattle.hv_law_published.proofs.StateLemmas.{list-shows}
use Rattle.hv_law_published.proofs.WorkedLemmas.{of-one as one-of}
use Rattle.hv_law_partitions.specs.Partitions.{id_of, rows_of, writes_of, written_in, writes_in, fates_in}
use Rattle.hv_law_partitions.specs.States.{open_from, reader_by, readers_from, partition_in, IsPartitionOf, PartitionsAreKept, ReadersSeeTheirContent, ReadersSeeItInOrder, WritesAreOfTheirIds}
use Rattle.hv_law_partitions.proofs.ListLemmas.{list-in}
use Rattle.hv_law_partitions.proofs.CommitLemmas.{book-sound, book-base, committed-in, writes-committed, all-shown, content-written}
use Rattle.hv_law_partitions.proofs.IdLemmas.{sound-ids, base-ids}
use Rattle.hv_law_partitions.proofs.StoodLemmas.{history-sound, deletes-later-so}
use Rattle.hv_law_partitions.proofs.SinceLemmas.{places-since, places-since-so, shown-then-so, list-shows-then}
use Rattle.hv_law_partitions.proofs.OrderLemmas.{content-in-order}

-- ---- open transactions

open-below : (n : ℕ) (ts : List Transaction) (txn : ℕ) → IsIn txn (open_from n ts) → txn < n + length ts
open-below n [] txn at = absurd at
open-below n (t ∷ ts) txn at = by (is_open t) (open-below (n + 1) ts txn) at
  where
    by : (b : Bool) → (IsIn txn (open_from (n + 1) ts) → txn < n + 1 + length ts) → IsIn txn (cond b (n ∷ open_from (n + 1) ts) (open_from (n + 1) ts))
        → txn < n + length (t ∷ ts)
    by true rest (inl e) = omega arith
    by true rest (inr at) = let h = rest at in omega (arith, h)
    by false rest at = let h = rest at in omega (arith, h)

module _ (entries : List Entry) (table : ℕ) where
  -- a reader is of a place of the book, and open
  IsReader : ℕ → List Transaction → Reader → Type 0
  IsReader n ts reader = (place : ℕ) × (reader.before ≡ fates_in (state_of (take place entries)) table) × IsIn reader.txn (open_from n ts)

  of-snapshot : (n : ℕ) (o : Option Snapshot) (reader : Reader) → IsIn reader (reader_by entries table n o)
      → (place : ℕ) × (reader.before ≡ fates_in (state_of (take place entries)) table) × (n ≡ reader.txn)
  of-snapshot n None reader at = absurd at
  of-snapshot n (Some snapshot) reader (inl e) = (snapshot.place, ap (λ (r : Reader). r.before) (sym e), ap (λ (r : Reader). r.txn) e)
  of-snapshot n (Some snapshot) reader (inr at) = absurd at

  reader-is : (n : ℕ) (ts : List Transaction) (reader : Reader) → IsIn reader (readers_from entries table n ts) → IsReader n ts reader
  unfolding IsReader
  reader-is n [] reader at = absurd at
  reader-is n (t ∷ ts) reader at = by (is_open t) (reader-is (n + 1) ts reader) at
    where
      Found_at : List ℕ → Type 0
      Found_at open_ones = (place : ℕ) × (reader.before ≡ fates_in (state_of (take place entries)) table) × IsIn reader.txn open_ones

      by : (b : Bool) → (IsIn reader (readers_from entries table (n + 1) ts) → Found_at (open_from (n + 1) ts))
          → IsIn reader (cond b (reader_by entries table n t.snapshot ++ readers_from entries table (n + 1) ts) (readers_from entries table (n + 1) ts))
          → Found_at (cond b (n ∷ open_from (n + 1) ts) (open_from (n + 1) ts))
      by true rest at = elim (in-either reader (reader_by entries table n t.snapshot) (readers_from entries table (n + 1) ts) at) [
        | inl here ↦ let m = of-snapshot n t.snapshot reader here in (m.0, m.1, inl m.2)
        | inr there ↦ let m = rest there in (m.0, m.1, inr m.2)
      ]
      by false rest at = rest at

  -- it is of the snapshot of a transaction
  abbrev pub OfSnapshot : ℕ → List Transaction → Reader → Type 0
  OfSnapshot n ts reader =
      (k : ℕ) × (t : Transaction) × (snapshot : Snapshot) × (slice_get ts k ≡ Some t) × (t.snapshot ≡ Some snapshot) × (reader.txn ≡ n + k)
      × (reader.before ≡ fates_in (state_of (take snapshot.place entries)) table)

  first-of : (n : ℕ) (t : Transaction) (ts : List Transaction) (o : Option Snapshot) → t.snapshot ≡ o → (reader : Reader) → IsIn reader (reader_by entries table n o)
      → OfSnapshot n (t ∷ ts) reader
  first-of n t ts None taken reader at = absurd at
  first-of n t ts (Some snapshot) taken reader (inl e) =
      let here : reader.txn ≡ n = ap (λ (r : Reader). r.txn) (sym e) in
      (0, t, snapshot, refl, taken, omega (arith, here), ap (λ (r : Reader). r.before) (sym e))
  first-of n t ts (Some snapshot) taken reader (inr at) = absurd at

  next-of : (n : ℕ) (t : Transaction) (ts : List Transaction) (reader : Reader) → OfSnapshot (n + 1) ts reader → OfSnapshot n (t ∷ ts) reader
  next-of n t ts reader is = let number = is.5 in (suc is.0, is.1, is.2, is.3, is.4, omega (arith, number), is.6)

  pub reader-of : (n : ℕ) (ts : List Transaction) (reader : Reader) → IsIn reader (readers_from entries table n ts) → OfSnapshot n ts reader
  reader-of n [] reader at = absurd at
  reader-of n (t ∷ ts) reader at = by (is_open t) (reader-of (n + 1) ts reader) at
    where
      by : (b : Bool) → (IsIn reader (readers_from entries table (n + 1) ts) → OfSnapshot (n + 1) ts reader)
          → IsIn reader (cond b (reader_by entries table n t.snapshot ++ readers_from entries table (n + 1) ts) (readers_from entries table (n + 1) ts))
          → OfSnapshot n (t ∷ ts) reader
      by true rest at = elim (in-either reader (reader_by entries table n t.snapshot) (readers_from entries table (n + 1) ts) at) [
        | inl here ↦ first-of n t ts t.snapshot refl reader here
        | inr there ↦ next-of n t ts reader (rest there)
      ]
      by false rest at = next-of n t ts reader (rest at)

  -- and each open transaction with a snapshot is one
  Reads : Snapshot → List Reader → Type 0
  Reads snapshot readers = (reader : Reader) × IsIn reader readers × (reader.before ≡ fates_in (state_of (take snapshot.place entries)) table)

  reads-here : (n : ℕ) (snapshot : Snapshot) (o : Option Snapshot) → o ≡ Some snapshot → (rest : List Reader) → Reads snapshot (reader_by entries table n o ++ rest)
  unfolding Reads
  reads-here n snapshot None e rest = cc
  reads-here n snapshot (Some other) e rest = (
    record { txn = n; before = fates_in (state_of (take other.place entries)) table },
    inl refl,
    ap (λ (s : Snapshot). fates_in (state_of (take s.place entries)) table) (one_value other snapshot e),
  )

  reads-slice : (n k : ℕ) (ts : List Transaction) (t : Transaction) (snapshot : Snapshot) → slice_get ts k ≡ Some t → IsTrue (is_open t) → t.snapshot ≡ Some snapshot
      → Reads snapshot (readers_from entries table n ts)
  unfolding Reads
  reads-slice n k [] t snapshot e open_one taken = cc
  reads-slice n zero (first ∷ ts) t snapshot e open_one taken =
      let same : first ≡ t = one_value first t e in
      by (is_open first) (subst (λ (u : Transaction). IsTrue (is_open u)) (sym same) open_one)
      (reads-here n snapshot first.snapshot (ap (λ (u : Transaction). u.snapshot) same ∙ taken) (readers_from entries table (n + 1) ts))
    where
      by : (b : Bool) → IsTrue b → Reads snapshot (reader_by entries table n first.snapshot ++ readers_from entries table (n + 1) ts)
          → Reads snapshot (cond b (reader_by entries table n first.snapshot ++ readers_from entries table (n + 1) ts) (readers_from entries table (n + 1) ts))
      by true is here = here
      by false is here = cc
  reads-slice n (suc k) (first ∷ ts) t snapshot e open_one taken = by (is_open first) (reads-slice (n + 1) k ts t snapshot e open_one taken)
    where
      by : (b : Bool) → Reads snapshot (readers_from entries table (n + 1) ts)
          → Reads snapshot (cond b (reader_by entries table n first.snapshot ++ readers_from entries table (n + 1) ts) (readers_from entries table (n + 1) ts))
      by true rest = (rest.0, in-right rest.0 (reader_by entries table n first.snapshot) (readers_from entries table (n + 1) ts) rest.1, rest.2)
      by false rest = rest

  reads : (txn : ℕ) (ts : List Transaction) (t : Transaction) (snapshot : Snapshot) → numbered ts txn ≡ Some t → IsTrue (is_open t) → t.snapshot ≡ Some snapshot
      → Reads snapshot (readers_from entries table 1 ts)
  reads zero ts t snapshot e open_one taken = cc
  reads (suc k) ts t snapshot e open_one taken = reads-slice 1 k ts t snapshot e open_one taken

-- ---- one write

-- no two of its rows tie, as no two of all do
distinct-here : (writes : List (Write Found)) (w : Write Found) → HasDistinctRows id_of writes → IsIn w writes → HasDistinctRows id_of (w ∷ [])
distinct-here [] w distinct at = absurd at
distinct-here (first ∷ writes) w distinct (inl e) =
    subst (λ (v : Write Found). HasDistinctRows id_of (v ∷ [])) e
    (subst (HasNoTies (by_id id_of)) (sym (append-nil first.inserts)) (distinct-left (by_id id_of) first.inserts (inserts_of writes) distinct))
distinct-here (first ∷ writes) w distinct (inr at) =
    distinct-here writes w (distinct-right (by_id id_of) first.inserts (inserts_of writes) distinct) at

pub writes-of-ids : WritesAreOfTheirIds
writes-of-ids limits entries table partition w fit at =
    let ids = sound-ids (state_of entries) table partition (book-sound limits entries fit) in
    let sound = history-sound limits entries table partition 0 fit in
    record {
      one = one-of (λ (v : Write Found). v.write ≡ w.write) w refl;
      carried = λ v row here. one-of (λ (u : Write Found). IsIn row u.inserts → write_of row.id ≡ w.write) w (sound.carried w row at) v here;
      earlier = λ v id here. one-of (λ (u : Write Found). IsIn id u.deletes → write_of id ≤ w.write) w (sound.earlier w id at) v here;
      distinct = distinct-here (writes_in (state_of entries) table partition) w ids.distinct at;
    }

-- ---- the laws

pub partitions-kept : PartitionsAreKept
unfolding IsReader
partitions-kept limits entries table partition tree fit stands =
    let s = state_of entries in
    record {
      most = 0;
      knows = record {
        jobs_ended = λ job at. absurd at;
        below = λ txn at. let h = open-below 1 s.transactions txn at in omega (arith, h);
        are_open = λ reader at. (reader-is entries table 1 s.transactions reader at).2;
        seen = λ reader job at listed. absurd listed;
      };
      marks = λ job at. absurd at;
      sound = history-sound limits entries table partition 0 fit;
      distinct = (sound-ids s table partition (book-sound limits entries fit)).distinct;
      committed = writes-committed limits entries table partition fit;
      seen = λ reader at.
          let m = reader-is entries table 1 s.transactions reader at in
          let p = places-since limits entries m.0 table partition fit in (
            writes_in (state_of (take m.0 entries)) table partition,
            p.0,
            p.1,
            subst (λ (before : List Fate). visible_since before p.0 m.0) (sym m.1) p.2,
          );
      stands = stands;
    }
  where
    visible_since : List Fate → List (Write Found) → ℕ → Type 0
    visible_since before since place =
        Rattle.hv_law_visible.specs.Snapshots.IsSince before (fates_in (state_of entries) table) (writes_in (state_of (take place entries)) table partition) since

-- ---- with compactions

-- What is known of those that are published: the ids up to their ends have ended, at each snapshot of a transaction from their marks on,
-- and their marks are of transactions that were opened, or of the next one.
pub record AreKnown (entries : List Entry) (table : ℕ) (jobs : List Compaction) (most : ℕ) : Type 0 where
  pub ended : (job : Compaction) → IsIn job jobs → HaveEnded (fates_in (state_of entries) table) (end_of job)
  pub seen : (txn : ℕ) (t : Transaction) (snapshot : Snapshot) → numbered (state_of entries).transactions txn ≡ Some t → t.snapshot ≡ Some snapshot
      → (job : Compaction) → IsIn job jobs → mark_of job ≤ txn → HaveEnded (fates_in (state_of (take snapshot.place entries)) table) (end_of job)
  pub marks : (job : Compaction) → IsIn job jobs → mark_of job ≤ length (state_of entries).transactions + 1
  pub minors : (first last mark : ℕ) → IsIn (Minor first last mark) jobs → (1 ≤ first) × (first ≤ last) × (last ≤ most)
  pub majors : (last mark : ℕ) → IsIn (Major last mark) jobs → (1 ≤ last) × (last ≤ most)

pub kept-with : (limits : Limits) (entries : List Entry) (table : ℕ) (partition : List ℕ) (tree : Tree Found) (jobs : List Compaction) (most : ℕ)
    → AllFit limits nothing_yet entries → AreKnown entries table jobs most
    → Stands id_of (IsPast (open_from 1 (state_of entries).transactions)) (IsUndone (fates_in (state_of entries) table))
    (writes_in (state_of entries) table partition) jobs tree
    → IsKept id_of (record (partition_in entries table partition tree) { jobs = jobs })
unfolding IsReader
kept-with limits entries table partition tree jobs most fit known stands =
    let s = state_of entries in
    let base = book-base limits entries fit in
    let ids = base-ids s table partition base in
    record {
      most = most;
      knows = record {
        jobs_ended = known.ended;
        below = λ txn at. let h = open-below 1 s.transactions txn at in omega (arith, h);
        are_open = λ reader at. (reader-is entries table 1 s.transactions reader at).2;
        seen = λ reader job at listed below.
            let m = reader-of entries table 1 s.transactions reader at in
            let number = m.5 in
            subst (λ before. HaveEnded before (end_of job)) (sym m.6)
            (known.seen (suc m.0) m.1 m.2 m.3 m.4 job listed (omega (arith, below, number)));
      };
      marks = known.marks;
      sound = record {
        from_one = ids.from_one;
        carried = λ w row among at. (ids.carried w row among at).write_is;
        earlier = λ w id among at. let h : write_of id < w.write = (deletes-later-so limits entries table partition w id fit among at).earlier in omega (arith, h);
        minors = known.minors;
        majors = known.majors;
      };
      distinct = ids.distinct;
      committed = λ w at. (committed-in s table partition base w at).fate_is;
      seen = λ reader at.
          let m = reader-is entries table 1 s.transactions reader at in
          let p = places-since-so limits entries m.0 table partition fit in (
            writes_in (state_of (take m.0 entries)) table partition,
            p.0,
            p.1,
            subst (λ (before : List Fate). visible_since before p.0 m.0) (sym m.1) p.2,
          );
      stands = stands;
    }
  where
    visible_since : List Fate → List (Write Found) → ℕ → Type 0
    visible_since before since place =
        Rattle.hv_law_visible.specs.Snapshots.IsSince before (fates_in (state_of entries) table) (writes_in (state_of (take place entries)) table partition) since

pub readers-see : ReadersSeeTheirContent
unfolding Reads
readers-see limits entries table partition state txn t snapshot row fit is_of kept at open_one taken =
    let m = reads entries table txn (state_of entries).transactions t snapshot at open_one taken in
    let list : WriteIds = lists.list_at entries snapshot.place table in
    let same : list_at m.0.before ≡ list = ap list_at m.2 ∙ sym (list-in (state_of (take snapshot.place entries)) table) in
    let listed : IsOpenList state list = inl (m.0, subst (IsIn m.0) (sym is_of.readers) m.1, same) in
    let shows = (list-shows id_of state list kept listed).each row in
    let read = list-shows-then limits entries snapshot.place table partition row fit in (
      λ seen. read.0 (subst (λ ws. IsIn row (visible.content_of id_of (writes_shown (sight_of list) ws))) is_of.writes (shows.0 seen)),
      λ stood. shows.1 (subst (λ ws. IsIn row (visible.content_of id_of (writes_shown (sight_of list) ws))) (sym is_of.writes) (read.1 stood)),
    )

-- under such a list, where all writes show these
pub shown-of : (partition : List ℕ) (state : Partition Found) (list : WriteIds) (writes : List Written) → IsKept id_of state → IsOpenList state list
    → writes_shown (sight_of list) state.writes ≡ writes_of partition writes
    → rising_by (by_id id_of) (visible_rows id_of (sight_of list) state.tree) ≡ rows_of partition (content_of writes)
shown-of partition state list writes kept listed shown =
    (list-shows id_of state list kept listed).whole
    ∙ ap (λ ws. sorted_by (by_id id_of) (visible.content_of id_of ws)) shown
    ∙ content-in-order partition writes

pub shown-in-order : (table : ℕ) (partition : List ℕ) (s : State) (state : Partition Found) (list : WriteIds) → IsKept id_of state → IsOpenList state list
    → writes_shown (sight_of list) state.writes ≡ writes_in s table partition
    → rising_by (by_id id_of) (visible_rows id_of (sight_of list) state.tree) ≡ rows_of partition (content s table)
shown-in-order table partition s state list kept listed shown =
    shown-of partition state list (written_in (numbered s.tables table)) kept listed shown
    ∙ ap (rows_of partition) (content-written (numbered s.tables table))

pub readers-in-order-so : (limits : Limits) (entries : List Entry) (table : ℕ) (partition : List ℕ) (state : Partition Found) (txn : ℕ) (t : Transaction) (snapshot : Snapshot)
    → AllFit limits nothing_yet entries → IsPartitionOf entries table partition state → IsKept id_of state
    → numbered (state_of entries).transactions txn ≡ Some t → IsTrue (is_open t) → t.snapshot ≡ Some snapshot
    → rising_by (by_id id_of) (visible_rows id_of (sight_of (lists.list_at entries snapshot.place table)) state.tree)
    ≡ rows_of partition (content (state_of (take snapshot.place entries)) table)
unfolding Reads
readers-in-order-so limits entries table partition state txn t snapshot fit is_of kept at open_one taken =
    let s = state_of (take snapshot.place entries) in
    let m = reads entries table txn (state_of entries).transactions t snapshot at open_one taken in
    let list : WriteIds = lists.list_at entries snapshot.place table in
    let same : list_at m.0.before ≡ list = ap list_at m.2 ∙ sym (list-in s table) in
    shown-in-order table partition s state list kept (inl (m.0, subst (IsIn m.0) (sym is_of.readers) m.1, same))
    (ap (writes_shown (sight_of list)) is_of.writes ∙ shown-then-so limits entries snapshot.place table partition fit)

pub readers-in-order : ReadersSeeItInOrder
readers-in-order limits entries table partition state txn t snapshot fit is_of kept at open_one taken =
    readers-in-order-so limits entries table partition state txn t snapshot fit is_of kept at open_one taken

-- whoever comes next reads those of the end
pub end-in-order : (limits : Limits) (entries : List Entry) (table : ℕ) (partition : List ℕ) (state : Partition Found)
    → AllFit limits nothing_yet entries → IsPartitionOf entries table partition state → IsKept id_of state
    → rising_by (by_id id_of) (visible_rows id_of (sight_of (lists.list_in (state_of entries) table)) state.tree) ≡ rows_of partition (content (state_of entries) table)
end-in-order limits entries table partition state fit is_of kept =
    let s = state_of entries in
    let list : WriteIds = lists.list_in s table in
    let same : list_at state.fates ≡ list = ap list_at is_of.fates ∙ sym (list-in s table) in
    shown-in-order table partition s state list kept (inr (inl same))
    (ap (writes_shown (sight_of list)) is_of.writes ∙ all-shown s table partition (book-base limits entries fit))
