-- What a minor job at work gathers in a bucket is what its wide deltas are to have there, and what a major one reads its base.
use Rattle.std.proofs.Common.{refl, ◌≡◌, ◌≢◌, inl, inr, ℕ, ◌<◌, ◌≤◌, ◌==◌, ◌&&◌, nat_eq, nat_le, Bool, true, false, cond, Some, List, [], ◌∷◌, ◌++◌, ◌+◌, length, map, filter, sym, ap, ◌∙◌, subst, arith, le-leb}
use Rattle.std.specs.Cmp.Lexicographic.{pointwise}
use Rattle.std.specs.Cmp.{IsTotalOrder, on_total}
use Rattle.std.specs.List.{flat_map, AllByRecursion}
use Rattle.std.specs.List.Sorted.{IsStrictlySortedBy}
use Rattle.std.specs.declared.cmp.Ordering.{Ordering}
use Rattle.std.specs.declared.cmp.Ordering.TheVariants.{Less, Equal}
use Rattle.std.proofs.lemmas.Bool.{and_parts, and_from}
use Rattle.hv_base.specs.declared.ids.RowId.{RowId}
use Rattle.hv_base.specs.Identifiers.{row_id_cmp, row_id_total}
use Rattle.hv_base.specs.Sorting.{sorted_by, rising_by}
use Rattle.hv_shelf.specs.Disk as disk
use Rattle.hv_logic.specs.Rows.{found_cmp}
use Rattle.hv_logic.specs.declared.catalog.Shape.{Shape}
use Rattle.hv_logic.specs.declared.effect.Found.{Found}
use Rattle.hv_route.specs.Standing.{insert_record, delete_record, stands_in}
use Rattle.hv_route.proofs.NumberedLemmas.{rows-are-numbered}
use Rattle.hv_rowfile.specs.declared.record.Rec.{Rec}
use Rattle.hv_rowfile.specs.declared.record.Rec.TheVariants as rec
use Rattle.hv_rowfile.specs.Layout.{id_of as record_id}
use Rattle.hv_dirs.specs.Choice.{Sight, sight_of, Delta, Own, Wide, chosen_above, delta_cmp}
use Rattle.hv_merge.specs.Gathering as merge
use Rattle.hv_merge.specs.Gathering.{is_in_range, in_range, gathered}
use Rattle.hv_merge.proofs.Fronts.{tied_id}
use Rattle.hv_history.specs.declared.entry.Entry.{Entry}
use Rattle.hv_history.specs.declared.entry.JobKind.{JobKind}
use Rattle.hv_history.specs.declared.entry.JobKind.TheVariants as kind
use Rattle.hv_history.specs.declared.state.Table.{Table}
use Rattle.hv_history.specs.declared.state.Written.{Written}
use Rattle.hv_history.specs.State.{State, Job, state_of, nothing_yet}
use Rattle.hv_history.specs.Legal.{profile, AllTruthful}
use Rattle.hv_history.specs.Jobs.{is_job_of, is_live_one, pieces_for, events_in}
use Rattle.hv_history.specs.JobsFit.{PublishedFits}
use Rattle.hv_law_directories.specs.hv_stands.specs.Files.{records_of}
use Rattle.hv_law_directories.specs.hv_stands.specs.Sound as stands
use Rattle.hv_law_directories.specs.hv_stands.specs.Sound.{IsRoutedWrite, HasSoundWrites}
use Rattle.hv_law_directories.specs.hv_stands.proofs.FileRecords.{by-id}
use Rattle.hv_law_directories.specs.hv_stands.proofs.Ordered.{rises-kept}
use Rattle.hv_law_directories.specs.hv_stands.proofs.Soundness.{all-mapped, all-numbered}
use Rattle.hv_law_jobs.specs.Sound.{IsAboveBase}
use Rattle.hv_law_jobs.proofs.CountLemmas.{marked-most}
use Rattle.hv_law_jobs.proofs.OrderLemmas.{job-of-is, job-of-from}
use Rattle.hv_law_jobs.proofs.PublishLemmas.{published-go-further}
use Rattle.hv_law_made.specs.Made.{has_written, rec_cmp, delta_recs, rows_up_to, base_recs}
use Rattle.hv_law_made.specs.Entries.{IsAtWork, IsSoundBook}
use Rattle.hv_law_made.proofs.BookLemmas.{books-are-sound}
use Rattle.hv_law_made.proofs.NamedLemmas.{same-text}
use Rattle.hv_law_visible.specs.Members.{IsIn, HasNoTies}
use Rattle.hv_law_visible.specs.History.{Write, Compaction, Major, end_of, write_of, has_write, by_deleter}
use Rattle.hv_law_visible.specs.Visible.{Tree, base_chosen, deltas_chosen, deletes_chosen, by_id}
use Rattle.hv_law_visible.specs.Stands.{IsSound, Fits, Stand, Stands}
use Rattle.hv_law_visible.specs.Snapshots.{list_at, list_up_to, IsUndone}
use Rattle.hv_law_visible.specs.Readers.{IsPast}
use Rattle.hv_law_visible.proofs.ListLemmas.{says-up-to}
use Rattle.hv_law_visible.proofs.LooseLemmas.{is-chosen}
use Rattle.hv_law_visible.proofs.MemberLemmas.{in-flat, from-flat, in-map, from-map, in-filter, from-filter}
use Rattle.hv_law_visible.proofs.OrderLemmas.{ordered-sorted}
use Rattle.hv_law_visible.proofs.ReachedLemmas.{base-is}
use Rattle.hv_law_visible.proofs.SortingLemmas.{all-from, from-sorted, to-sorted, from-rising, to-rising, rises-sorted, rises-rising, one-list, distinct-joined, distinct-flat, keyed-distinct}
use Rattle.hv_law_visible.proofs.TakenLemmas.{all-in}
use Rattle.hv_law_published.specs.State.{IsKept, State as Partition}
use Rattle.hv_law_published.specs.Laws.{working_sight, is_within}
use Rattle.hv_law_published.proofs.GatherLemmas.{gathers}
use Rattle.hv_law_published.proofs.RetiredLemmas.{greatest, stand-sorted, end-valid}
use Rattle.hv_law_published.proofs.StateLemmas.{list-fits}
use Rattle.hv_law_directories.specs.hv_law_partitions.specs.Partitions.{id_of, is_of, rows_of, write_in, writes_of, written_in}
use Rattle.hv_law_directories.specs.hv_law_partitions.proofs.ContentLemmas.{from-rows}
use Rattle.hv_law_directories.specs.hv_law_partitions.proofs.IdLemmas.{numbered-in}
use Rattle.hv_law_directories.specs.Reading.{Reading}
use Rattle.hv_law_whole.specs.Whole.{compaction_of}
use Rattle.hv_law_whole.specs.Shown.{AreOfBook, partition_with}
use Rattle.hv_law_whole.specs.Gathered.{chosen_of, recs_of, in_bucket, MinorJobsGather, MajorJobsGather}
use Rattle.hv_law_whole.proofs.KeptLemmas.{is-published, major-is, reaches, partitions-are-kept, end-list}
use Rattle.hv_law_whole.proofs.OnceLemmas.{AreGoneOnce, books-gone-once}
use Rattle.hv_law_whole.proofs.RangeLemmas.{end-of-range, jobs-shown}

-- ---- an event of the range stands in a directory that is chosen, which is made of it

module _ {E : Type 0} (events : Write Found → List E) (write_in_event : E → ℕ) (most : ℕ) (sight : Sight) (past : Compaction → Type 0) (foreign : ℕ → Type 0)
    (writes : List (Write Found)) (jobs : List Compaction) (tree : Tree Found) (names : List Delta) (files : Delta → List E)
    (sound : IsSound id_of most writes jobs) (fits : Fits sight past foreign writes jobs) (standing : Stands id_of past foreign writes jobs tree)
    (stand : Stand past foreign jobs (λ d. flat_map events (filter (has_write d) writes)) names files)
    (told : (w : Write Found) (e : E) → IsIn w writes → IsIn e (events w) → write_in_event e ≡ w.write)
    (first last : ℕ) (above : base_chosen sight tree < first)
    (valid : (w : Write Found) → IsIn w writes → w.write ≤ last → sight.valid w.write ≡ true) where
  chosen-has : (e : E) → IsIn e (flat_map events (filter (has_write (Wide first last)) writes))
      → (d : Delta) × IsIn d (chosen_above sight (base_chosen sight tree) names) × IsIn e (flat_map events (filter (has_write d) writes))
  unfolding chosen_above
  chosen-has e at =
      let kept = from-filter (λ (y : E). is_within first last (write_in_event y)) e (flat_map files (chosen_above sight (base_chosen sight tree) names))
      (gathers events write_in_event id_of most sight past foreign writes jobs tree names files sound fits standing stand told first last above valid e at) in
      let its = from-flat files e (chosen_above sight (base_chosen sight tree) names) kept.0 in
      let chosen = is-chosen events id_of most sight past foreign writes jobs (sorted_by delta_cmp names) files (base_chosen sight tree)
      (ordered-sorted names) sound fits
      (stand-sorted id_of most sight past foreign writes jobs tree sound fits standing names files (λ d. flat_map events (filter (has_write d) writes)) stand)
      (greatest id_of most sight past foreign writes jobs tree sound fits standing) its.0 its.1 in
      (its.0, its.1, chosen.only e its.2)

-- ---- records and events

-- a write is of a delta where what it did in the partition is
same-delta : (partition : List ℕ) (d : Delta) (w : Written) → has_write d (write_in partition w) ≡ has_written d w
same-delta partition (Own write statement) w = refl
same-delta partition (Wide first last) w = refl

-- The records of a write in a bucket are those of its events there.
module _ {E : Type 0} (events : Write Found → List E) (rec_of : E → Rec) (bucket_of : E → ℕ) (shape : Shape) (writes : List Written) (partition : List ℕ)
    (deletes : Bool) (bucket : ℕ)
    (to : (w : Written) → IsIn w writes → (r : Rec) → IsIn r (records_of shape deletes partition bucket w)
    → (e : E) × IsIn e (events (write_in partition w)) × ((bucket_of e == bucket) ≡ true) × (rec_of e ≡ r))
    (back : (w : Written) → IsIn w writes → (e : E) → IsIn e (events (write_in partition w)) → (bucket_of e == bucket) ≡ true
    → IsIn (rec_of e) (records_of shape deletes partition bucket w))
    (told : (w : Written) → IsIn w writes → (e : E) → IsIn e (events (write_in partition w)) → merge.write_of (rec_of e) ≡ w.write)
    (apart : HasNoTies rec_cmp (flat_map (records_of shape deletes partition bucket) writes))
    (low high : ℕ) (chosen : List Delta)
    (has : (e : E) → IsIn e (flat_map events (filter (has_write (Wide low high)) (writes_of partition writes)))
    → (d : Delta) × IsIn d chosen × IsIn e (flat_map events (filter (has_write d) (writes_of partition writes)))) where
  abbrev its : List Rec
  its = flat_map (records_of shape deletes partition bucket) (filter (has_written (Wide low high)) writes)

  abbrev recs : Delta → List Rec
  recs d = delta_recs shape writes partition deletes d bucket

  abbrev all : List Rec
  all = flat_map (in_range low high) (map recs chosen)

  -- a record of a write in the range
  in-its : (w : Written) → IsIn w writes → (r : Rec) → IsIn r (records_of shape deletes partition bucket w) → is_in_range low high r ≡ true → IsIn r its
  in-its w among r at within =
      let event = to w among r at in
      let write_is : merge.write_of r ≡ w.write = ap merge.write_of (sym event.3) ∙ told w among event.0 event.1 in
      in-flat (records_of shape deletes partition bucket) w r (filter (has_written (Wide low high)) writes)
      (in-filter (has_written (Wide low high)) w writes among (ap (λ n. nat_le low n && nat_le n high) (sym write_is) ∙ within)) at

  to-its : (r : Rec) → IsIn r all → IsIn r its
  unfolding delta_recs
  to-its r at =
      let file = from-flat (in_range low high) r (map recs chosen) at in
      let d = from-map recs file.0 chosen file.1 in
      let kept = from-filter (is_in_range low high) r file.0 file.2 in
      let there : IsIn r (flat_map (records_of shape deletes partition bucket) (filter (has_written d.0) writes)) =
      from-sorted rec_cmp r (flat_map (records_of shape deletes partition bucket) (filter (has_written d.0) writes)) (subst (IsIn r) (sym d.2) kept.0) in
      let w = from-flat (records_of shape deletes partition bucket) r (filter (has_written d.0) writes) there in
      in-its w.0 (from-filter (has_written d.0) w.0 writes w.1).0 r w.2 kept.1

  -- and back: its event is of a chosen one
  from-its : (r : Rec) → IsIn r its → IsIn r all
  unfolding delta_recs
  from-its r at =
      let w = from-flat (records_of shape deletes partition bucket) r (filter (has_written (Wide low high)) writes) at in
      let ranged = from-filter (has_written (Wide low high)) w.0 writes w.1 in
      let event = to w.0 ranged.0 r w.2 in
      let one = has event.0
      (in-flat events (write_in partition w.0) event.0 (filter (has_write (Wide low high)) (writes_of partition writes))
      (in-filter (has_write (Wide low high)) (write_in partition w.0) (writes_of partition writes) (in-map (write_in partition) w.0 writes ranged.0)
      (same-delta partition (Wide low high) w.0 ∙ ranged.1)) event.1) in
      let v = from-flat events event.0 (filter (has_write one.0) (writes_of partition writes)) one.2 in
      let of = from-filter (has_write one.0) v.0 (writes_of partition writes) v.1 in
      let u = from-map (write_in partition) v.0 writes of.0 in
      let there : IsIn event.0 (events (write_in partition u.0)) = subst (λ (x : Write Found). IsIn event.0 (events x)) (sym u.2) v.2 in
      let is_of : has_written one.0 u.0 ≡ true =
      sym (same-delta partition one.0 u.0) ∙ ap (has_write one.0) u.2 ∙ of.1 in
      let r_there : IsIn r (records_of shape deletes partition bucket u.0) =
      subst (λ (x : Rec). IsIn x (records_of shape deletes partition bucket u.0)) event.3 (back u.0 u.1 event.0 there event.2) in
      let write_is : merge.write_of r ≡ w.0.write = ap merge.write_of (sym event.3) ∙ told w.0 ranged.0 event.0 event.1 in
      in-flat (in_range low high) (recs one.0) r (map recs chosen) (in-map recs one.0 chosen one.1)
      (in-filter (is_in_range low high) r (recs one.0)
      (to-sorted rec_cmp r (flat_map (records_of shape deletes partition bucket) (filter (has_written one.0) writes))
      (in-flat (records_of shape deletes partition bucket) u.0 r (filter (has_written one.0) writes) (in-filter (has_written one.0) u.0 writes u.1 is_of) r_there))
      (ap (λ n. nat_le low n && nat_le n high) write_is ∙ ranged.1))

  rec-total : IsTotalOrder rec_cmp
  rec-total = on_total record_id row_id_total

  gathered-is : gathered low high (map recs chosen) ≡ delta_recs shape writes partition deletes (Wide low high) bucket
  unfolding delta_recs gathered
  gathered-is =
      let own : HasNoTies rec_cmp its = distinct-flat rec_cmp (records_of shape deletes partition bucket) (has_written (Wide low high)) writes apart in
      let keyed = keyed-distinct rec_cmp its rec-total own in
      one-list rec_cmp rec-total (rising_by rec_cmp all) (sorted_by rec_cmp its) (rises-rising rec_cmp rec-total all) (rises-sorted rec_cmp rec-total its own)
      (λ r at. to-sorted rec_cmp r its (to-its r (from-rising rec_cmp r all at)))
      (λ r at. to-rising rec_cmp r all (λ x y p q e. keyed x y (to-its x p) (to-its y q) e) (from-its r (from-sorted rec_cmp r its at)))

-- ---- no two records of a bucket have one identifier

less-not : (o : Ordering) → o ≡ Less → o ≢ Equal
less-not o e f = let never : Less ≡ Equal = sym e ∙ f in cc

-- rows of one partition that rise differ by their identifiers
rows-differ : (partition : List ℕ) (rows : List Found) → ((row : Found) → IsIn row rows → row.partition ≡ partition) → IsStrictlySortedBy found_cmp rows
    → HasNoTies (by_id id_of) rows
unfolding IsStrictlySortedBy
rows-differ partition [] here up = tt
rows-differ partition (x ∷ rows) here up = (
  all-from (λ y. by_id id_of x y ≢ Equal) rows (λ y at.
      less-not (row_id_cmp x.id y.id)
      (sym (by-id x y (here x (inl refl) ∙ sym (here y (inr at)))) ∙ all-in (λ z. found_cmp x z ≡ Less) rows y up.0 at)),
  rows-differ partition rows (λ y at. here y (inr at)) up.1,
)

-- no row of the later write has the identifier of one of the earlier write, in its partition
abbrev Other : (Written → List Found) → Written → Written → Type 0
Other rows_in before later = (a b : Found) → IsIn a (rows_in before) → IsIn b (rows_in later) → a.partition ≡ b.partition → a.id ≡ b.id → ⊥

abbrev AreOther : (Written → List Found) → List Written → Type 0
AreOther rows_in [] = Unit {0}
AreOther rows_in (w ∷ ws) = AllByRecursion (Other rows_in w) ws × AreOther rows_in ws

module _ (partition : List ℕ) (bucket : ℕ) where
  here-of : (rows : List Found) (row : Found) → IsIn row (filter (stands_in partition bucket) rows) → row.partition ≡ partition
  here-of rows row at =
      let kept = from-filter (stands_in partition bucket) row rows at in
      same-text row.partition partition (and_parts (pointwise nat_eq row.partition partition) (row.id.bucket == bucket) kept.1).0

  bucket-differs : (rows : List Found) → IsStrictlySortedBy found_cmp rows → HasNoTies (by_id id_of) (filter (stands_in partition bucket) rows)
  bucket-differs rows up =
      rows-differ partition (filter (stands_in partition bucket) rows) (here-of rows) (rises-kept found_cmp (stands_in partition bucket) rows up)

  -- records of rows, each with its row's identifier
  module _ (f : Found → Rec) (same : (row : Found) → record_id (f row) ≡ row.id) where
    recs-differ : (rows : List Found) → HasNoTies (by_id id_of) rows → HasNoTies rec_cmp (map f rows)
    recs-differ [] differ = tt
    recs-differ (x ∷ rows) differ = (
      all-from (λ r. rec_cmp (f x) r ≢ Equal) (map f rows) (λ r at tie.
          let y = from-map f r rows at in
          let ids : rec_cmp (f x) r ≡ row_id_cmp x.id y.0.id =
          ap (λ (z : Rec). rec_cmp (f x) z) (sym y.2) ∙ ap (λ id. row_id_cmp id (record_id (f y.0))) (same x) ∙ ap (row_id_cmp x.id) (same y.0) in
          all-in (λ (z : Found). by_id id_of x z ≢ Equal) rows y.0 differ.0 y.1 (sym ids ∙ tie)),
      recs-differ rows differ.1,
    )

  -- of all writes: each write's differ, and those of two writes
  module _ (rows_in : Written → List Found) (f : Written → Found → Rec) (same : (w : Written) (row : Found) → record_id (f w row) ≡ row.id) where
    abbrev recs_in : Written → List Rec
    recs_in w = map (f w) (filter (stands_in partition bucket) (rows_in w))

    all-differ : (ws : List Written) → AllByRecursion (λ (w : Written). IsStrictlySortedBy found_cmp (rows_in w)) ws → AreOther rows_in ws
        → HasNoTies rec_cmp (flat_map recs_in ws)
    all-differ [] up other = tt
    all-differ (w ∷ ws) up other =
        distinct-joined rec_cmp (recs_in w) (flat_map recs_in ws) (recs-differ (f w) (same w) (filter (stands_in partition bucket) (rows_in w)) (bucket-differs (rows_in w) up.0))
        (all-differ ws up.1 other.1)
        (λ r q at_r at_q tie.
        let v = from-flat recs_in q ws at_q in
        let a = from-map (f w) r (filter (stands_in partition bucket) (rows_in w)) at_r in
        let b = from-map (f v.0) q (filter (stands_in partition bucket) (rows_in v.0)) v.2 in
        let a_in = from-filter (stands_in partition bucket) a.0 (rows_in w) a.1 in
        let b_in = from-filter (stands_in partition bucket) b.0 (rows_in v.0) b.1 in
        let ids : rec_cmp r q ≡ row_id_cmp a.0.id b.0.id =
        ap (λ (z : Rec). rec_cmp z q) (sym a.2) ∙ ap (λ (z : Rec). rec_cmp (f w a.0) z) (sym b.2)
        ∙ ap (λ id. row_id_cmp id (record_id (f v.0 b.0))) (same w a.0) ∙ ap (row_id_cmp a.0.id) (same v.0 b.0) in
        all-in (Other rows_in w) ws v.0 other.0 v.1 a.0 b.0 a_in.0 b_in.0 (here-of (rows_in w) a.0 a.1 ∙ sym (here-of (rows_in v.0) b.0 b.1))
        (tied_id a.0.id b.0.id (sym ids ∙ tie)))

-- the inserted rows of two writes differ by their write ids
put-other : (shape : Shape) (ws : List Written) → AllByRecursion (IsRoutedWrite shape) ws → stands.AreApart ws → AreOther (λ (w : Written). w.inserts) ws
put-other shape [] each apart = tt
put-other shape (w ∷ ws) each apart = (
  all-from (Other (λ (x : Written). x.inserts) w) ws (λ v at a b at_a at_b partition ids.
      let mine = numbered-in [] shape w a each.0 at_a in
      let its = numbered-in [] shape v b (all-in (IsRoutedWrite shape) ws v each.1 at) at_b in
      all-in (stands.HasOther w.write) ws v apart.0 at (sym its.write_is ∙ ap write_of (sym ids) ∙ mine.write_is)),
  put-other shape ws each.1 apart.1,
)

gone-other : (ws : List Written) → AreGoneOnce ws → AreOther (λ (w : Written). w.deletes) ws
gone-other [] once = tt
gone-other (w ∷ ws) once = (once.0, gone-other ws once.1)

put-sorted : (shape : Shape) (w : Written) → IsRoutedWrite shape w → IsStrictlySortedBy found_cmp w.inserts
put-sorted shape w is = subst (IsStrictlySortedBy found_cmp) (sym is.numbered) (rows-are-numbered shape w.write w.statement is.rows).rise

-- ---- rows that were inserted, and rows that were deleted

-- a deleted row and who deleted it
abbrev deleted_by : ℕ → RowId → RowId × ℕ
deleted_by write id = (id, write)

abbrev delete_of : RowId × ℕ → Rec
delete_of e = rec.Delete e.0 (record { 0 = e.1 })

module _ (shape : Shape) (writes : List Written) (routed : AllByRecursion (IsRoutedWrite shape) writes) (partition : List ℕ) (bucket : ℕ) where
  insert-to : (w : Written) → IsIn w writes → (r : Rec) → IsIn r (records_of shape false partition bucket w)
      → (e : Found) × IsIn e (rows_of partition w.inserts) × ((e.id.bucket == bucket) ≡ true) × (insert_record shape e ≡ r)
  insert-to w among r at =
      let row = from-map (insert_record shape) r (filter (stands_in partition bucket) w.inserts) at in
      let kept = from-filter (stands_in partition bucket) row.0 w.inserts row.1 in
      let parts = and_parts (pointwise nat_eq row.0.partition partition) (row.0.id.bucket == bucket) kept.1 in
      (row.0, in-filter (is_of partition) row.0 w.inserts kept.0 parts.0, parts.1, row.2)

  insert-back : (w : Written) → IsIn w writes → (e : Found) → IsIn e (rows_of partition w.inserts) → (e.id.bucket == bucket) ≡ true
      → IsIn (insert_record shape e) (records_of shape false partition bucket w)
  insert-back w among e at bucket_is =
      let kept = from-filter (is_of partition) e w.inserts at in
      in-map (insert_record shape) e (filter (stands_in partition bucket) w.inserts)
      (in-filter (stands_in partition bucket) e w.inserts kept.0 (and_from (pointwise nat_eq e.partition partition) (e.id.bucket == bucket) kept.1 bucket_is))

  insert-told : (w : Written) → IsIn w writes → (e : Found) → IsIn e (rows_of partition w.inserts) → merge.write_of (insert_record shape e) ≡ w.write
  insert-told w among e at =
      (numbered-in [] shape w e (all-in (IsRoutedWrite shape) writes w routed among) (from-rows partition e w.inserts at).0).write_is

  delete-to : (w : Written) → IsIn w writes → (r : Rec) → IsIn r (records_of shape true partition bucket w)
      → (e : RowId × ℕ) × IsIn e (by_deleter (write_in partition w)) × ((e.0.bucket == bucket) ≡ true) × (delete_of e ≡ r)
  delete-to w among r at =
      let row = from-map (delete_record w.write) r (filter (stands_in partition bucket) w.deletes) at in
      let kept = from-filter (stands_in partition bucket) row.0 w.deletes row.1 in
      let parts = and_parts (pointwise nat_eq row.0.partition partition) (row.0.id.bucket == bucket) kept.1 in (
        deleted_by w.write row.0.id,
        in-map (deleted_by w.write) row.0.id (map id_of (rows_of partition w.deletes))
            (in-map id_of row.0 (rows_of partition w.deletes) (in-filter (is_of partition) row.0 w.deletes kept.0 parts.0)),
        parts.1,
        row.2,
      )

  delete-back : (w : Written) → IsIn w writes → (e : RowId × ℕ) → IsIn e (by_deleter (write_in partition w)) → (e.0.bucket == bucket) ≡ true
      → IsIn (delete_of e) (records_of shape true partition bucket w)
  delete-back w among e at bucket_is =
      let id = from-map (deleted_by w.write) e (map id_of (rows_of partition w.deletes)) at in
      let row = from-map id_of id.0 (rows_of partition w.deletes) id.1 in
      let kept = from-filter (is_of partition) row.0 w.deletes row.1 in
      let same : deleted_by w.write row.0.id ≡ e = ap (deleted_by w.write) row.2 ∙ id.2 in
      let in_bucket : (row.0.id.bucket == bucket) ≡ true = ap (λ (x : RowId × ℕ). x.0.bucket == bucket) same ∙ bucket_is in
      subst (λ (x : RowId × ℕ). IsIn (delete_of x) (records_of shape true partition bucket w)) same
      (in-map (delete_record w.write) row.0 (filter (stands_in partition bucket) w.deletes)
      (in-filter (stands_in partition bucket) row.0 w.deletes kept.0 (and_from (pointwise nat_eq row.0.partition partition) (row.0.id.bucket == bucket) kept.1 in_bucket)))

  delete-told : (w : Written) → IsIn w writes → (e : RowId × ℕ) → IsIn e (by_deleter (write_in partition w)) → merge.write_of (delete_of e) ≡ w.write
  delete-told w among e at =
      let id = from-map (deleted_by w.write) e (map id_of (rows_of partition w.deletes)) at in
      ap (λ (x : RowId × ℕ). x.1) (sym id.2)

-- ---- a minor job at work

major-kind : (k : JobKind) (range : ℕ × ℕ × ℕ) (last mark : ℕ) → compaction_of k range ≡ Major last mark → k ≡ kind.Major
major-kind kind.Minor range last mark e = cc
major-kind kind.Major range last mark e = refl

module _ (read : Reading) (entries : List Entry) (table : Table) (partition : List ℕ) (files : disk.Tree) (tree : Tree Found) (number mark : ℕ) (job : Job)
    (bucket : ℕ) (of : AreOfBook read entries table partition files tree) (truth : AllTruthful nothing_yet entries)
    (work : IsAtWork (state_of entries) number job) (here : is_job_of table.info.table.0 partition job ≡ true) (minor : job.kind ≡ kind.Minor)
    (picked : job.watermark ≡ Some mark) where
  abbrev s : State
  s = state_of entries

  abbrev key : ℕ
  key = table.info.table.0

  abbrev shape : Shape
  shape = table.info.shape

  abbrev state : Partition Found
  state = partition_with entries key partition tree

  abbrev low : ℕ
  low = (pieces_for s job).low

  abbrev high : ℕ
  high = (pieces_for s job).high

  abbrev sight : Sight
  sight = working_sight state mark

  kept : IsKept id_of state
  kept = partitions-are-kept read entries table partition files tree of

  sound : IsSoundBook s
  sound = books-are-sound profile entries of.fit

  ends : (c : Compaction) → IsIn c state.jobs → IsPast state.open_txns c → end_of c ≤ mark
  ends c listed past = reaches s sound.jobs key partition number mark job work.is here work.working picked c (is-published s key partition c listed)

  within : high ≤ mark
  within = subst (λ n. n ≤ mark) (end-of-range s key partition mark job here picked) (marked-most mark (events_in s key partition))

  publishes : PublishedFits s low high (length s.transactions + 1) job
  publishes = record {
    working = work.working;
    live = ap is_live_one work.table_is ∙ work.live;
    some = work.some;
    low_is = refl;
    high_is = refl;
    mark_is = refl;
  }

  mine : (other : Job) → is_job_of key partition other ≡ true → is_job_of job.table job.partition other ≡ true
  mine other its =
      let own = job-of-is key partition job here in
      let theirs = job-of-is key partition other its in
      job-of-from job.table job.partition other (theirs.0 ∙ sym own.0) (theirs.1 ∙ sym own.1)

  base-below : (base : ℕ) → IsIn base tree.bases → base < low
  base-below base at =
      let made = (kept.stands.only_bases base at).0 in
      let its = is-published s key partition (Major base made.0) made.1 in
      let further = (published-go-further s number low high (length s.transactions + 1) job sound.jobs work.is publishes).1 in
      let above = (further its.number its.job its.range its.is (mine its.job its.here) its.published).above in
      let below : its.range.1 < low =
      subst (λ k. IsAboveBase kind.Major k its.range.1 low) minor
      (subst (λ k. IsAboveBase k job.kind its.range.1 low) (major-kind its.job.kind its.range base made.0 its.same) above) in
      let end = major-is its.job.kind its.range base made.0 its.same in
      omega (arith, below, end)

  above-base : base_chosen sight tree < low
  above-base = elim (base-is sight tree.bases) [
    | inl none ↦
        (let first = (published-go-further s number low high (length s.transactions + 1) job sound.jobs work.is publishes).0.first in
        omega (arith, none, first))
    | inr is ↦ base-below (base_chosen sight tree) is.stands
  ]

  fits : Fits sight (IsPast state.open_txns) (IsUndone state.fates) state.writes state.jobs
  fits = list-fits id_of state (list_up_to mark (list_at state.fates)) kept (inr (inr (mark, ends, refl)))

  valid : (w : Write Found) → IsIn w state.writes → w.write ≤ high → sight.valid w.write ≡ true
  valid w at under =
      let most : high ≤ mark = within in
      (says-up-to mark (list_at state.fates)).valid w.write
      ∙ and_from (nat_le w.write mark) ((sight_of (list_at state.fates)).valid w.write) (le-leb w.write mark (omega (arith, under, most))) (end-valid id_of state kept w at)

  writes-are : state.writes ≡ writes_of partition table.writes
  writes-are = ap (λ o. writes_of partition (written_in o)) of.here

  routed : HasSoundWrites table
  routed = all-numbered HasSoundWrites s.tables key table of.here sound.base.tables.written

  inserts-has : (e : Found) → IsIn e (flat_map (λ (w : Write Found). w.inserts) (filter (has_write (Wide low high)) (writes_of partition table.writes)))
      → (d : Delta) × IsIn d (deltas_chosen sight tree) × IsIn e (flat_map (λ (w : Write Found). w.inserts) (filter (has_write d) (writes_of partition table.writes)))
  inserts-has =
      subst
      (λ (ws : List (Write Found)). (e : Found) → IsIn e (flat_map (λ (w : Write Found). w.inserts) (filter (has_write (Wide low high)) ws))
      → (d : Delta) × IsIn d (deltas_chosen sight tree) × IsIn e (flat_map (λ (w : Write Found). w.inserts) (filter (has_write d) ws)))
      writes-are
      (chosen-has (λ (w : Write Found). w.inserts) (λ (e : Found). write_of e.id) kept.most sight (IsPast state.open_txns) (IsUndone state.fates) state.writes state.jobs tree
      tree.deltas tree.inserts kept.sound fits kept.stands kept.stands.deltas (λ w e at has. kept.sound.carried w e at has) low high above-base valid)

  deletes-has : (e : RowId × ℕ) → IsIn e (flat_map by_deleter (filter (has_write (Wide low high)) (writes_of partition table.writes)))
      → (d : Delta) × IsIn d (deletes_chosen sight tree) × IsIn e (flat_map by_deleter (filter (has_write d) (writes_of partition table.writes)))
  deletes-has =
      subst
      (λ (ws : List (Write Found)). (e : RowId × ℕ) → IsIn e (flat_map by_deleter (filter (has_write (Wide low high)) ws))
      → (d : Delta) × IsIn d (deletes_chosen sight tree) × IsIn e (flat_map by_deleter (filter (has_write d) ws)))
      writes-are
      (chosen-has by_deleter (λ (e : RowId × ℕ). e.1) kept.most sight (IsPast state.open_txns) (IsUndone state.fates) state.writes state.jobs tree
      tree.delete_deltas tree.deletes kept.sound fits kept.stands kept.stands.delete_deltas
      (λ w e at has. ap (λ (x : RowId × ℕ). x.1) (sym (from-map (deleted_by w.write) e w.deletes has).2)) low high above-base valid)

  inserts-gathered : gathered low high (recs_of table partition false bucket (deltas_chosen sight tree)) ≡ delta_recs shape table.writes partition false (Wide low high) bucket
  inserts-gathered =
      gathered-is (λ (w : Write Found). w.inserts) (insert_record shape) (λ (e : Found). e.id.bucket) shape table.writes partition false bucket
      (insert-to shape table.writes routed.each partition bucket) (insert-back shape table.writes routed.each partition bucket)
      (insert-told shape table.writes routed.each partition bucket)
      (all-differ partition bucket (λ (w : Written). w.inserts) (λ (w : Written). insert_record shape) (λ w row. refl) table.writes
      (all-mapped (IsRoutedWrite shape) (λ (w : Written). IsStrictlySortedBy found_cmp w.inserts) (put-sorted shape) table.writes routed.each)
      (put-other shape table.writes routed.each routed.apart))
      low high (deltas_chosen sight tree) inserts-has

  deletes-gathered : gathered low high (recs_of table partition true bucket (deletes_chosen sight tree)) ≡ delta_recs shape table.writes partition true (Wide low high) bucket
  deletes-gathered =
      gathered-is by_deleter delete_of (λ (e : RowId × ℕ). e.0.bucket) shape table.writes partition true bucket
      (delete-to shape table.writes routed.each partition bucket) (delete-back shape table.writes routed.each partition bucket)
      (delete-told shape table.writes routed.each partition bucket)
      (all-differ partition bucket (λ (w : Written). w.deletes) (λ (w : Written). delete_record w.write) (λ w row. refl) table.writes
      (all-mapped (IsRoutedWrite shape) (λ (w : Written). IsStrictlySortedBy found_cmp w.deletes) (λ w is. is.deletes) table.writes routed.each)
      (gone-other table.writes (books-gone-once profile entries of.fit truth key table of.here)))
      low high (deletes_chosen sight tree) deletes-has

  by-kind : (deletes : Bool) → gathered low high (recs_of table partition deletes bucket (chosen_of deletes sight tree)) ≡ delta_recs shape table.writes partition deletes (Wide low high) bucket
  by-kind false = inserts-gathered
  by-kind true = deletes-gathered

pub minor-jobs-gather : MinorJobsGather
minor-jobs-gather read entries table partition files tree number mark job deletes bucket of truth work here minor picked =
    let s = state_of entries in
    subst
    (λ list. gathered (pieces_for s job).low (pieces_for s job).high (recs_of table partition deletes bucket (chosen_of deletes (sight_of (list_up_to mark list)) tree))
    ≡ delta_recs table.info.shape table.writes partition deletes (Wide (pieces_for s job).low (pieces_for s job).high) bucket)
    (sym (end-list entries table.info.table.0))
    (by-kind read entries table partition files tree number mark job bucket of truth work here minor picked deletes)

-- ---- a major job at work

-- the rows of a partition in a bucket
rows-there : (partition : List ℕ) (bucket : ℕ) (rows : List Found) → filter (in_bucket bucket) (rows_of partition rows) ≡ filter (stands_in partition bucket) rows
rows-there partition bucket [] = refl
rows-there partition bucket (row ∷ rows) = by (is_of partition row) (rows-there partition bucket rows)
  where
    by : (b : Bool) → filter (in_bucket bucket) (rows_of partition rows) ≡ filter (stands_in partition bucket) rows
        → filter (in_bucket bucket) (cond b (row ∷ rows_of partition rows) (rows_of partition rows))
        ≡ cond (b && (row.id.bucket == bucket)) (row ∷ filter (stands_in partition bucket) rows) (filter (stands_in partition bucket) rows)
    by true rest = ap (λ xs. cond (row.id.bucket == bucket) (row ∷ xs) xs) rest
    by false rest = rest

pub major-jobs-gather : MajorJobsGather
unfolding base_recs
major-jobs-gather read entries table partition files tree number mark job bucket of truth is here working picked =
    ap (λ rows. map (insert_record table.info.shape) (filter (in_bucket bucket) rows))
    (jobs-shown read entries table partition files tree number mark job of truth is here working picked)
    ∙ ap (map (insert_record table.info.shape)) (rows-there partition bucket (rows_up_to table.writes (pieces_for (state_of entries) job).high))
