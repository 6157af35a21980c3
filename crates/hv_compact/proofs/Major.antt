-- The rows that are left of the files that a major job takes in a bucket are those of its base there.
use Rattle.std.proofs.Common.{◌≡◌, inl, inr, ℕ, zero, suc, ◌==◌, ◌&&◌, nat_eq, Bool, true, false, true≢false, cond, Some, List, [], ◌∷◌, ◌++◌, filter, map, take, drop, length, refl, sym, ap, ◌∙◌, subst, eqb-true}
use Rattle.std.specs.Prelude.{not}
use Rattle.std.specs.Cmp.Lexicographic.{pointwise}
use Rattle.std.specs.Cmp.{IsTotalOrder, on_total}
use Rattle.std.specs.List.{flat_map, AllByRecursion}
use Rattle.std.specs.declared.cmp.Ordering.{Ordering}
use Rattle.std.specs.declared.cmp.Ordering.TheVariants.{Less, Equal}
use Rattle.std.proofs.lemmas.Bool.{and_parts, and_from}
use Rattle.std.proofs.lemmas.List.{take-append-drop}
use Rattle.hv_base.specs.declared.ids.RowId.{RowId}
use Rattle.hv_base.specs.Identifiers.{row_id_cmp, row_id_total}
use Rattle.hv_base.specs.Sorting.{rising_by}
use Rattle.hv_shelf.specs.Disk as disk
use Rattle.hv_shelf.specs.Disk.{places_of}
use Rattle.hv_logic.specs.hv_value.specs.declared.value.Value.{Value}
use Rattle.hv_logic.specs.declared.catalog.Shape.{Shape}
use Rattle.hv_logic.specs.declared.effect.Found.{Found}
use Rattle.hv_logic.specs.Rows.{found_cmp}
use Rattle.hv_rowfile.specs.declared.record.Rec.{Rec}
use Rattle.hv_rowfile.specs.declared.record.Rec.TheVariants as rec
use Rattle.hv_rowfile.specs.Layout.{id_of as record_id}
use Rattle.hv_route.specs.Partitions.{partition_values}
use Rattle.hv_route.specs.Routes.{stored, partition_of}
use Rattle.hv_route.specs.Standing.{insert_record, delete_record, stands_in}
use Rattle.hv_route.proofs.BackLemmas.{text-says}
use Rattle.hv_wids.specs.WriteIds.{WriteIds}
use Rattle.hv_dirs.specs.declared.names.DirName.{DirName}
use Rattle.hv_dirs.specs.declared.names.DirName.TheVariants as name
use Rattle.hv_dirs.specs.Choice.{Sight, sight_of, Delta, Own, Wide}
use Rattle.hv_merge.specs.declared.shown.Shown.{Shown}
use Rattle.hv_merge.specs.Merging as merge
use Rattle.hv_merge.specs.Merging.{row_of, delete_of, rows_in, deletes_in, merged}
use Rattle.hv_merge.proofs.Fronts.{tied_id}
use Rattle.hv_history.specs.declared.entry.Entry.{Entry}
use Rattle.hv_history.specs.declared.entry.JobKind.TheVariants as kind
use Rattle.hv_history.specs.declared.state.Table.{Table}
use Rattle.hv_history.specs.declared.state.Written.{Written}
use Rattle.hv_history.specs.State.{is_deleted, nothing_yet, content_of, state_of}
use Rattle.hv_history.specs.Legal.{profile, AllTruthful}
use Rattle.hv_history.specs.Jobs.{pieces_for}
use Rattle.hv_stands.specs.Files.{records_of, IsSaid, IsEncoded, AreEncoded}
use Rattle.hv_stands.specs.Sound.{IsRoutedWrite, HasSoundWrites}
use Rattle.hv_stands.proofs.Numbers.{one_value}
use Rattle.hv_stands.proofs.Soundness.{all-numbered}
use Rattle.hv_choosing.specs.declared.listing.DirFile.{DirFile}
use Rattle.hv_choosing.specs.Dirs.{name_of}
use Rattle.hv_choosing.specs.Listing.{AreListed}
use Rattle.hv_choosing.specs.Taken.{delta_name, files_taken}
use Rattle.hv_choosing.proofs.OwnChoice.{in-option, from-option}
use Rattle.hv_table_rows.proofs.ReadContent.{both-ways}
use Rattle.hv_table_rows.proofs.TakenFiles.{equal-by}
use Rattle.hv_table_rows.proofs.Names.{same-text, text-same}
use Rattle.hv_law_made.specs.Made.{has_written, rec_cmp, delta_recs, is_up_to, rows_up_to, base_recs, name_recs, has_deletes, made_recs}
use Rattle.hv_law_made.specs.Entries.{IsSoundBook}
use Rattle.hv_law_made.proofs.BookLemmas.{books-are-sound}
use Rattle.hv_law_visible.specs.Members.{IsIn, HasNoTies}
use Rattle.hv_law_visible.specs.History.{Write, write_of, is_row, inserts_of}
use Rattle.hv_law_visible.specs.Visible.{Tree, names_it, is_gone, is_visible, base_rows, base_chosen, deltas_chosen, deletes_chosen, records_read, deletes_read, visible_rows, visible_among, by_id}
use Rattle.hv_law_visible.proofs.MemberLemmas.{in-left, in-right, in-either, in-flat, from-flat, in-map, from-map, in-filter, from-filter, any-in, in-any}
use Rattle.hv_law_visible.proofs.SortingLemmas.{Rises, Keyed, all-from, from-sorted, from-rising, to-rising, rises-rising, one-list, keyed-distinct}
use Rattle.hv_law_visible.proofs.TakenLemmas.{all-in}
use Rattle.hv_job_acts.specs.hv_acts.specs.hv_telling.specs.hv_house.specs.hv_law_read.specs.hv_law_whole.specs.hv_law_directories.specs.hv_law_partitions.specs.Partitions.{id_of, is_of, write_in, writes_of, written_in}
use Rattle.hv_job_acts.specs.hv_acts.specs.hv_telling.specs.hv_house.specs.hv_law_read.specs.hv_law_whole.specs.hv_law_directories.specs.hv_law_partitions.proofs.IdLemmas.{numbered-in}
use Rattle.hv_job_acts.specs.hv_acts.specs.hv_telling.specs.hv_house.specs.hv_law_read.specs.hv_law_whole.specs.hv_law_directories.specs.Reading.{file_read}
use Rattle.hv_job_acts.specs.hv_acts.specs.hv_telling.specs.hv_house.specs.hv_law_read.specs.hv_law_whole.specs.hv_law_directories.specs.Directories.{dir_of, base_name, recs_in, inserted_by, deleted_by, rows_held}
use Rattle.hv_job_acts.specs.hv_acts.specs.hv_telling.specs.hv_house.specs.hv_law_read.specs.hv_law_whole.specs.hv_law_directories.proofs.DirLemmas.{number-same}
use Rattle.hv_job_acts.specs.hv_acts.specs.hv_telling.specs.hv_house.specs.hv_law_read.specs.hv_law_whole.specs.Gathered.{in_bucket}
use Rattle.hv_job_acts.specs.hv_acts.specs.hv_telling.specs.hv_house.specs.hv_law_read.specs.hv_law_whole.proofs.GatherLemmas.{major-jobs-gather}
use Rattle.hv_job_acts.specs.hv_job_calls.specs.Listing.{is_part}
use Rattle.hv_compact.specs.Gathering.{is_taken, taken_in, inserted}
use Rattle.hv_compact.proofs.Minor.{rec-total}
use Rattle.hv_compact.proofs.Taken as taken
use Rattle.hv_compact.proofs.Taken.{recs_made, IsWorkOf, IsChosen, chosen-kind, of-book, kept, recs-read, read-recs, taken-of, has-taken}

-- ---- lists that rise

rises-kept : {X : Type 0} (cmp : X → X → Ordering) (p : X → Bool) (xs : List X) → Rises cmp xs → Rises cmp (filter p xs)
rises-kept cmp p [] up = tt
rises-kept cmp p (x ∷ xs) up = by (p x) (rises-kept cmp p xs up.1)
  where
    by : (b : Bool) → Rises cmp (filter p xs) → Rises cmp (cond b (x ∷ filter p xs) (filter p xs))
    by true rest =
        (all-from (λ y. cmp x y ≡ Less) (filter p xs) (λ y at. all-in (λ z. cmp x z ≡ Less) xs y up.0 (from-filter p y xs at).0), rest)
    by false rest = rest

rises-mapped : {X Y : Type 0} (cmp : X → X → Ordering) (other : Y → Y → Ordering) (f : X → Y) → ((a b : X) → other (f a) (f b) ≡ cmp a b) → (xs : List X) → Rises cmp xs
    → Rises other (map f xs)
rises-mapped cmp other f same [] up = tt
rises-mapped cmp other f same (x ∷ xs) up = (
  all-from (λ y. other (f x) y ≡ Less) (map f xs) (λ y at.
      let from = from-map f y xs at in
      ap (other (f x)) (sym from.2) ∙ same x from.0 ∙ all-in (λ z. cmp x z ≡ Less) xs from.0 up.0 from.1),
  rises-mapped cmp other f same xs up.1,
)

found-id-total : IsTotalOrder (by_id id_of)
found-id-total = on_total id_of row_id_total

shown-id-total : IsTotalOrder (by_id merge.id_of)
shown-id-total = on_total merge.id_of row_id_total

-- ---- one record

row-again : (r : Rec) (x : Shown) → row_of r ≡ Some x → inserted x ≡ r
row-again (rec.Insert id row) x e =
    let shown : Shown = record { id = id; row = row } in
    sym (ap inserted (one_value shown x e))
row-again (rec.Delete id by) x e = cc

deleted-of : (r : Rec) (deleted : RowId × ℕ) → delete_of r ≡ Some deleted → IsIn deleted (deleted_by r)
deleted-of (rec.Insert id row) deleted e = cc
deleted-of (rec.Delete id by) deleted e = inl (one_value (id, by.0) deleted e)

of-deleted : (r : Rec) (deleted : RowId × ℕ) → IsIn deleted (deleted_by r) → (delete_of r ≡ Some deleted) × (record_id r ≡ deleted.0)
of-deleted (rec.Insert id row) deleted at = absurd at
of-deleted (rec.Delete id by) deleted (inl e) = (ap Some e, ap (λ (d : RowId × ℕ). d.0) e)
of-deleted (rec.Delete id by) deleted (inr never) = absurd never

only-one : {X : Type 0} (x y : X) → IsIn x (y ∷ []) → y ≡ x
only-one x y (inl e) = e
only-one x y (inr none) = absurd none

-- ---- a major job at work

module _ (book : List Entry) (now : Table) (files : disk.Tree) (n mark : ℕ) (by : IsWorkOf book now files n mark) (named : List DirFile)
    (listed : AreListed (places_of now.info.table files) named) (part : List DirFile)
    (its : AreListed (filter (is_part by.job.partition) (places_of now.info.table files)) part) where
  abbrev shape : Shape
  shape = now.info.shape

  abbrev writes : List Written
  writes = now.writes

  abbrev partition : List ℕ
  partition = by.job.partition

  abbrev list : WriteIds
  list = taken.list book now files n mark by

  abbrev sight : Sight
  sight = sight_of list

  abbrev tree : Tree Found
  tree = taken.tree book now files n mark by named listed

  abbrev Chosen : Bool → DirName → Type 0
  Chosen deletes called = IsChosen book now files n mark by named listed deletes called

  abbrev made_of : DirFile → List Rec
  made_of file = recs_made (made_recs (state_of book) file.place)

  abbrev recs_named : DirName → ℕ → List Rec
  recs_named called bucket = name_recs shape writes partition called bucket

  abbrev those : Bool → ℕ → List DirFile
  those deletes bucket = taken_in kind.Major bucket (files_taken deletes list part)

  sound : IsSoundBook (state_of book)
  sound = books-are-sound profile book by.fit

  routed : AllByRecursion (IsRoutedWrite shape) writes
  routed = (all-numbered HasSoundWrites (state_of book).tables now.info.table.0 now by.here sound.base.tables.written).each

  encoded : AllByRecursion (IsEncoded shape) writes
  encoded = all-numbered AreEncoded (state_of book).tables now.info.table.0 now by.here by.standing.encoded

  -- ---- the record of a row

  -- a row that a write inserted in the partition
  record IsRow (row : Found) : Type 0 where
    write : Written
    among : IsIn write writes
    put : IsIn row write.inserts
    here : row.partition ≡ partition

  record IsRowRec (bucket : ℕ) (r : Rec) : Type 0 where
    row : Found
    it : IsRow row
    bucket_is : row.id.bucket ≡ bucket
    same : insert_record shape row ≡ r

  row-rec : (w : Written) (bucket : ℕ) (r : Rec) → IsIn w writes → (rows : List Found) → ((row : Found) → IsIn row rows → IsIn row w.inserts)
      → IsIn r (map (insert_record shape) (filter (stands_in partition bucket) rows)) → IsRowRec bucket r
  row-rec w bucket r among rows within at =
      let row = from-map (insert_record shape) r (filter (stands_in partition bucket) rows) at in
      let kept = from-filter (stands_in partition bucket) row.0 rows row.1 in
      let both = and_parts (pointwise nat_eq row.0.partition partition) (row.0.id.bucket == bucket) kept.1 in
      record {
        row = row.0;
        it = record { write = w; among = among; put = within row.0 kept.0; here = same-text row.0.partition partition both.0 };
        bucket_is = eqb-true row.0.id.bucket bucket both.1;
        same = row.2;
      }

  delta-row : (d : Delta) (bucket : ℕ) (r : Rec) → IsIn r (delta_recs shape writes partition false d bucket) → IsRowRec bucket r
  unfolding delta_recs
  delta-row d bucket r at =
      let w = from-flat (records_of shape false partition bucket) r (filter (has_written d) writes)
      (from-sorted rec_cmp r (flat_map (records_of shape false partition bucket) (filter (has_written d) writes)) at) in
      row-rec w.0 bucket r (from-filter (has_written d) w.0 writes w.1).0 w.0.inserts (λ row put. put) w.2

  base-row : (high bucket : ℕ) (r : Rec) → IsIn r (base_recs shape writes partition high bucket) → IsRowRec bucket r
  unfolding base_recs content_of
  base-row high bucket r at =
      let row = from-map (insert_record shape) r (filter (stands_in partition bucket) (rows_up_to writes high)) at in
      let kept = from-filter (stands_in partition bucket) row.0 (rows_up_to writes high) row.1 in
      let both = and_parts (pointwise nat_eq row.0.partition partition) (row.0.id.bucket == bucket) kept.1 in
      let ups = filter (is_up_to high) writes in
      let rows = flat_map (λ (w : Written). w.inserts) ups in
      let left = from-filter (λ (f : Found). not (is_deleted ups f)) row.0 rows
      (from-sorted found_cmp row.0 (filter (λ (f : Found). not (is_deleted ups f)) rows) kept.0) in
      let of = from-flat (λ (w : Written). w.inserts) row.0 ups left.0 in
      record {
        row = row.0;
        it = record {
          write = of.0;
          among = (from-filter (is_up_to high) of.0 writes of.1).0;
          put = of.2;
          here = same-text row.0.partition partition both.0;
        };
        bucket_is = eqb-true row.0.id.bucket bucket both.1;
        same = row.2;
      }

  row-of-rec : (called : DirName) (bucket : ℕ) (r : Rec) → has_deletes called ≡ false → IsIn r (recs_named called bucket) → IsRowRec bucket r
  row-of-rec (name.Base high) bucket r rows at = base-row high.0 bucket r at
  row-of-rec (name.Own false write statement) bucket r rows at = delta-row (Own write.0 statement) bucket r at
  row-of-rec (name.Own true write statement) bucket r rows at = absurd (true≢false rows)
  row-of-rec (name.Wide false low high) bucket r rows at = delta-row (Wide low.0 high.0) bucket r at
  row-of-rec (name.Wide true low high) bucket r rows at = absurd (true≢false rows)
  row-of-rec (name.Staged job text) bucket r rows at = absurd at

  -- a delete is of its bucket
  delta-delete : (d : Delta) (bucket : ℕ) (r : Rec) → IsIn r (delta_recs shape writes partition true d bucket) → (record_id r).bucket ≡ bucket
  unfolding delta_recs
  delta-delete d bucket r at =
      let w = from-flat (records_of shape true partition bucket) r (filter (has_written d) writes)
      (from-sorted rec_cmp r (flat_map (records_of shape true partition bucket) (filter (has_written d) writes)) at) in
      let row = from-map (delete_record w.0.write) r (filter (stands_in partition bucket) w.0.deletes) w.2 in
      let kept = from-filter (stands_in partition bucket) row.0 w.0.deletes row.1 in
      let both = and_parts (pointwise nat_eq row.0.partition partition) (row.0.id.bucket == bucket) kept.1 in
      ap (λ (x : Rec). (record_id x).bucket) (sym row.2) ∙ eqb-true row.0.id.bucket bucket both.1

  delete-bucket : (d : Delta) (bucket : ℕ) (r : Rec) → IsIn r (recs_named (delta_name true d) bucket) → (record_id r).bucket ≡ bucket
  delete-bucket (Own write statement) bucket r at = delta-delete (Own write statement) bucket r at
  delete-bucket (Wide low high) bucket r at = delta-delete (Wide low high) bucket r at

  -- ---- its row is read again

  insert-again : (row : Found) → IsRow row → inserted_by shape partition (insert_record shape row) ≡ row ∷ []
  insert-again row it =
      let k = length shape.columns in
      let values = row.row.values in
      let said : IsSaid shape row = all-in (IsSaid shape) it.write.inserts row (all-in (IsEncoded shape) writes it.write encoded it.among).said it.put in
      let is : row.partition ≡ partition_of shape row.row =
      (numbered-in partition shape it.write row (all-in (IsRoutedWrite shape) writes it.write routed it.among) it.put).partition_is in
      let parts : partition_values shape.parts partition ≡ drop k values =
      ap (partition_values shape.parts) (sym it.here ∙ is) ∙ text-says shape.parts (drop k values) said in
      let whole : take k values ++ partition_values shape.parts partition ≡ values =
      ap (λ (vs : List Value). take k values ++ vs) parts ∙ take-append-drop k values in
      λ i. record { partition = sym it.here i; id = row.id; row = record { values = whole i } } ∷ []

  -- ---- rows of one identifier are one

  rows-one : (a b : Found) → IsRow a → IsRow b → by_id id_of a b ≡ Equal → a ≡ b
  rows-one a b of_a of_b tie =
      keyed-distinct (by_id id_of) (inserts_of (writes_of partition writes)) found-id-total apart a b (row-in a of_a) (row-in b of_b) tie
    where
      apart : HasNoTies (by_id id_of) (inserts_of (writes_of partition writes))
      apart =
          subst (λ (ws : List (Write Found)). HasNoTies (by_id id_of) (inserts_of ws)) (ap (λ o. writes_of partition (written_in o)) by.here)
          (kept book now files n mark by named listed).distinct

      row-in : (row : Found) → IsRow row → IsIn row (inserts_of (writes_of partition writes))
      row-in row it =
          in-flat (λ (w : Write Found). w.inserts) (write_in partition it.write) row (writes_of partition writes)
          (in-map (write_in partition) it.write writes it.among)
          (in-filter (is_of partition) row it.write.inserts it.put (text-same row.partition partition it.here))

  -- ---- what the chosen directories hold

  abbrev IsHeld : Found → Type 0
  IsHeld row = (called : DirName) × Chosen false called × IsIn row (rows_held file_read now.info partition files called)

  base-held : (b : ℕ) → base_chosen sight tree ≡ b → (row : Found) → IsIn row (base_rows tree b) → IsHeld row
  base-held zero is row at = absurd at
  base-held (suc m) is row at = (base_name (suc m), inl (m, is, refl), at)

  held-by : (row : Found) → IsIn row (records_read sight tree) → IsHeld row
  held-by row at = elim (in-either row (base_rows tree (base_chosen sight tree)) (flat_map tree.inserts (deltas_chosen sight tree)) at) [
    | inl base ↦ base-held (base_chosen sight tree) refl row base
    | inr delta ↦ let d = from-flat tree.inserts row (deltas_chosen sight tree) delta in (delta_name false d.0, inr (d.0, d.1, refl), d.2)
  ]

  in-base : (b m : ℕ) → b ≡ suc m → (row : Found) → IsIn row (rows_held file_read now.info partition files (base_name (suc m))) → IsIn row (base_rows tree b)
  in-base zero m e row at = cc
  in-base (suc k) m e row at = subst (λ (j : ℕ). IsIn row (rows_held file_read now.info partition files (base_name j))) (sym e) at

  by-held : (row : Found) → IsHeld row → IsIn row (records_read sight tree)
  by-held row (called, inl (m, is, same), at) =
      in-left row (base_rows tree (base_chosen sight tree)) (flat_map tree.inserts (deltas_chosen sight tree))
      (in-base (base_chosen sight tree) m is row (subst (λ (k : DirName). IsIn row (rows_held file_read now.info partition files k)) (sym same) at))
  by-held row (called, inr (d, among, same), at) =
      in-right row (base_rows tree (base_chosen sight tree)) (flat_map tree.inserts (deltas_chosen sight tree))
      (in-flat tree.inserts d row (deltas_chosen sight tree) among
      (subst (λ (k : DirName). IsIn row (rows_held file_read now.info partition files k)) (sym same) at))

  -- a row that is read has its record in a file that is taken
  record IsFiled (row : Found) : Type 0 where
    it : IsRow row
    called : DirName
    is_chosen : Chosen false called
    among : IsIn (insert_record shape row) (recs_named called row.id.bucket)

  filed-row : (row : Found) → IsIn row (records_read sight tree) → IsFiled row
  filed-row row at =
      let held = held-by row at in
      let r = from-flat (inserted_by shape partition) row (recs_in file_read false files (dir_of now.info partition held.0)) held.2 in
      let of = recs-read book now files n mark by named listed false held.0 held.1 r.0 r.1 in
      let one = row-of-rec held.0 of.0 r.0 (chosen-kind book now files n mark by named listed false held.0 held.1) of.1 in
      let same : one.row ≡ row =
      only-one row one.row (subst (IsIn row) (ap (inserted_by shape partition) (sym one.same) ∙ insert-again one.row one.it) r.2) in
      let filed : IsIn (insert_record shape one.row) (recs_named held.0 one.row.id.bucket) =
      subst (λ (b : ℕ). IsIn (insert_record shape one.row) (recs_named held.0 b)) (sym one.bucket_is)
      (subst (λ (x : Rec). IsIn x (recs_named held.0 of.0)) (sym one.same) of.1) in
      record {
        it = subst IsRow same one.it;
        called = held.0;
        is_chosen = held.1;
        among = subst (λ (x : Found). IsIn (insert_record shape x) (recs_named held.0 x.id.bucket)) same filed;
      }

  -- and the other way round
  row-read : (called : DirName) → Chosen false called → (bucket : ℕ) (one : Found) → IsRow one → IsIn (insert_record shape one) (recs_named called bucket)
      → IsIn one (records_read sight tree)
  row-read called is_chosen bucket one it at =
      by-held one (
        called,
        is_chosen,
        in-flat (inserted_by shape partition) (insert_record shape one) one (recs_in file_read false files (dir_of now.info partition called))
            (read-recs book now files n mark by named listed false called is_chosen bucket (insert_record shape one) at)
            (subst (IsIn one) (sym (insert-again one it)) (inl refl)),
      )

  module _ (bucket : ℕ) where
    -- a file that is taken in the bucket
    from-those : (deletes : Bool) (file : DirFile) → IsIn file (those deletes bucket) → IsIn file (files_taken deletes list part) × (file.place.bucket ≡ bucket)
    from-those deletes file at =
        let kept = from-filter (is_taken kind.Major bucket) file (files_taken deletes list part) at in
        (kept.0, eqb-true file.place.bucket bucket (and_parts (file.place.bucket == bucket) true kept.1).0)

    to-those : (deletes : Bool) (file : DirFile) → IsIn file (files_taken deletes list part) → file.place.bucket ≡ bucket → IsIn file (those deletes bucket)
    to-those deletes file at same =
        in-filter (is_taken kind.Major bucket) file (files_taken deletes list part) at
        (and_from (file.place.bucket == bucket) true (ap (λ (b : ℕ). b == bucket) same ∙ number-same bucket) refl)

    -- ---- deletes

    abbrev gone : List (RowId × ℕ)
    gone = flat_map deletes_in (map made_of (those true bucket))

    gone-read : (deleted : RowId × ℕ) → IsIn deleted gone → IsIn deleted (deletes_read sight tree)
    gone-read deleted at =
        let recs = from-flat deletes_in deleted (map made_of (those true bucket)) at in
        let file = from-map made_of recs.0 (those true bucket) recs.1 in
        let of = from-those true file.0 file.1 in
        let it = taken-of book now files n mark by named listed part its true file.0 of.0 in
        let r = from-option delete_of deleted recs.0 recs.2 in
        by_name (name_of file.0.dir) it.is_chosen file.0.place.bucket r.0 (subst (IsIn r.0) (sym file.2 ∙ it.recs_are) r.1) (deleted-of r.0 deleted r.2)
      where
        by_name : (called : DirName) → Chosen true called → (b : ℕ) (r : Rec) → IsIn r (recs_named called b) → IsIn deleted (deleted_by r)
            → IsIn deleted (deletes_read sight tree)
        by_name called (inl none) b r among it = absurd none
        by_name called (inr (d, chosen, same)) b r among it =
            in-flat tree.deletes d deleted (deletes_chosen sight tree) chosen
            (in-flat deleted_by r deleted (recs_in file_read true files (dir_of now.info partition (delta_name true d)))
            (read-recs book now files n mark by named listed true (delta_name true d) (inr (d, chosen, refl)) b r
            (subst (λ (k : DirName). IsIn r (recs_named k b)) (sym same) among)) it)

    read-gone : (deleted : RowId × ℕ) → IsIn deleted (deletes_read sight tree) → deleted.0.bucket ≡ bucket → IsIn deleted gone
    read-gone deleted at same =
        let d = from-flat tree.deletes deleted (deletes_chosen sight tree) at in
        let r = from-flat deleted_by deleted (recs_in file_read true files (dir_of now.info partition (delta_name true d.0))) d.2 in
        let of = recs-read book now files n mark by named listed true (delta_name true d.0) (inr (d.0, d.1, refl)) r.0 r.1 in
        let is = of-deleted r.0 deleted r.2 in
        let here : of.0 ≡ bucket = sym (delete-bucket d.0 of.0 r.0 of.1) ∙ ap (λ (id : RowId). id.bucket) is.1 ∙ same in
        let there = subst (λ (b : ℕ). IsIn r.0 (recs_named (delta_name true d.0) b)) here of.1 in
        let it = has-taken book now files n mark by named listed part its true (delta_name true d.0) (inr (d.0, d.1, refl)) bucket r.0 there in
        in-flat deletes_in (made_of it.file) deleted (map made_of (those true bucket))
        (in-map made_of it.file (those true bucket) (to-those true it.file it.taken it.bucket_is))
        (in-option delete_of r.0 deleted (made_of it.file) (subst (IsIn r.0) (sym it.recs_are) there) is.0)

    tied-bucket : (a b : RowId) → is_row a b ≡ true → a.bucket ≡ b.bucket
    tied-bucket a b tie = ap (λ (id : RowId). id.bucket) (tied_id a b (equal-by (row_id_cmp a b) tie))

    gone-same : (id : RowId) → id.bucket ≡ bucket → is_gone sight gone id ≡ is_gone sight (deletes_read sight tree) id
    gone-same id here =
        both-ways (is_gone sight gone id) (is_gone sight (deletes_read sight tree) id)
        (λ e.
        let deleted = in-any (names_it sight id) gone e in
        any-in (names_it sight id) deleted.0 (deletes_read sight tree) (gone-read deleted.0 deleted.1) deleted.2)
        (λ e.
        let deleted = in-any (names_it sight id) (deletes_read sight tree) e in
        let both = and_parts (sight.valid deleted.0.1) (is_row deleted.0.0 id) deleted.2 in
        any-in (names_it sight id) deleted.0 gone (read-gone deleted.0 deleted.1 (tied-bucket deleted.0.0 id both.1 ∙ here)) deleted.2)

    seen-same : (id : RowId) → id.bucket ≡ bucket → is_visible sight gone id ≡ is_visible sight (deletes_read sight tree) id
    seen-same id here = ap (λ (b : Bool). sight.valid (write_of id) && not b) (gone-same id here)

    -- ---- rows

    abbrev there : List Shown
    there = flat_map rows_in (map made_of (those false bucket))

    abbrev left : List Shown
    left = visible_among merge.id_of sight gone there

    abbrev seen : List Found
    seen = visible_rows id_of sight tree

    -- what is left is a row that is seen
    record IsSeen (x : Shown) : Type 0 where
      row : Found
      it : IsRow row
      same : insert_record shape row ≡ inserted x
      here : row.id.bucket ≡ bucket
      among : IsIn row seen

    row-seen : (x : Shown) → IsIn x left → IsSeen x
    row-seen x at =
        let shown = from-filter (λ (one : Shown). is_visible sight gone (merge.id_of one)) x there at in
        let recs = from-flat rows_in x (map made_of (those false bucket)) shown.0 in
        let file = from-map made_of recs.0 (those false bucket) recs.1 in
        let of = from-those false file.0 file.1 in
        let it = taken-of book now files n mark by named listed part its false file.0 of.0 in
        let r = from-option row_of x recs.0 recs.2 in
        let among : IsIn r.0 (recs_named (name_of file.0.dir) file.0.place.bucket) = subst (IsIn r.0) (sym file.2 ∙ it.recs_are) r.1 in
        let one = row-of-rec (name_of file.0.dir) file.0.place.bucket r.0
        (chosen-kind book now files n mark by named listed false (name_of file.0.dir) it.is_chosen) among in
        let same : insert_record shape one.row ≡ inserted x = one.same ∙ sym (row-again r.0 x r.2) in
        let ids : one.row.id ≡ x.id = ap record_id same in
        let here : one.row.id.bucket ≡ bucket = one.bucket_is ∙ of.1 in
        let visible : is_visible sight (deletes_read sight tree) one.row.id ≡ true =
        sym (seen-same one.row.id here) ∙ ap (λ (id : RowId). is_visible sight gone id) ids ∙ shown.1 in
        record {
          row = one.row;
          it = one.it;
          same = same;
          here = here;
          among = in-filter (λ (f : Found). is_visible sight (deletes_read sight tree) (id_of f)) one.row (records_read sight tree)
              (row-read (name_of file.0.dir) it.is_chosen file.0.place.bucket one.row one.it
              (subst (λ (y : Rec). IsIn y (recs_named (name_of file.0.dir) file.0.place.bucket)) (sym one.same) among))
              visible;
        }

    abbrev as_shown : Found → Shown
    as_shown row = record { id = row.id; row = stored shape row.row }

    -- and a row that is seen is left
    seen-left : (row : Found) → IsIn row seen → row.id.bucket ≡ bucket → IsIn (as_shown row) left
    seen-left row at here =
        let shown = from-filter (λ (f : Found). is_visible sight (deletes_read sight tree) (id_of f)) row (records_read sight tree) at in
        let of = filed-row row shown.0 in
        let among : IsIn (insert_record shape row) (recs_named of.called bucket) =
        subst (λ (b : ℕ). IsIn (insert_record shape row) (recs_named of.called b)) here of.among in
        let it = has-taken book now files n mark by named listed part its false of.called of.is_chosen bucket (insert_record shape row) among in
        in-filter (λ (one : Shown). is_visible sight gone (merge.id_of one)) (as_shown row) there
        (in-flat rows_in (made_of it.file) (as_shown row) (map made_of (those false bucket))
        (in-map made_of it.file (those false bucket) (to-those false it.file it.taken it.bucket_is))
        (in-option row_of (insert_record shape row) (as_shown row) (made_of it.file) (subst (IsIn (insert_record shape row)) (sym it.recs_are) among) refl))
        (seen-same row.id here ∙ shown.1)

    seen-keyed : Keyed (by_id id_of) seen
    seen-keyed a b at_a at_b tie =
        let first = from-filter (λ (f : Found). is_visible sight (deletes_read sight tree) (id_of f)) a (records_read sight tree) at_a in
        let second = from-filter (λ (f : Found). is_visible sight (deletes_read sight tree) (id_of f)) b (records_read sight tree) at_b in
        rows-one a b (filed-row a first.0).it (filed-row b second.0).it tie

    left-keyed : Keyed (by_id merge.id_of) left
    left-keyed x y at_x at_y tie =
        let first = row-seen x at_x in
        let second = row-seen y at_y in
        let ids : row_id_cmp first.row.id second.row.id ≡ row_id_cmp x.id y.id =
        λ i. row_id_cmp (record_id (first.same i)) (record_id (second.same i)) in
        let one : first.row ≡ second.row = rows-one first.row second.row first.it second.it (ids ∙ tie) in
        let recs : inserted x ≡ inserted y = sym first.same ∙ ap (insert_record shape) one ∙ second.same in
        one_value x y (ap row_of recs)

    module _ (truth : AllTruthful nothing_yet book) where
      abbrev high : ℕ
      high = (pieces_for (state_of book) by.job).high

      abbrev base : List Rec
      base = base_recs shape writes partition high bucket

      abbrev shown_there : List Found
      shown_there = filter (in_bucket bucket) (rising_by (by_id id_of) seen)

      given : map (insert_record shape) shown_there ≡ base
      given =
          major-jobs-gather file_read book now partition files tree n mark by.job bucket (of-book book now files n mark by named listed) truth by.at by.mine by.working
          by.picked

      up : Rises rec_cmp base
      up =
          subst (Rises rec_cmp) given
          (rises-mapped (by_id id_of) rec_cmp (insert_record shape) (λ a b. refl) shown_there
          (rises-kept (by_id id_of) (in_bucket bucket) (rising_by (by_id id_of) seen) (rises-rising (by_id id_of) found-id-total seen)))

      left-in : (r : Rec) → IsIn r (map inserted (rising_by (by_id merge.id_of) left)) → IsIn r base
      left-in r at =
          let x = from-map inserted r (rising_by (by_id merge.id_of) left) at in
          let of = row-seen x.0 (from-rising (by_id merge.id_of) x.0 left x.1) in
          subst (IsIn r) given
          (subst (λ (y : Rec). IsIn y (map (insert_record shape) shown_there)) (of.same ∙ x.2)
          (in-map (insert_record shape) of.row shown_there
          (in-filter (in_bucket bucket) of.row (rising_by (by_id id_of) seen) (to-rising (by_id id_of) of.row seen seen-keyed of.among)
          (ap (λ (b : ℕ). b == bucket) of.here ∙ number-same bucket))))

      base-in : (r : Rec) → IsIn r base → IsIn r (map inserted (rising_by (by_id merge.id_of) left))
      base-in r at =
          let row = from-map (insert_record shape) r shown_there (subst (IsIn r) (sym given) at) in
          let kept = from-filter (in_bucket bucket) row.0 (rising_by (by_id id_of) seen) row.1 in
          let one = seen-left row.0 (from-rising (by_id id_of) row.0 seen kept.0) (eqb-true row.0.id.bucket bucket kept.1) in
          subst (λ (y : Rec). IsIn y (map inserted (rising_by (by_id merge.id_of) left))) row.2
          (in-map inserted (as_shown row.0) (rising_by (by_id merge.id_of) left) (to-rising (by_id merge.id_of) (as_shown row.0) left left-keyed one))

      pub major-merges : map inserted (merged list (map made_of (those false bucket)) (map made_of (those true bucket))) ≡ base
      unfolding merged
      major-merges =
          one-list rec_cmp rec-total (map inserted (rising_by (by_id merge.id_of) left)) base
          (rises-mapped (by_id merge.id_of) rec_cmp inserted (λ a b. refl) (rising_by (by_id merge.id_of) left)
          (rises-rising (by_id merge.id_of) shown-id-total left))
          up left-in base-in
