-- Where all files that an open transaction takes of a table stand in own directories, those of a kind and of the rows, each of them has just
-- the records of one write in its bucket, and each row of a write has its file.
use Rattle.std.proofs.Common.{refl, ◌≡◌, inl, inr, ℕ, zero, suc, ◌<◌, ◌==◌, ◌&&◌, nat_eq, Bool, true, false, cond, Some, None, List, [], ◌∷◌, ◌++◌, filter, map, take, length, sym, ap, ◌∙◌, subst, arith, eqb-true, eq-eqb}
use Rattle.std.specs.declared.cmp.Ordering.{Ordering}
use Rattle.std.specs.declared.cmp.Ordering.TheVariants.{Less, Equal, Greater}
use Rattle.std.specs.Cmp.Lexicographic.{pointwise}
use Rattle.std.specs.FinMap as finmap
use Rattle.std.specs.List.{flat_map, AllByRecursion}
use Rattle.std.proofs.lemmas.Bool.{and_parts, false_from_ne_true}
use Rattle.std.proofs.lemmas.List.{append-nil}
use Rattle.hv_base.specs.Sorting.{placed_by, put_by, sorted_by}
use Rattle.hv_base.specs.declared.ids.RowId.{RowId}
use Rattle.hv_shelf.specs.declared.place.Place.{Place}
use Rattle.hv_shelf.specs.Disk as disk
use Rattle.hv_shelf.specs.Disk.{places_of}
use Rattle.hv_logic.specs.declared.catalog.Shape.{Shape}
use Rattle.hv_logic.specs.declared.catalog.TableInfo.{TableInfo}
use Rattle.hv_logic.specs.declared.effect.Found.{Found}
use Rattle.hv_route.specs.Standing.{insert_record, delete_record, stands_in}
use Rattle.hv_rowfile.specs.declared.record.Rec.{Rec}
use Rattle.hv_rowfile.specs.declared.record.Rec.TheVariants as rec
use Rattle.hv_rowfile.specs.Layout.{file_spelling}
use Rattle.hv_wids.specs.WriteIds.{WriteIds, is_valid}
use Rattle.hv_dirs.specs.Names.{text_of}
use Rattle.hv_dirs.specs.Choice.{Delta, Own, sight_of, chosen_above, delta_cmp}
use Rattle.hv_history.specs.declared.entry.Entry.{Entry}
use Rattle.hv_history.specs.declared.state.Table.{Table}
use Rattle.hv_history.specs.declared.state.Written.{Written}
use Rattle.hv_history.specs.State.{numbered, state_of}
use Rattle.hv_history.specs.Legal.{profile}
use Rattle.hv_earlier.specs.Lists as lists
use Rattle.hv_stands.specs.Files.{own_dir, records_of}
use Rattle.hv_stands.specs.Sound.{HasOther, AreApart, IsRoutedWrite, HasSoundWrites}
use Rattle.hv_stands.proofs.Numbers.{one_value}
use Rattle.hv_stands.proofs.Soundness.{all-numbered}
use Rattle.hv_choosing.specs.declared.dir.Dir.{Dir}
use Rattle.hv_choosing.specs.declared.dir.Dir.TheVariants as listed_dir
use Rattle.hv_choosing.specs.declared.listing.DirFile.{DirFile}
use Rattle.hv_choosing.specs.Dirs.{name_of}
use Rattle.hv_choosing.specs.Laws.{IsOwnDir, IsOwnFile}
use Rattle.hv_choosing.specs.Listing.{AreListed}
use Rattle.hv_choosing.specs.Taken.{delta_name, files_taken}
use Rattle.hv_law_whole.specs.hv_law_directories.specs.hv_table_rows.specs.Reading.{Sheet, sheet_file, partition_in, IsSheet}
use Rattle.hv_law_whole.specs.hv_law_directories.specs.hv_table_rows.proofs.ReadContent.{wanted-all}
use Rattle.hv_law_whole.specs.hv_law_directories.specs.hv_table_rows.proofs.Shown.{one-write}
use Rattle.hv_law_visible.specs.Members.{IsIn}
use Rattle.hv_law_visible.specs.History.{Write, has_write, by_deleter}
use Rattle.hv_law_visible.specs.Visible.{base_chosen, writes_shown}
use Rattle.hv_law_visible.specs.Readers.{IsPast}
use Rattle.hv_law_visible.specs.Stands.{Fits, Stand}
use Rattle.hv_law_visible.specs.Snapshots.{IsUndone}
use Rattle.hv_law_visible.proofs.MemberLemmas.{in-left, in-map, from-map, from-flat, in-filter, from-filter}
use Rattle.hv_law_visible.proofs.OrderLemmas.{ordered-sorted}
use Rattle.hv_law_visible.proofs.ReachedLemmas.{read, has-own}
use Rattle.hv_law_visible.proofs.SortingLemmas.{from-sorted}
use Rattle.hv_law_visible.proofs.TakenLemmas.{all-in}
use Rattle.hv_law_published.specs.State as published
use Rattle.hv_law_published.specs.State.{IsKept}
use Rattle.hv_law_published.proofs.RetiredLemmas.{greatest, stand-sorted}
use Rattle.hv_law_published.proofs.StateLemmas.{list-fits}
use Rattle.hv_law_whole.specs.hv_law_directories.specs.hv_law_partitions.specs.Partitions.{id_of, is_of, rows_of, write_in, writes_of, written_in}
use Rattle.hv_law_whole.specs.hv_law_directories.specs.hv_law_partitions.proofs.ContentLemmas.{of-text}
use Rattle.hv_law_whole.specs.hv_law_directories.specs.hv_law_partitions.proofs.IdLemmas.{numbered-in}
use Rattle.hv_law_whole.specs.hv_law_directories.specs.hv_law_partitions.proofs.SinceLemmas.{shown-then-so}
use Rattle.hv_law_whole.specs.hv_law_directories.specs.Reading.{file_read}
use Rattle.hv_law_whole.specs.hv_law_directories.specs.Directories.{dir_of, base_name, recs_in, inserted_by, deleted_by}
use Rattle.hv_law_whole.specs.hv_law_directories.proofs.DirLemmas.{in-dir}
use Rattle.hv_law_whole.specs.hv_law_directories.proofs.ReadingLemmas.{can-be-read}
use Rattle.hv_law_whole.specs.hv_law_directories.proofs.ChosenLemmas.{IsChosenName, stands, there-taken, rec-sheet}
use Rattle.hv_law_whole.specs.hv_law_made.specs.Made.{has_written, rec_cmp, delta_recs, some_or, name_file}
use Rattle.hv_law_whole.specs.hv_law_made.specs.Standing.{HasFile, is_live_table, is_live_at}
use Rattle.hv_law_whole.specs.hv_law_made.proofs.UnmadeLemmas.{IsOwnName}
use Rattle.hv_law_whole.specs.hv_law_made.proofs.BookLemmas.{books-are-sound}
use Rattle.hv_law_read.specs.Reading.{ReadsAt}
use Rattle.hv_law_read.proofs.NeedLemmas.{needed-stands}
use Rattle.hv_law_read.proofs.TakenLemmas.{IsReadBy, part, kept, opens, at-here, is-named, file-of, id-valid, there, later, read-by, listed-now, list-now, taken-is-needed}

-- ---- own directories

abbrev pub AreOwnFiles : List DirFile → Type 0
AreOwnFiles files = AllByRecursion IsOwnFile files

own-dir-is : (d : Dir) → IsOwnDir d → (deletes : Bool) × ((write : ℕ) × ((statement : ℕ) × (d ≡ listed_dir.Own deletes (record { 0 = write }) statement)))
own-dir-is (listed_dir.Base high) own = absurd own
own-dir-is (listed_dir.Own deletes write statement) own = (deletes, (write.0, (statement, refl)))
own-dir-is (listed_dir.Wide deletes low high) own = absurd own

-- a base's directory is no own one
base-not-own : (d : Dir) (high : ℕ) → name_of d ≡ base_name high → IsOwnDir d → ⊥
base-not-own (listed_dir.Base low) high e own = own
base-not-own (listed_dir.Own deletes write statement) high e own = cc
base-not-own (listed_dir.Wide deletes low last) high e own = own

-- the file that is made in an own directory has some records, of its kind
own-recs : (deletes : Bool) (recs others : List Rec) (kind : Bool) → some_or deletes recs None ≡ Some (kind, others) → (deletes ≡ kind) × (recs ≡ others) × ((r : Rec) × IsIn r others)
own-recs deletes [] others kind e = cc
own-recs deletes (r ∷ recs) others kind e =
    let same = one_value (deletes, r ∷ recs) (kind, others) e in
    let recs_are : r ∷ recs ≡ others = ap (λ (f : Bool × List Rec). f.1) same in
    (ap (λ (f : Bool × List Rec). f.0) same, recs_are, (r, subst (IsIn r) recs_are (inl refl)))

-- ---- of writes with ids of their own, one has what its directory holds

module _ {A : Type 0} (f : Written → List A) where
  never-written : (writes : List Written) (v : Written) → AllByRecursion (HasOther v.write) writes → flat_map f (filter (has_written (Own v.write v.statement)) writes) ≡ []
  never-written [] v apart = refl
  never-written (w ∷ writes) v apart =
      let other : (w.write == v.write) ≡ false = false_from_ne_true (w.write == v.write) (λ e. apart.0 (eqb-true w.write v.write e)) in
      ap (λ b. flat_map f (cond (b && (w.statement == v.statement)) (w ∷ filter (has_written (Own v.write v.statement)) writes)
      (filter (has_written (Own v.write v.statement)) writes))) other
      ∙ never-written writes v apart.1

  written-once : (writes : List Written) (v : Written) → AreApart writes → IsIn v writes → flat_map f (filter (has_written (Own v.write v.statement)) writes) ≡ f v
  written-once [] v apart at = absurd at
  written-once (w ∷ writes) v apart (inl same) =
      let mine : has_written (Own v.write v.statement) w ≡ true =
      (λ i. eq-eqb w.write v.write (ap (λ (x : Written). x.write) same) i && eq-eqb w.statement v.statement (ap (λ (x : Written). x.statement) same) i) in
      ap (λ b. flat_map f (cond b (w ∷ filter (has_written (Own v.write v.statement)) writes) (filter (has_written (Own v.write v.statement)) writes))) mine
      ∙ ap (λ xs. f w ++ xs) (never-written writes v (subst (λ (x : Written). AllByRecursion (HasOther x.write) writes) same apart.0))
      ∙ append-nil (f w) ∙ ap f same
  written-once (w ∷ writes) v apart (inr at) =
      let other : (w.write == v.write) ≡ false =
      false_from_ne_true (w.write == v.write) (λ e. all-in (HasOther w.write) writes v apart.0 at (sym (eqb-true w.write v.write e))) in
      ap (λ b. flat_map f (cond (b && (w.statement == v.statement)) (w ∷ filter (has_written (Own v.write v.statement)) writes)
      (filter (has_written (Own v.write v.statement)) writes))) other
      ∙ written-once writes v apart.1 at

-- ---- sorting keeps the length

module _ {A : Type 0} (cmp : A → A → Ordering) where
  put-by : (x y : A) (ys : List A) (o : Ordering) → length (put_by cmp x ys) ≡ suc (length ys)
      → length (placed_by cmp o x y ys (put_by cmp x ys)) ≡ suc (suc (length ys))
  put-by x y ys Less rest = refl
  put-by x y ys Equal rest = refl
  put-by x y ys Greater rest = ap suc rest

  put-length : (x : A) (ys : List A) → length (put_by cmp x ys) ≡ suc (length ys)
  put-length x [] = refl
  put-length x (y ∷ ys) = put-by x y ys (cmp x y) (put-length x ys)

  pub sorted-length : (xs : List A) → length (sorted_by cmp xs) ≡ length xs
  sorted-length [] = refl
  sorted-length (x ∷ xs) = put-length x (sorted_by cmp xs) ∙ ap suc (sorted-length xs)

-- ---- a write's place in a partition

abbrev pub place_in : ℕ → List ℕ → Bool → Written → ℕ → Place
place_in number partition deletes written bucket =
    record { table = record { 0 = number }; partition = partition; dir = own_dir deletes written.write written.statement; bucket = bucket }

-- the file has just the records of one write in its bucket
pub record IsOfWrite (info : TableInfo) (kind : Bool) (writes : List Written) (sheet : Sheet) : Type 0 where
  pub written : Written
  pub among : IsIn written writes
  pub dir : sheet.file.dir ≡ listed_dir.Own kind (record { 0 = written.write }) written.statement
  pub place : sheet.file.place ≡ place_in info.table.0 sheet.file.place.partition kind written sheet.file.place.bucket
  pub recs : sheet.recs ≡ sorted_by rec_cmp (records_of info.shape kind sheet.file.place.partition sheet.file.place.bucket written)

-- the row's file is there
pub record HasItsSheet (info : TableInfo) (kind : Bool) (writes : List Written) (sheets : List Sheet) (written : Written) (row : Found) : Type 0 where
  pub sheet : Sheet
  pub among : IsIn sheet sheets
  pub of : IsOfWrite info kind writes sheet
  pub same : of.written ≡ written
  pub partition_is : sheet.file.place.partition ≡ row.partition
  pub bucket_is : sheet.file.place.bucket ≡ row.id.bucket

abbrev pub changed_rows : Bool → Written → List Found
changed_rows false written = written.inserts
changed_rows true written = written.deletes

-- ---- a record of a row

abbrev ids_in : Rec → List RowId
ids_in (rec.Insert id values) = id ∷ []
ids_in (rec.Delete id by) = []

one-id : (a b : RowId) → IsIn b (a ∷ []) → a ≡ b
one-id a b (inl e) = e
one-id a b (inr none) = absurd none

one-deleted : (a b : RowId × ℕ) → IsIn b (a ∷ []) → a ≡ b
one-deleted a b (inl e) = e
one-deleted a b (inr none) = absurd none

-- its identifier, and with a delete its write
abbrev pub IsRecOfRow : Bool → Written → Found → Rec → Type 0
IsRecOfRow false v row r = IsIn row.id (ids_in r)
IsRecOfRow true v row r = IsIn (row.id, v.write) (deleted_by r)

inserted-of : (shape : Shape) (partition : List ℕ) (row : Found) (r : Rec) → IsIn row (inserted_by shape partition r) → IsIn row.id (ids_in r)
inserted-of shape partition row (rec.Insert id values) (inl e) = inl (ap (λ (f : Found). f.id) e)
inserted-of shape partition row (rec.Insert id values) (inr none) = absurd none
inserted-of shape partition row (rec.Delete id by) at = absurd at

deleted-of : (deleted : RowId × ℕ) (r : Rec) → IsIn deleted (deleted_by r) → IsIn deleted (deleted_by r)
deleted-of deleted r at = at

-- a record of a write in a bucket is of its row there: so it is of the row's write, and in the row's bucket
module _ (shape sound_shape : Shape) (kind : Bool) (v : Written) (v_routed : IsRoutedWrite sound_shape v) (w : Written) (w_routed : IsRoutedWrite sound_shape w) (row : Found) where
  same-row : IsIn row (changed_rows kind v) → (partition : List ℕ) (bucket : ℕ) (r : Rec) → IsIn r (records_of shape kind partition bucket w) → IsRecOfRow kind v row r
      → (w.write ≡ v.write) × (bucket ≡ row.id.bucket)
  same-row = by kind
    where
      by : (k : Bool) → IsIn row (changed_rows k v) → (partition : List ℕ) (bucket : ℕ) (r : Rec) → IsIn r (records_of shape k partition bucket w) → IsRecOfRow k v row r
          → (w.write ≡ v.write) × (bucket ≡ row.id.bucket)
      by false at partition bucket r among of =
          let there = from-map (insert_record shape) r (filter (stands_in partition bucket) w.inserts) among in
          let kept = from-filter (stands_in partition bucket) there.0 w.inserts there.1 in
          let stands_there = and_parts (pointwise nat_eq there.0.partition partition) (there.0.id.bucket == bucket) kept.1 in
          let same : there.0.id ≡ row.id = one-id there.0.id row.id (subst (λ (x : Rec). IsIn row.id (ids_in x)) (sym there.2) of) in
          let mine = numbered-in partition sound_shape v row v_routed at in
          let its = numbered-in partition sound_shape w there.0 w_routed kept.0 in
          let bucket_is : there.0.id.bucket ≡ bucket = eqb-true there.0.id.bucket bucket stands_there.1 in
          (sym its.write_is ∙ ap (λ (id : RowId). id.write.0) same ∙ mine.write_is, sym bucket_is ∙ ap (λ (id : RowId). id.bucket) same)
      by true at partition bucket r among of =
          let there = from-map (delete_record w.write) r (filter (stands_in partition bucket) w.deletes) among in
          let kept = from-filter (stands_in partition bucket) there.0 w.deletes there.1 in
          let stands_there = and_parts (pointwise nat_eq there.0.partition partition) (there.0.id.bucket == bucket) kept.1 in
          let same : (there.0.id, w.write) ≡ (row.id, v.write) =
          one-deleted (there.0.id, w.write) (row.id, v.write) (subst (λ (x : Rec). IsIn (row.id, v.write) (deleted_by x)) (sym there.2) of) in
          let bucket_is : there.0.id.bucket ≡ bucket = eqb-true there.0.id.bucket bucket stands_there.1 in
          (ap (λ (d : RowId × ℕ). d.1) same, sym bucket_is ∙ ap (λ (d : RowId × ℕ). d.0.bucket) same)

-- ---- a transaction that reads

module _ (book : List Entry) (txn place : ℕ) (table : Table) (files : disk.Tree) (at : ReadsAt book txn place table files) where
  abbrev number : ℕ
  number = table.info.table.0

  abbrev list : WriteIds
  list = lists.list_at book place number

  -- the writes of the table as it is
  sound-writes : HasSoundWrites (later book txn place table files at).0
  sound-writes =
      let by = read-by book txn place table files at in
      all-numbered HasSoundWrites (state_of book).tables (later book txn place table files at).0.info.table.0 (later book txn place table files at).0 by.here
      (books-are-sound profile book at.fit).base.tables.written

  -- what was written stays
  stays : (w : Written) → IsIn w table.writes → IsIn w (later book txn place table files at).0.writes
  stays w among =
      let front = (later book txn place table files at).2.writes in
      subst (IsIn w) (sym front.is) (in-left w table.writes front.more among)

  routed-then : (w : Written) → IsIn w table.writes → IsRoutedWrite (later book txn place table files at).0.info.shape w
  routed-then w among =
      let now = (later book txn place table files at).0 in
      all-in (IsRoutedWrite now.info.shape) now.writes w sound-writes.each (stays w among)

  -- under the list just the writes are shown that stood then
  shown : (partition : List ℕ) → writes_shown (sight_of list) (writes_of partition (later book txn place table files at).0.writes) ≡ writes_of partition table.writes
  shown partition =
      let last = later book txn place table files at in
      (λ i. writes_shown (sight_of (lists.list_at book (sym at.place_is i) number)) (writes_of partition (written_in (sym last.1 i))))
      ∙ shown-then-so profile book at.snapshot.place number partition at.fit
      ∙ (λ i. writes_of partition (written_in (numbered (state_of (take (at.place_is i) book)).tables number)))
      ∙ ap (λ o. writes_of partition (written_in o)) at.stood

  -- a write of a valid id stood then
  stood-then : (w : Written) → IsIn w (later book txn place table files at).0.writes → is_valid list w.write ≡ true → IsIn w table.writes
  stood-then w among valid =
      let last = (later book txn place table files at).0 in
      let here = in-filter (λ (v : Write Found). is_valid list v.write) (write_in [] w) (writes_of [] last.writes) (in-map (write_in []) w last.writes among) valid in
      let old = from-map (write_in []) (write_in [] w) table.writes (subst (IsIn (write_in [] w)) (shown []) here) in
      let one : old.0 ≡ w = one-write last.writes sound-writes.apart old.0 w (stays old.0 old.1) among (ap (λ (v : Write Found). v.write) old.2) in
      subst (λ (v : Written). IsIn v table.writes) one old.1

  -- and its id is valid
  valid-then : (w : Written) → IsIn w table.writes → is_valid list w.write ≡ true
  valid-then w among =
      let last = (later book txn place table files at).0 in
      (from-filter (λ (v : Write Found). is_valid list v.write) (write_in [] w) (writes_of [] last.writes)
      (subst (IsIn (write_in [] w)) (sym (shown [])) (in-map (write_in []) w table.writes among))).1

  module _ (kind : Bool) (named : List DirFile) (listed : AreListed (places_of table.info.table files) named) (sheets : List Sheet)
      (are : map sheet_file sheets ≡ files_taken kind list named) (each : AllByRecursion (IsSheet kind files) sheets)
      (own : AreOwnFiles (files_taken kind list named)) (own_rows : AreOwnFiles (files_taken false list named)) where
    taken-of : (sheet : Sheet) → IsIn sheet sheets → IsIn sheet.file (files_taken kind list named)
    taken-of sheet h = subst (IsIn sheet.file) are (in-map sheet_file sheet sheets h)

    -- ---- a file is of a write

    module _ (sheet : Sheet) (h : IsIn sheet sheets) where
      abbrev now : Table
      now = (later book txn place table files at).0

      abbrev bucket : ℕ
      bucket = sheet.file.place.bucket

      now-listed : AreListed (places_of now.info.table files) named
      now-listed = listed-now book txn place table files at named listed

      taken-now : IsIn sheet.file (files_taken kind (lists.list_at book at.snapshot.place now.info.table.0) named)
      taken-now = subst (λ (l : WriteIds). IsIn sheet.file (files_taken kind l named)) (list-now book txn place table files at) (taken-of sheet h)

      of-made : (recs : List Rec) → sheet.recs ≡ recs → (deletes : Bool) (write statement : ℕ) → sheet.file.dir ≡ listed_dir.Own deletes (record { 0 = write }) statement
          → is_valid list write ≡ true
          → some_or deletes (delta_recs now.info.shape now.writes sheet.file.place.partition deletes (Own write statement) bucket) None ≡ Some (kind, recs)
          → sheet.file.place.dir ≡ own_dir deletes write statement → sheet.file.place.table.0 ≡ number → IsOfWrite table.info kind table.writes sheet
      unfolding delta_recs
      of-made recs same deletes write statement dir_is valid made text_is table_is =
          let info_is = (later book txn place table files at).2.info in
          let part_of = sheet.file.place.partition in
          let f = records_of now.info.shape deletes part_of bucket in
          let found = own-recs deletes (sorted_by rec_cmp (flat_map f (filter (has_written (Own write statement)) now.writes))) recs kind made in
          let r = found.2 in
          let among = from-sorted rec_cmp r.0 (flat_map f (filter (has_written (Own write statement)) now.writes)) (subst (IsIn r.0) (sym found.1) r.1) in
          let of = from-flat f r.0 (filter (has_written (Own write statement)) now.writes) among in
          let w : Written = of.0 in
          let kept_one = from-filter (has_written (Own write statement)) w now.writes of.1 in
          let ids = and_parts (w.write == write) (w.statement == statement) kept_one.1 in
          let write_is : w.write ≡ write = eqb-true w.write write ids.0 in
          let statement_is : w.statement ≡ statement = eqb-true w.statement statement ids.1 in
          record {
            written = w;
            among = stood-then w kept_one.0 (subst (λ n. is_valid list n ≡ true) (sym write_is) valid);
            dir = dir_is ∙ (λ i. listed_dir.Own (found.0 i) (record { 0 = sym write_is i }) (sym statement_is i));
            place = λ i. record {
              table = record { 0 = table_is i };
              partition = part_of;
              dir = (text_is ∙ (λ j. own_dir (found.0 j) (sym write_is j) (sym statement_is j))) i;
              bucket = bucket;
            };
            recs = same ∙ sym found.1
                ∙ (λ i. sorted_by rec_cmp (flat_map f (filter (has_written (Own (sym write_is i) (sym statement_is i))) now.writes)))
                ∙ ap (sorted_by rec_cmp) (written-once f now.writes w sound-writes.apart kept_one.0)
                ∙ (λ i. sorted_by rec_cmp (records_of (info_is i).shape (found.0 i) part_of bucket w));
          }

      -- its records are those that the book makes there
      read-recs : (recs : List Rec) → HasFile kind bucket recs (finmap.get files sheet.file.place) → sheet.recs ≡ recs
      read-recs recs standing =
          let held = all-in (IsSheet kind files) sheets sheet each h in
          let bytes : file_spelling kind bucket sheet.recs ≡ file_spelling kind bucket recs =
          one_value (file_spelling kind bucket sheet.recs) (file_spelling kind bucket recs) (sym held.bytes ∙ standing.is ∙ ap Some standing.encodes.bytes_are) in
          sym (can-be-read kind bucket sheet.recs held.file) ∙ ap (file_read kind bucket) bytes ∙ can-be-read kind bucket recs standing.encodes.file

      of-own : (deletes : Bool) (write statement : ℕ) → sheet.file.dir ≡ listed_dir.Own deletes (record { 0 = write }) statement → IsOfWrite table.info kind table.writes sheet
      unfolding name_file
      of-own deletes write statement dir_is =
          let by = read-by book txn place table files at in
          let needed = taken-is-needed book txn place table files kind named sheet.file at listed (taken-of sheet h) in
          let made = file-of book now files txn by named now-listed kind sheet.file taken-now needed.recs needed.needed.made in
          let where_it = there book now files txn by named now-listed kind sheet.file taken-now in
          let live : is_live_at (state_of book) sheet.file.place ≡ true =
          ap is_live_table (at-here book now files txn by named now-listed kind sheet.file taken-now) ∙ by.live in
          let standing = needed-stands (state_of book) files txn at.transaction sheet.file.place kind needed.recs (books-are-sound profile book at.fit) at.stands
          at.here at.unended live needed.needed in
          let named_at = is-named book now files txn by named now-listed kind sheet.file taken-now in
          let valid = id-valid book now files txn by named now-listed kind sheet.file taken-now write
          (subst (λ (d : Dir). IsOwnName write (name_of d)) (sym dir_is) refl) in
          of-made needed.recs (read-recs needed.recs standing) deletes write statement dir_is
          (subst (λ (l : WriteIds). is_valid l write ≡ true) (sym (list-now book txn place table files at)) valid)
          (subst (λ (d : Dir). name_file now.info.shape now.writes sheet.file.place.partition (name_of d) bucket ≡ Some (kind, needed.recs)) dir_is made)
          (sym named_at.1 ∙ ap (λ (d : Dir). text_of (name_of d)) dir_is)
          (where_it.0 ∙ ap (λ (info : TableInfo). info.table.0) (later book txn place table files at).2.info)

      pub of-sheet : IsOfWrite table.info kind table.writes sheet
      of-sheet =
          let is = own-dir-is sheet.file.dir (all-in IsOwnFile (files_taken kind list named) sheet.file own (taken-of sheet h)) in
          of-own is.0 is.1.0 is.1.1.0 is.1.1.1

    -- ---- a row has its file

    module _ (v : Written) (among : IsIn v table.writes) (row : Found) (among_row : IsIn row (changed_rows kind v)) where
      abbrev last : Table
      last = (later book txn place table files at).0

      abbrev by : IsReadBy book (later book txn place table files at).0 files txn
      by = read-by book txn place table files at

      abbrev partition : List ℕ
      partition = row.partition

      last-listed : AreListed (places_of last.info.table files) named
      last-listed = listed-now book txn place table files at named listed

      abbrev its_part : published.State Found
      its_part = part book last files txn by named last-listed partition

      abbrev its_list : WriteIds
      its_list = lists.list_at book at.snapshot.place last.info.table.0

      its-kept : IsKept id_of its_part
      its-kept = kept book last files txn by named last-listed partition

      its-fits : Fits (sight_of its_list) (IsPast its_part.open_txns) (IsUndone its_part.fates) its_part.writes its_part.jobs
      its-fits = list-fits id_of its_part its_list its-kept (opens book last files txn by named last-listed partition)

      -- no base is chosen
      no-base : (top : ℕ) → base_chosen (sight_of its_list) its_part.tree ≡ top → top ≡ 0
      no-base zero is = refl
      no-base (suc m) is =
          let chosen : IsChosenName last.info its_list partition files named last-listed false (base_name (suc m)) = inl (m, is, refl) in
          let standing = stands last.info its_list partition files named last-listed false (base_name (suc m)) chosen in
          let file = standing.there.1 in
          let within = in-dir (dir_of last.info partition (base_name (suc m))) file.place file.within in
          let taken = there-taken last.info its_list partition files named last-listed false (base_name (suc m)) chosen file.place file.bytes
          within.table_is within.partition_is within.dir_is file.is in
          absurd (base-not-own taken.dir (suc m) taken.name_is
          (all-in IsOwnFile (files_taken false list named) (record { place = file.place; dir = taken.dir }) own_rows
          (subst (λ (l : WriteIds). IsIn (record { place = file.place; dir = taken.dir }) (files_taken false l named)) (sym (list-now book txn place table files at)) taken.taken)))

      abbrev w : Write Found
      w = write_in partition v

      among-part : IsIn w its_part.writes
      among-part =
          subst (λ o. IsIn w (writes_of partition (written_in o))) (sym by.here) (in-map (write_in partition) v last.writes (stays v among))

      valid : is_valid its_list v.write ≡ true
      valid = subst (λ (l : WriteIds). is_valid l v.write ≡ true) (list-now book txn place table files at) (valid-then v among)

      above : base_chosen (sight_of its_list) its_part.tree < v.write
      above =
          let none = no-base (base_chosen (sight_of its_list) its_part.tree) refl in
          let first = its-kept.sound.from_one w among-part in
          omega (arith, none, first)

      -- its event stands in a directory that is chosen
      read-of : {E : Type 0} (events : Write Found → List E) (deltas : List Delta) (held : Delta → List E)
          → Stand (IsPast its_part.open_txns) (IsUndone its_part.fates) its_part.jobs (λ d. flat_map events (filter (has_write d) its_part.writes)) deltas held
          → (e : E) → IsIn e (events w)
          → (c : Delta) × IsIn c (chosen_above (sight_of its_list) (base_chosen (sight_of its_list) its_part.tree) deltas) × IsIn e (held c)
      unfolding chosen_above
      read-of events deltas held stand e at_event =
          read events id_of its-kept.most (sight_of its_list) (IsPast its_part.open_txns) (IsUndone its_part.fates) its_part.writes its_part.jobs
          (sorted_by delta_cmp deltas) held (base_chosen (sight_of its_list) its_part.tree) (ordered-sorted deltas) its-kept.sound its-fits
          (stand-sorted id_of its-kept.most (sight_of its_list) (IsPast its_part.open_txns) (IsUndone its_part.fates) its_part.writes its_part.jobs its_part.tree
          its-kept.sound its-fits its-kept.stands deltas held (λ d. flat_map events (filter (has_write d) its_part.writes)) stand)
          (greatest id_of its-kept.most (sight_of its_list) (IsPast its_part.open_txns) (IsUndone its_part.fates) its_part.writes its_part.jobs its_part.tree
          its-kept.sound its-fits its-kept.stands)
          w e among-part at_event valid (Own v.write v.statement) tt (has-own w) above

      -- a record of that row in a file that was read
      pub record IsRowRec : Type 0 where
        pub sheet : Sheet
        pub taken : IsIn sheet sheets
        pub here : partition_in sheet ≡ partition
        pub r : Rec
        pub it : IsIn r sheet.recs
        pub of_row : IsRecOfRow kind v row r

      sheets-are : map sheet_file sheets ≡ files_taken kind its_list named
      sheets-are = are ∙ ap (λ (l : WriteIds). files_taken kind l named) (list-now book txn place table files at)

      row-rec : (k : Bool) → kind ≡ k → IsIn row (changed_rows k v) → IsRowRec
      row-rec false is at_row =
          let here = in-filter (is_of partition) row v.inserts at_row (of-text partition partition refl) in
          let c = read-of (λ (x : Write Found). x.inserts) its_part.tree.deltas its_part.tree.inserts its-kept.stands.deltas row here in
          let r = from-flat (inserted_by last.info.shape partition) row (recs_in file_read false files (dir_of last.info partition (delta_name false c.0))) c.2 in
          let found = rec-sheet last.info its_list partition files named last-listed (λ other. true) refl file_read can-be-read kind sheets
          (sheets-are ∙ sym (wanted-all (files_taken kind its_list named))) each (delta_name kind c.0)
          (subst (λ b. IsChosenName last.info its_list partition files named last-listed b (delta_name b c.0)) (sym is) (inr (c.0, c.1, refl))) r.0
          (subst (λ b. IsIn r.0 (recs_in file_read b files (dir_of last.info partition (delta_name b c.0)))) (sym is) r.1) in
          record {
            sheet = found.sheet;
            taken = found.among;
            here = found.here;
            r = r.0;
            it = found.it;
            of_row = subst (λ b. IsRecOfRow b v row r.0) (sym is) (inserted-of last.info.shape partition row r.0 r.2);
          }
      row-rec true is at_row =
          let here = in-map (λ (id : RowId). (id, v.write)) row.id (map id_of (rows_of partition v.deletes))
          (in-map id_of row (rows_of partition v.deletes) (in-filter (is_of partition) row v.deletes at_row (of-text partition partition refl))) in
          let c = read-of by_deleter its_part.tree.delete_deltas its_part.tree.deletes its-kept.stands.delete_deltas (row.id, v.write) here in
          let r = from-flat deleted_by (row.id, v.write) (recs_in file_read true files (dir_of last.info partition (delta_name true c.0))) c.2 in
          let found = rec-sheet last.info its_list partition files named last-listed (λ other. true) refl file_read can-be-read kind sheets
          (sheets-are ∙ sym (wanted-all (files_taken kind its_list named))) each (delta_name kind c.0)
          (subst (λ b. IsChosenName last.info its_list partition files named last-listed b (delta_name b c.0)) (sym is) (inr (c.0, c.1, refl))) r.0
          (subst (λ b. IsIn r.0 (recs_in file_read b files (dir_of last.info partition (delta_name b c.0)))) (sym is) r.1) in
          record {
            sheet = found.sheet;
            taken = found.among;
            here = found.here;
            r = r.0;
            it = found.it;
            of_row = subst (λ b. IsRecOfRow b v row r.0) (sym is) (deleted-of (row.id, v.write) r.0 r.2);
          }

      pub has-sheet : HasItsSheet table.info kind table.writes sheets v row
      has-sheet =
          let it = row-rec kind refl among_row in
          let of = of-sheet it.sheet it.taken in
          let r_there = from-sorted rec_cmp it.r (records_of table.info.shape kind it.sheet.file.place.partition it.sheet.file.place.bucket of.written)
          (subst (IsIn it.r) of.recs it.it) in
          let is = same-row table.info.shape last.info.shape kind v (routed-then v among) of.written (routed-then of.written of.among) row among_row
          it.sheet.file.place.partition it.sheet.file.place.bucket it.r r_there it.of_row in
          record {
            sheet = it.sheet;
            among = it.taken;
            of = of;
            same = one-write last.writes sound-writes.apart of.written v (stays of.written of.among) (stays v among) is.0;
            partition_is = it.here;
            bucket_is = is.1;
          }
