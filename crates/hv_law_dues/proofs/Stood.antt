-- The files of a table that are taken have as many records of a write id in a partition as its write has rows there.
use Rattle.std.proofs.Common.{◌≡◌, ℕ, ◌≤◌, ◌==◌, ◌&&◌, ◌⊎◌, inl, inr, Bool, true, false, List, [], ◌∷◌, filter, map, take, length, refl, sym, ap, ◌∙◌, subst, arith, eqb-true, eq-eqb}
use Rattle.std.specs.Prelude.{nat_eq}
use Rattle.std.specs.Cmp.Lexicographic.{pointwise}
use Rattle.std.specs.List.{AllByRecursion}
use Rattle.std.proofs.lemmas.Bool.{and_parts}
use Rattle.std.proofs.lemmas.List.{length-map}
use Rattle.std.proofs.lemmas.Slice.Eq.{bytes_eq-Decides}
use Rattle.hv_shelf.specs.declared.place.Place.{Place}
use Rattle.hv_shelf.specs.Places.{place_total}
use Rattle.hv_shelf.specs.Disk.{Tree, places_of}
use Rattle.hv_logic.specs.declared.catalog.Shape.{Shape}
use Rattle.hv_logic.specs.declared.catalog.TableInfo.{TableInfo}
use Rattle.hv_logic.specs.declared.effect.Found.{Found}
use Rattle.hv_route.specs.Standing.{insert_record, delete_record, stands_in}
use Rattle.hv_wids.specs.WriteIds.{WriteIds}
use Rattle.hv_history.specs.declared.entry.Entry.{Entry}
use Rattle.hv_history.specs.declared.state.Table.{Table}
use Rattle.hv_history.specs.declared.state.Written.{Written}
use Rattle.hv_history.specs.State.{state_of}
use Rattle.hv_earlier.specs.Lists.{list_at}
use Rattle.hv_book.specs.Past.{total, only_if}
use Rattle.hv_choosing.specs.declared.listing.DirFile.{DirFile}
use Rattle.hv_choosing.specs.Listing.{AreListed}
use Rattle.hv_choosing.specs.Taken.{files_taken}
use Rattle.hv_stands.specs.Files.{records_of}
use Rattle.hv_stands.specs.Sound.{HasOther, AreApart, HasSoundWrites}
use Rattle.hv_stands.proofs.Fitting.{fitting-sound, fronts-fit}
use Rattle.hv_stands.proofs.Numbers.{either}
use Rattle.hv_stands.proofs.Soundness.{all-numbered}
use Rattle.hv_table_rows.specs.Reading.{Sheet, sheet_file, IsSheet}
use Rattle.hv_table_rows.proofs.Members.{In, all-in}
use Rattle.hv_table_rows.proofs.TakenFiles.{tied}
use Rattle.hv_table_rows.proofs.Shown.{one-write}
use Rattle.hv_law_visible.specs.Members.{IsIn}
use Rattle.hv_law_read.specs.hv_law_whole.specs.hv_law_made.specs.Made.{rec_cmp}
use Rattle.hv_law_read.specs.Reading.{ReadsAt}
use Rattle.hv_law_read.proofs.OwnLemmas.{sorted-length, place_in, IsOfWrite, HasItsSheet, changed_rows, of-sheet, has-sheet}
use Rattle.hv_counts.specs.Counts.{is_own_of, is_stored, stored_at, stored_sum, AreOwn}
use Rattle.hv_law_dues.specs.Counting.{row_in, rows_in, rows_of, written_at, written_sum}
use Rattle.hv_law_dues.specs.Laws.{FilesAreCounted}
use Rattle.hv_law_dues.proofs.Totals.{total-map, total-none}
use Rattle.hv_law_dues.proofs.Counts.{total-among, total-most, total-one, total-turned, kept-count, at_place}
use Rattle.hv_law_dues.proofs.Places.{one-taken}
use Rattle.hv_law_dues.proofs.Dues.{truthful-front, book-dues}

same-text : (a b : List ℕ) → pointwise nat_eq a b ≡ true → a ≡ b
same-text a b e = (bytes_eq-Decides a b).0 e

-- ---- a write and its rows

same-rows : (deletes : Bool) (written : Written) → rows_of deletes written ≡ changed_rows deletes written
same-rows false written = refl
same-rows true written = refl

-- the records in a partition and bucket, row by row
abbrev stand_at : List ℕ → ℕ → Found → ℕ
stand_at partition bucket row = only_if (stands_in partition bucket row) 1

record-count : (shape : Shape) (deletes : Bool) (partition : List ℕ) (bucket : ℕ) (written : Written)
    → length (records_of shape deletes partition bucket written) ≡ total (stand_at partition bucket) (rows_of deletes written)
record-count shape false partition bucket written =
    length-map (filter (stands_in partition bucket) written.inserts) (insert_record shape) ∙ kept-count (stands_in partition bucket) written.inserts
record-count shape true partition bucket written =
    length-map (filter (stands_in partition bucket) written.deletes) (delete_record written.write) ∙ kept-count (stands_in partition bucket) written.deletes

not-same : (a b : ℕ) → (a ≡ b → ⊥) → (a == b) ≡ false
not-same a b apart = by (a == b) refl
  where
    by : (t : Bool) → (a == b) ≡ t → t ≡ false
    by true e = absurd (apart (eqb-true a b e))
    by false e = refl

module _ (deletes : Bool) (w : ℕ) (partition : List ℕ) where
  -- no write of this id
  abbrev HasNone : List Written → Type 0
  HasNone writes = (written : Written) → In written writes → (written.write == w) ≡ false

  none-written : (writes : List Written) → HasNone writes → written_sum deletes w partition writes ≡ 0
  none-written writes none =
      total-among (written_at deletes w partition) (λ (written : Written). 0) writes
      (λ written h. ap (λ b. only_if b (rows_in partition (rows_of deletes written))) (none written h))
      ∙ total-none (λ (written : Written). 0) (λ written. refl) writes

  one-written : (writes : List Written) (written : Written) → AreApart writes → In written writes → written.write ≡ w
      → written_sum deletes w partition writes ≡ rows_in partition (rows_of deletes written)
  one-written [] written apart h is = absurd h
  one-written (first ∷ writes) written apart (inl e) is =
      let own = ap (λ b. only_if b (rows_in partition (rows_of deletes first))) (eq-eqb first.write w (ap (λ (x : Written). x.write) e ∙ is)) in
      let rows = ap (λ (x : Written). rows_in partition (rows_of deletes x)) e in
      let none = none-written writes
      (λ other k. not-same other.write w
      (λ same. all-in (HasOther first.write) writes apart.0 other k (same ∙ sym (ap (λ (x : Written). x.write) e ∙ is)))) in
      omega (arith, own, rows, none)
  one-written (first ∷ writes) written apart (inr h) is =
      let none = ap (λ b. only_if b (rows_in partition (rows_of deletes first)))
      (not-same first.write w (λ same. all-in (HasOther first.write) writes apart.0 written h (is ∙ sym same))) in
      let rest = one-written writes written apart.1 h is in
      omega (arith, none, rest)

-- there is a write of this id, or none
some-or-none : (w : ℕ) (writes : List Written)
    → ((written : Written) × In written writes × (written.write ≡ w)) ⊎ ((written : Written) → In written writes → (written.write == w) ≡ false)
some-or-none w [] = inr (λ written h. absurd h)
some-or-none w (first ∷ writes) = by (either (first.write == w)) (some-or-none w writes)
  where
    by : ((first.write == w) ≡ true) ⊎ ((first.write == w) ≡ false)
        → ((written : Written) × In written writes × (written.write ≡ w)) ⊎ ((written : Written) → In written writes → (written.write == w) ≡ false)
        → ((written : Written) × In written (first ∷ writes) × (written.write ≡ w)) ⊎ ((written : Written) → In written (first ∷ writes) → (written.write == w) ≡ false)
    by (inl e) rest = inl (first, inl refl, eqb-true first.write w e)
    by (inr e) (inl found) = inl (found.0, inr found.1, found.2)
    by (inr e) (inr none) = inr (λ written h. of written h)
      where
        of : (written : Written) → In written (first ∷ writes) → (written.write == w) ≡ false
        of written (inl same) = ap (λ (x : Written). x.write == w) (sym same) ∙ e
        of written (inr h) = none written h

-- the files that were read of a kind, each of one write, and each row's
pub record AreOfWrites (info : TableInfo) (list : WriteIds) (files : Tree) (writes : List Written) (deletes : Bool) (named : List DirFile) (sheets : List Sheet) : Type 0 where
  pub listed : AreListed (places_of info.table files) named
  pub are : map sheet_file sheets ≡ files_taken deletes list named
  pub apart : AreApart writes
  pub of : (sheet : Sheet) → IsIn sheet sheets → IsOfWrite info deletes writes sheet
  pub has : (written : Written) → IsIn written writes → (row : Found) → IsIn row (changed_rows deletes written) → HasItsSheet info deletes writes sheets written row

module _ (info : TableInfo) (list : WriteIds) (files : Tree) (writes : List Written) (deletes : Bool) (named : List DirFile) (sheets : List Sheet)
    (known : AreOfWrites info list files writes deletes named sheets) where
  -- ---- a file that was read is one of a write

  own-is : (sheet : Sheet) (of : IsOfWrite info deletes writes sheet) → (w : ℕ) → is_own_of w sheet.file.dir ≡ (of.written.write == w)
  own-is sheet of w = ap (is_own_of w) of.dir

  count-is : (sheet : Sheet) (of : IsOfWrite info deletes writes sheet)
      → length sheet.recs ≡ total (stand_at sheet.file.place.partition sheet.file.place.bucket) (rows_of deletes of.written)
  count-is sheet of =
      ap length of.recs
      ∙ sorted-length rec_cmp (records_of info.shape deletes sheet.file.place.partition sheet.file.place.bucket of.written)
      ∙ record-count info.shape deletes sheet.file.place.partition sheet.file.place.bucket of.written

  -- ---- of a write id without a write

  module _ (w : ℕ) (partition : List ℕ) where
    none-stored : ((written : Written) → In written writes → (written.write == w) ≡ false) → stored_sum w partition sheets ≡ 0
    none-stored none =
        total-among (stored_at w partition) (λ (sheet : Sheet). 0) sheets
        (λ sheet h.
        let of = known.of sheet h in
        ap (λ b. only_if (b && pointwise nat_eq sheet.file.place.partition partition) (length sheet.recs)) (own-is sheet of w ∙ none of.written of.among))
        ∙ total-none (λ (sheet : Sheet). 0) (λ sheet. refl) sheets

    -- ---- of one that has a write

    module _ (written : Written) (among : In written writes) (is : written.write ≡ w) where
      abbrev has_row : Sheet → Found → ℕ
      has_row sheet row = stand_at partition sheet.file.place.bucket row

      abbrev stored_row : Found → Sheet → ℕ
      stored_row row sheet = only_if (is_stored w partition sheet.file) (has_row sheet row)

      -- a file of this id and partition
      record IsHere (sheet : Sheet) : Type 0 where
        of : IsOfWrite info deletes writes sheet
        same : of.written ≡ written
        there : sheet.file.place.partition ≡ partition

      here-of : (sheet : Sheet) → In sheet sheets → is_stored w partition sheet.file ≡ true → IsHere sheet
      here-of sheet h e =
          let of_sheet = known.of sheet h in
          let both = and_parts (is_own_of w sheet.file.dir) (pointwise nat_eq sheet.file.place.partition partition) e in
          let id = eqb-true of_sheet.written.write w (sym (own-is sheet of_sheet w) ∙ both.0) in record {
            of = of_sheet;
            same = one-write writes known.apart of_sheet.written written of_sheet.among among (id ∙ sym is);
            there = same-text sheet.file.place.partition partition both.1;
          }

      -- its records are the write's rows that stand there
      sheet-rows : (sheet : Sheet) → In sheet sheets
          → stored_at w partition sheet ≡ only_if (is_stored w partition sheet.file) (total (has_row sheet) (rows_of deletes written))
      sheet-rows sheet h = by (is_stored w partition sheet.file) refl
        where
          by : (b : Bool) → is_stored w partition sheet.file ≡ b → only_if b (length sheet.recs) ≡ only_if b (total (has_row sheet) (rows_of deletes written))
          by true e =
              let at = here-of sheet h e in
              count-is sheet at.of ∙ (λ i. total (stand_at (at.there i) sheet.file.place.bucket) (rows_of deletes (at.same i)))
          by false e = refl

      -- ---- each row stands in one of them

      abbrev place_of : Found → Place
      place_of row = place_in info.table.0 partition deletes written row.id.bucket

      at-most : (row : Found) (sheet : Sheet) → In sheet sheets → stored_row row sheet ≤ at_place (place_of row) sheet.file.place
      at-most row sheet h = by (is_stored w partition sheet.file) refl
        where
          of : (b : Bool) → stands_in partition sheet.file.place.bucket row ≡ b → is_stored w partition sheet.file ≡ true → only_if b 1 ≤ at_place (place_of row) sheet.file.place
          of false stands e = omega arith
          of true stands e =
              let at = here-of sheet h e in
              let parts = and_parts (pointwise nat_eq row.partition partition) (row.id.bucket == sheet.file.place.bucket) stands in
              let bucket : row.id.bucket ≡ sheet.file.place.bucket = eqb-true row.id.bucket sheet.file.place.bucket parts.1 in
              let same : sheet.file.place ≡ place_of row =
              at.of.place ∙ (λ i. place_in info.table.0 (at.there i) deletes (at.same i) (sym bucket i)) in
              let tie = ap (λ p. at_place (place_of row) p) same ∙ ap (λ b. only_if b 1) (tied place_total (place_of row)) in
              omega (arith, tie)

          by : (b : Bool) → is_stored w partition sheet.file ≡ b → only_if b (has_row sheet row) ≤ at_place (place_of row) sheet.file.place
          by true e = of (stands_in partition sheet.file.place.bucket row) refl e
          by false e = omega arith

      one-most : (row : Found) → total (stored_row row) sheets ≤ 1
      one-most row =
          let most = total-most (stored_row row) (λ (sheet : Sheet). at_place (place_of row) sheet.file.place) sheets (at-most row) in
          let of_files = sym (total-map (λ (file : DirFile). at_place (place_of row) file.place) sheet_file sheets) in
          let taken = ap (total (λ (file : DirFile). at_place (place_of row) file.place)) known.are in
          let one = one-taken info.table files deletes list named (place_of row) known.listed in
          omega (arith, most, of_files, taken, one)

      -- the row's own file is among them
      one-least : (row : Found) → In row (rows_of deletes written) → row.partition ≡ partition → 1 ≤ total (stored_row row) sheets
      one-least row h there =
          let at = known.has written among row (subst (IsIn row) (same-rows deletes written) h) in
          let id_is : is_own_of w at.sheet.file.dir ≡ true =
          own-is at.sheet at.of w ∙ eq-eqb at.of.written.write w (ap (λ (x : Written). x.write) at.same ∙ is) in
          let stored : is_stored w partition at.sheet.file ≡ true =
          (λ i. id_is i && (bytes_eq-Decides at.sheet.file.place.partition partition).1 (at.partition_is ∙ there) i) in
          let stands : stands_in partition at.sheet.file.place.bucket row ≡ true =
          (λ i. (bytes_eq-Decides row.partition partition).1 there i && eq-eqb row.id.bucket at.sheet.file.place.bucket (sym at.bucket_is) i) in
          let is_one : stored_row row at.sheet ≡ 1 =
          ap (λ b. only_if b (stand_at partition at.sheet.file.place.bucket row)) stored ∙ ap (λ b. only_if b 1) stands in
          let all = total-one (stored_row row) at.sheet sheets at.among in
          omega (arith, is_one, all)

      row-once : (row : Found) → In row (rows_of deletes written) → total (stored_row row) sheets ≡ row_in partition row
      row-once row h = by (pointwise nat_eq row.partition partition) refl
        where
          by : (b : Bool) → pointwise nat_eq row.partition partition ≡ b → total (stored_row row) sheets ≡ only_if b 1
          by true e =
              let most = one-most row in
              let least = one-least row h (same-text row.partition partition e) in
              omega (arith, most, least)
          by false e =
              total-none (stored_row row)
              (λ sheet.
              ap (λ b. only_if (is_stored w partition sheet.file) (only_if (b && (row.id.bucket == sheet.file.place.bucket)) 1)) e
              ∙ none (is_stored w partition sheet.file))
              sheets
            where
              none : (b : Bool) → only_if b 0 ≡ 0
              none true = refl
              none false = refl

      some-stored : stored_sum w partition sheets ≡ rows_in partition (rows_of deletes written)
      some-stored =
          total-among (stored_at w partition) (λ (sheet : Sheet). only_if (is_stored w partition sheet.file) (total (has_row sheet) (rows_of deletes written))) sheets sheet-rows
          ∙ total-turned (λ (sheet : Sheet). is_stored w partition sheet.file) has_row sheets (rows_of deletes written)
          ∙ total-among (λ row. total (stored_row row) sheets) (row_in partition) (rows_of deletes written) row-once

    pub stored-written : stored_sum w partition sheets ≡ written_sum deletes w partition writes
    stored-written = by (some-or-none w writes)
      where
        by : ((written : Written) × In written writes × (written.write ≡ w)) ⊎ ((written : Written) → In written writes → (written.write == w) ≡ false)
            → stored_sum w partition sheets ≡ written_sum deletes w partition writes
        by (inl some) = some-stored some.0 some.1 some.2 ∙ sym (one-written deletes w partition writes some.0 known.apart some.1 some.2)
        by (inr none) = none-stored none ∙ sym (none-written deletes w partition writes none)

-- what an open transaction reads
of-writes : (book : List Entry) (txn place : ℕ) (table : Table) (files : Tree) (at : ReadsAt book txn place table files) (deletes : Bool) (named : List DirFile) (sheets : List Sheet)
    → AreListed (places_of table.info.table files) named → map sheet_file sheets ≡ files_taken deletes (list_at book place table.info.table.0) named
    → AllByRecursion (IsSheet deletes files) sheets
    → AreOwn (files_taken deletes (list_at book place table.info.table.0) named) → AreOwn (files_taken false (list_at book place table.info.table.0) named)
    → AreOfWrites table.info (list_at book place table.info.table.0) files table.writes deletes named sheets
of-writes book txn place table files at deletes named sheets listed are each own rows_own = record {
  listed = listed;
  are = are;
  apart = (all-numbered HasSoundWrites (state_of (take place book)).tables table.info.table.0 table at.stood
      (fitting-sound (take place book) (fronts-fit book place at.fit)).tables.written).apart;
  of = of-sheet book txn place table files at deletes named listed sheets are each own rows_own;
  has = λ written among row row_among. has-sheet book txn place table files at deletes named listed sheets are each own rows_own written among row row_among;
}

pub files-counted : FilesAreCounted
files-counted book txn place table files legal at deletes named sheets listed are each own rows_own write partition =
    stored-written table.info (list_at book place table.info.table.0) files table.writes deletes named sheets
    (of-writes book txn place table files at deletes named sheets listed are each own rows_own) write partition
    ∙ sym (book-dues (take place book) (fronts-fit book place legal.fit) (truthful-front book place legal.truthful) table.info.table.0 table at.stood deletes write partition)
