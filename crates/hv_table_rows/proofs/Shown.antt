-- What the files of a table show where each commit's files stand, and no others of its write ids.
use Rattle.std.proofs.Common.{◌≡◌, ℕ, ◌<◌, ◌≤◌, ◌==◌, ◌&&◌, inl, inr, Bool, true, false, cond, Some, List, [], ◌∷◌, ◌++◌, filter, map, take, drop, length, refl, sym, ap, ◌∙◌, subst, arith, append-nil, eqb-true}
use Rattle.std.specs.Prelude.{nat_eq}
use Rattle.std.specs.Cmp.Lexicographic.{pointwise}
use Rattle.std.specs.FinMap as tree
use Rattle.std.specs.List.{flat_map, AllByRecursion}
use Rattle.std.proofs.lemmas.Bool.{and_parts}
use Rattle.std.proofs.lemmas.Bool.Decides.{nat_tests}
use Rattle.std.proofs.lemmas.List.{take-append-drop}
use Rattle.hv_shelf.specs.Disk.{Tree, places_of}
use Rattle.hv_value.specs.declared.value.Value.{Value}
use Rattle.hv_logic.specs.declared.catalog.Shape.{Shape}
use Rattle.hv_logic.specs.declared.catalog.TableInfo.{TableInfo}
use Rattle.hv_logic.specs.declared.effect.Found.{Found}
use Rattle.hv_route.specs.Partitions.{partition_values}
use Rattle.hv_route.specs.Routes.{partition_of}
use Rattle.hv_route.specs.Standing.{insert_record, delete_record, stands_in}
use Rattle.hv_route.proofs.BackLemmas.{text-says}
use Rattle.hv_rowfile.specs.declared.record.Rec.{Rec}
use Rattle.hv_rowfile.specs.Layout.{IsFile, file_spelling}
use Rattle.hv_rowfile.proofs.Books.{file_one}
use Rattle.hv_stands.specs.hv_history.specs.declared.state.Written.{Written}
use Rattle.hv_stands.specs.Files.{records_of, file_of, CanStand, HasRecords, own_dir, own_place, IsSaid}
use Rattle.hv_stands.specs.Sound.{HasOther, AreApart}
use Rattle.hv_shelf.specs.declared.place.Place.{Place}
use Rattle.hv_wids.specs.WriteIds.{WriteIds, is_valid}
use Rattle.hv_dirs.specs.Names.{write_end, statement_end}
use Rattle.hv_choosing.specs.declared.dir.Dir.{Dir}
use Rattle.hv_choosing.specs.declared.dir.Dir.TheVariants.{Base, Own, Wide}
use Rattle.hv_choosing.specs.declared.dir.Span.{Span}
use Rattle.hv_choosing.specs.declared.listing.DirFile.{DirFile}
use Rattle.hv_choosing.specs.Dirs.{IsAt, span_of}
use Rattle.hv_choosing.specs.Listing.{IsNamed, AreListed}
use Rattle.hv_choosing.specs.Taken.{files_taken}
use Rattle.hv_choosing.specs.Laws.{IsOwnDir, IsOwnFile, IsValidOwn, TakesOwn}
use Rattle.hv_choosing.proofs.Listed.{listed-named, listed-place, place-listed}
use Rattle.hv_choosing.proofs.OwnChoice.{own-taken}
use Rattle.hv_table_rows.specs.Amiss.{writer_of, IsWithin}
use Rattle.hv_table_rows.specs.Reading.{Sheet, sheet_file, IsSheet, found_with, founds_in, deleted_with, deleted_in, at_of}
use Rattle.hv_table_rows.proofs.Names.{same-text, text-same}
use Rattle.hv_choosing.proofs.Texts.{one}
use Rattle.hv_table_rows.proofs.Members.{In, all-in, in-all, in-kept, kept-in, in-map, map-in}
use Rattle.hv_table_rows.proofs.OwnDirs.{own-named}
use Rattle.hv_table_rows.proofs.TakenFiles.{place-there, there-place}

-- ---- what is known of a table's commits and its files

-- a commit's files stand, of every kind, partition and bucket; and the texts of its partitions say its rows
pub record HasItsFiles (files : Tree) (number : ℕ) (shape : Shape) (written : Written) : Type 0 where
  pub each : (deletes : Bool) (partition : List ℕ) (bucket : ℕ)
      → HasRecords deletes bucket (records_of shape deletes partition bucket written)
      (tree.get files (own_place number partition deletes written.write bucket))
  pub said : AllByRecursion (IsSaid shape) written.inserts

-- an inserted row has the ids of its write, and stands in its partition
pub record IsOf (shape : Shape) (written : Written) (found : Found) : Type 0 where
  pub write : found.id.write.0 ≡ written.write
  pub statement : found.id.statement ≡ written.statement
  pub partition : found.partition ≡ partition_of shape found.row

pub record IsReadable (shape : Shape) (list : WriteIds) (written : Written) : Type 0 where
  pub first : 1 ≤ written.write
  pub last : written.write < write_end
  pub valid : is_valid list written.write ≡ true
  pub each : AllByRecursion (IsOf shape written) written.inserts

-- the place is in an own directory, and where that is of a valid write id it is a commit's
pub record IsOwnPlace (list : WriteIds) (writes : List Written) (place : Place) : Type 0 where
  pub deletes : Bool
  pub write : ℕ
  pub statement : ℕ
  pub dir : place.dir ≡ own_dir deletes write statement
  pub last : write < write_end
  pub commit : is_valid list write ≡ true → (written : Written) × In written writes × (written.write ≡ write) × (place.dir ≡ own_dir deletes write 0)

pub record Shows (info : TableInfo) (list : WriteIds) (files : Tree) (writes : List Written) : Type 0 where
  pub filed : AllByRecursion (HasItsFiles files info.table.0 info.shape) writes
  pub apart : AreApart writes
  pub readable : AllByRecursion (IsReadable info.shape list) writes
  pub own : (place : Place) (bytes : List ℕ) → place.table.0 ≡ info.table.0 → tree.get files place ≡ Some bytes → IsOwnPlace list writes place

-- ---- a write id has one write

pub one-write : (writes : List Written) → AreApart writes → (a b : Written) → In a writes → In b writes → a.write ≡ b.write → a ≡ b
one-write [] apart a b h g e = absurd h
one-write (first ∷ writes) apart a b (inl p) (inl q) e = sym p ∙ q
one-write (first ∷ writes) apart a b (inl p) (inr g) e =
    absurd (all-in (HasOther first.write) writes apart.0 b g (sym e ∙ ap (λ (w : Written). w.write) (sym p)))
one-write (first ∷ writes) apart a b (inr h) (inl q) e =
    absurd (all-in (HasOther first.write) writes apart.0 a h (e ∙ ap (λ (w : Written). w.write) (sym q)))
one-write (first ∷ writes) apart a b (inr h) (inr g) e = one-write writes apart.1 a b h g e

same-number : (n : ℕ) → (n == n) ≡ true
same-number n = grind (arith, nat_tests)

-- ---- a file that was read has the records of a commit

abbrev pub rows_of : Bool → Written → List Found
rows_of false written = written.inserts
rows_of true written = written.deletes

abbrev pub record_of : Shape → Bool → ℕ → Found → Rec
record_of shape false write found = insert_record shape found
record_of shape true write found = delete_record write found

records-are : (shape : Shape) (deletes : Bool) (partition : List ℕ) (bucket : ℕ) (written : Written)
    → records_of shape deletes partition bucket written ≡ map (record_of shape deletes written.write) (filter (stands_in partition bucket) (rows_of deletes written))
records-are shape false partition bucket written = refl
records-are shape true partition bucket written = refl

-- each of them says its write id
abbrev pub IsUnder : ℕ → Rec → Type 0
IsUnder write r = writer_of r ≡ write

own-record : (shape : Shape) (deletes : Bool) (written : Written) (found : Found) → AllByRecursion (IsOf shape written) written.inserts → In found (rows_of deletes written)
    → IsUnder written.write (record_of shape deletes written.write found)
own-record shape false written found each h = let is = all-in (IsOf shape written) written.inserts each found h in is.write
own-record shape true written found each h = refl

abbrev pub only_of : ℕ → Span
only_of write = record { low = write; high = write }

within-one : (write : ℕ) (r : Rec) → IsUnder write r → IsWithin (only_of write) r
within-one write r is = (omega (arith, is), omega (arith, is))

pub own-records : (shape : Shape) (deletes : Bool) (partition : List ℕ) (bucket : ℕ) (written : Written) → AllByRecursion (IsOf shape written) written.inserts
    → AllByRecursion (IsWithin (only_of written.write)) (records_of shape deletes partition bucket written)
own-records shape deletes partition bucket written each =
    let there = filter (stands_in partition bucket) (rows_of deletes written) in
    subst (AllByRecursion (IsWithin (only_of written.write))) (sym (records-are shape deletes partition bucket written))
    (in-all (IsWithin (only_of written.write)) (map (record_of shape deletes written.write) there)
    (λ r h.
    let at = map-in (record_of shape deletes written.write) r there h in
    let kept = kept-in (stands_in partition bucket) at.0 (rows_of deletes written) at.1 in
    subst (IsWithin (only_of written.write)) at.2
    (within-one written.write (record_of shape deletes written.write at.0) (own-record shape deletes written at.0 each kept.0))))

there-are : (deletes : Bool) (bucket : ℕ) (bytes : List ℕ) (records recs : List Rec) → Some bytes ≡ file_of deletes bucket records → CanStand deletes bucket records
    → IsFile deletes bucket recs → bytes ≡ file_spelling deletes bucket recs → recs ≡ records
there-are deletes bucket bytes [] recs is can file spelled = cc
there-are deletes bucket bytes (r ∷ rs) recs is can file spelled =
    let same = file_one deletes deletes bucket bucket recs (r ∷ rs) [] file can (append-nil (file_spelling deletes bucket recs) ∙ sym spelled ∙ one is) in same.3

module _ (info : TableInfo) (list : WriteIds) (files : Tree) (writes : List Written) (shows : Shows info list files writes) where
  -- ---- the files that are taken

  own-dir : (place : Place) (d : Dir) → IsAt place.dir d → IsOwnPlace list writes place → IsOwnDir d
  own-dir place d at is = by d (own-named place.dir d is.deletes is.write is.statement at is.dir is.last)
    where
      by : (e : Dir) → (last : ℕ) × (e ≡ Own is.deletes (record { 0 = is.write }) last) → IsOwnDir e
      by (Base high) same = cc
      by (Own kind write statement) same = tt
      by (Wide kind low high) same = cc

  module _ (named : List DirFile) (listed : AreListed (places_of info.table files) named) where
    names : AllByRecursion IsNamed named
    names = listed-named (places_of info.table files) named listed

    -- the file stands, in an own directory
    stands : (file : DirFile) → In file named → (bytes : List ℕ) × (file.place.table.0 ≡ info.table.0) × (tree.get files file.place ≡ Some bytes)
    stands file h =
        let there = there-place info.table files file.place (listed-place (places_of info.table files) named listed file h) in
        (there.1.0, there.0, there.1.1)

    owned : (file : DirFile) → In file named → IsOwnPlace list writes file.place
    owned file h = let at = stands file h in shows.own file.place at.0 at.1 at.2

    own-files : AllByRecursion IsOwnFile named
    own-files = in-all IsOwnFile named (λ file h. own-dir file.place file.dir (all-in IsNamed named names file h) (owned file h))

    takes : (deletes : Bool) → TakesOwn deletes list named
    takes deletes = own-taken deletes list named names own-files

    -- a file that is taken is one of a commit
    pub record IsTakenFile (deletes : Bool) (file : DirFile) : Type 0 where
      pub written : Written
      pub among : In written writes
      pub span : span_of file.dir ≡ only_of written.write
      pub place : file.place ≡ own_place info.table.0 file.place.partition deletes written.write file.place.bucket
      pub bytes : List ℕ
      pub is : tree.get files file.place ≡ Some bytes

    valid-own : (deletes kind : Bool) (write last : ℕ) (d : Dir) → d ≡ Own kind (record { 0 = write }) last → IsValidOwn deletes list d → (kind ≡ deletes) × (is_valid list write ≡ true)
    valid-own deletes kind write last d is valid = subst (IsValidOwn deletes list) is valid

    pub taken-file : (deletes : Bool) (file : DirFile) → In file (files_taken deletes list named) → IsTakenFile deletes file
    taken-file deletes file h =
        let both = (takes deletes).only file h in
        let at = stands file both.0 in
        let own = owned file both.0 in
        let d = own-named file.place.dir file.dir own.deletes own.write own.statement (all-in IsNamed named names file both.0) own.dir own.last in
        let valid = valid-own deletes own.deletes own.write d.0 file.dir d.1 both.1 in
        let commit = own.commit valid.1 in
        let dir : file.place.dir ≡ own_dir deletes commit.0.write 0 = commit.3 ∙ (λ i. own_dir (valid.0 i) (sym commit.2 i) 0) in
        record {
          written = commit.0;
          among = commit.1;
          span = ap span_of d.1 ∙ ap only_of (sym commit.2);
          place = λ i. record { table = record { 0 = at.1 i }; partition = file.place.partition; dir = dir i; bucket = file.place.bucket };
          bytes = at.0;
          is = at.2;
        }

    -- the commit of a file that was read
    pub record IsSheetOf (deletes : Bool) (sheet : Sheet) : Type 0 where
      pub written : Written
      pub among : In written writes
      pub span : span_of sheet.file.dir ≡ only_of written.write
      pub recs : sheet.recs ≡ records_of info.shape deletes sheet.file.place.partition sheet.file.place.bucket written

    pub sheet-of : (deletes : Bool) (sheet : Sheet) → IsSheet deletes files sheet → In sheet.file (files_taken deletes list named) → IsSheetOf deletes sheet
    sheet-of deletes sheet held h =
        let place = sheet.file.place in
        let at = taken-file deletes sheet.file h in
        let bytes = file_spelling deletes place.bucket sheet.recs in
        let filed = all-in (HasItsFiles files info.table.0 info.shape) writes shows.filed at.written at.among in
        let has = filed.each deletes place.partition place.bucket in record {
          written = at.written;
          among = at.among;
          span = at.span;
          recs = there-are deletes place.bucket bytes (records_of info.shape deletes place.partition place.bucket at.written) sheet.recs
              (sym (ap (tree.get files) (sym at.place) ∙ held.bytes) ∙ has.file_is)
              has.encoded held.file refl;
        }

    -- ---- each row of a commit has its file

    abbrev pub file_of_row : Bool → Written → Found → DirFile
    file_of_row deletes written found = record {
      place = own_place info.table.0 found.partition deletes written.write found.id.bucket;
      dir = Own deletes (record { 0 = written.write }) 0;
    }

    some-file : (deletes : Bool) (bucket : ℕ) (r : Rec) (records : List Rec) → In r records → (bytes : List ℕ) × (file_of deletes bucket records ≡ Some bytes)
    some-file deletes bucket r [] h = absurd h
    some-file deletes bucket r (first ∷ records) h = (file_spelling deletes bucket (first ∷ records), refl)

    pub here : (found : Found) → stands_in found.partition found.id.bucket found ≡ true
    here found =
        (λ i. text-same found.partition found.partition refl i && (found.id.bucket == found.id.bucket)) ∙ same-number found.id.bucket

    pub row-taken : (deletes : Bool) (written : Written) (found : Found) → In written writes → In found (rows_of deletes written)
        → In (file_of_row deletes written found) (files_taken deletes list named)
    row-taken deletes written found h g =
        let is = all-in (IsReadable info.shape list) writes shows.readable written h in
        let filed = all-in (HasItsFiles files info.table.0 info.shape) writes shows.filed written h in
        let file = file_of_row deletes written found in
        let records = records_of info.shape deletes found.partition found.id.bucket written in
        let kept = in-map (record_of info.shape deletes written.write) found (filter (stands_in found.partition found.id.bucket) (rows_of deletes written))
        (in-kept (stands_in found.partition found.id.bucket) found (rows_of deletes written) g (here found)) in
        let some = some-file deletes found.id.bucket (record_of info.shape deletes written.write found) records
        (subst (In (record_of info.shape deletes written.write found)) (sym (records-are info.shape deletes found.partition found.id.bucket written)) kept) in
        let has = filed.each deletes found.partition found.id.bucket in
        let first_statement : 0 < statement_end = omega arith in
        (takes deletes).each file
        (place-listed (places_of info.table files) named listed file.place file.dir
        (place-there info.table files file.place some.0 refl (has.file_is ∙ some.1)) (((is.first, is.last), first_statement), refl))
        (refl, is.valid)

    pub has-sheet : (deletes : Bool) (sheets : List Sheet) → map sheet_file sheets ≡ files_taken deletes list named → (written : Written) (found : Found)
        → In written writes → In found (rows_of deletes written) → (sheet : Sheet) × In sheet sheets × (sheet.file ≡ file_of_row deletes written found)
    has-sheet deletes sheets are written found h g =
        map-in sheet_file (file_of_row deletes written found) sheets
        (subst (In (file_of_row deletes written found)) (sym are) (row-taken deletes written found h g))

  -- ---- what its records come to

  pub stands-parts : (partition : List ℕ) (bucket : ℕ) (found : Found) → stands_in partition bucket found ≡ true → (found.partition ≡ partition) × (found.id.bucket ≡ bucket)
  stands-parts partition bucket found e =
      let both = and_parts (pointwise nat_eq found.partition partition) (found.id.bucket == bucket) e in
      (same-text found.partition partition both.0, eqb-true found.id.bucket bucket both.1)

  row-again : (found : Found) → IsSaid info.shape found → found.partition ≡ partition_of info.shape found.row
      → take (length info.shape.columns) found.row.values ++ partition_values info.shape.parts found.partition ≡ found.row.values
  row-again found said at =
      let n = length info.shape.columns in
      let values = found.row.values in
      ap (λ text. take n values ++ partition_values info.shape.parts text) at
      ∙ ap (λ (vs : List Value). take n values ++ vs) (text-says info.shape.parts (drop n values) said)
      ∙ take-append-drop n values

  abbrev IsValidRow : Found → Type 0
  IsValidRow found = is_valid list found.id.write.0 ≡ true

  found-again : (partition : List ℕ) (found : Found) → IsSaid info.shape found → found.partition ≡ partition_of info.shape found.row → IsValidRow found → found.partition ≡ partition
      → found_with list partition (partition_values info.shape.parts partition) (insert_record info.shape found) ≡ found ∷ []
  found-again partition found said at valid same =
      (λ i. found_with list (sym same i) (partition_values info.shape.parts (sym same i)) (insert_record info.shape found))
      ∙ ap (λ b. cond b (again (partition_values info.shape.parts found.partition)) []) valid
      ∙ ap (λ (vs : List Value). record { partition = found.partition; id = found.id; row = record { values = vs } } ∷ []) (row-again found said at)
    where
      again : List Value → List Found
      again values = record {
        partition = found.partition;
        id = found.id;
        row = record { values = take (length info.shape.columns) found.row.values ++ values };
      } ∷ []

  rows-again : (partition : List ℕ) (bucket : ℕ) (rows : List Found) → AllByRecursion (IsSaid info.shape) rows
      → AllByRecursion (λ (found : Found). found.partition ≡ partition_of info.shape found.row) rows → AllByRecursion IsValidRow rows
      → flat_map (found_with list partition (partition_values info.shape.parts partition)) (map (insert_record info.shape) (filter (stands_in partition bucket) rows))
      ≡ filter (stands_in partition bucket) rows
  rows-again partition bucket [] said at valid = refl
  rows-again partition bucket (found ∷ rows) said at valid = by (stands_in partition bucket found) refl (rows-again partition bucket rows said.1 at.1 valid.1)
    where
      back : Rec → List Found
      back = found_with list partition (partition_values info.shape.parts partition)

      by : (b : Bool) → stands_in partition bucket found ≡ b
          → flat_map (found_with list partition (partition_values info.shape.parts partition)) (map (insert_record info.shape) (filter (stands_in partition bucket) rows)) ≡ filter (stands_in partition bucket) rows
          → flat_map (found_with list partition (partition_values info.shape.parts partition)) (map (insert_record info.shape) (cond b (found ∷ filter (stands_in partition bucket) rows) (filter (stands_in partition bucket) rows)))
          ≡ cond b (found ∷ filter (stands_in partition bucket) rows) (filter (stands_in partition bucket) rows)
      by true e rest =
          let is = stands-parts partition bucket found e in
          λ i. found-again partition found said.0 at.0 valid.0 is.0 i ++ rest i
      by false e rest = rest

  deleted-again : (write : ℕ) (partition : List ℕ) (bucket : ℕ) (rows : List Found) → is_valid list write ≡ true
      → flat_map (deleted_with list partition) (map (delete_record write) (filter (stands_in partition bucket) rows)) ≡ map at_of (filter (stands_in partition bucket) rows)
  deleted-again write partition bucket [] valid = refl
  deleted-again write partition bucket (found ∷ rows) valid = by (stands_in partition bucket found) refl (deleted-again write partition bucket rows valid)
    where
      by : (b : Bool) → stands_in partition bucket found ≡ b
          → flat_map (deleted_with list partition) (map (delete_record write) (filter (stands_in partition bucket) rows)) ≡ map at_of (filter (stands_in partition bucket) rows)
          → flat_map (deleted_with list partition) (map (delete_record write) (cond b (found ∷ filter (stands_in partition bucket) rows) (filter (stands_in partition bucket) rows)))
          ≡ map at_of (cond b (found ∷ filter (stands_in partition bucket) rows) (filter (stands_in partition bucket) rows))
      by true e rest =
          let is = stands-parts partition bucket found e in
          ap (λ b. cond b (record { partition = partition; id = found.id } ∷ []) [] ++ flat_map (deleted_with list partition) (map (delete_record write) (filter (stands_in partition bucket) rows))) valid
          ∙ (λ i. record { partition = sym is.0 i; id = found.id } ∷ rest i)
      by false e rest = rest

  module _ (named : List DirFile) (listed : AreListed (places_of info.table files) named) where
    pub founds-of : (sheet : Sheet) (of : IsSheetOf named listed false sheet)
        → founds_in list info.shape sheet ≡ filter (stands_in sheet.file.place.partition sheet.file.place.bucket) of.written.inserts
    founds-of sheet of =
        let place = sheet.file.place in
        let filed = all-in (HasItsFiles files info.table.0 info.shape) writes shows.filed of.written of.among in
        let is = all-in (IsReadable info.shape list) writes shows.readable of.written of.among in
        ap (flat_map (found_with list place.partition (partition_values info.shape.parts place.partition))) of.recs
        ∙ rows-again place.partition place.bucket of.written.inserts filed.said
        (in-all (λ (found : Found). found.partition ≡ partition_of info.shape found.row) of.written.inserts
        (λ found h. let each = all-in (IsOf info.shape of.written) of.written.inserts is.each found h in each.partition))
        (in-all IsValidRow of.written.inserts
        (λ found h. let each = all-in (IsOf info.shape of.written) of.written.inserts is.each found h in ap (is_valid list) each.write ∙ is.valid))

    pub deleted-of : (sheet : Sheet) (of : IsSheetOf named listed true sheet)
        → deleted_in list sheet ≡ map at_of (filter (stands_in sheet.file.place.partition sheet.file.place.bucket) of.written.deletes)
    deleted-of sheet of =
        let place = sheet.file.place in
        let is = all-in (IsReadable info.shape list) writes shows.readable of.written of.among in
        ap (flat_map (deleted_with list place.partition)) of.recs ∙ deleted-again of.written.write place.partition place.bucket of.written.deletes is.valid
