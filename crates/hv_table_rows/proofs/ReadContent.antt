-- What is read of a table is what stands in it, in its order, and no file is called damaged.
use Rattle.std.proofs.Common.{◌≡◌, ℕ, Bool, true, false, not, Option, Some, None, List, [], ◌∷◌, filter, map, refl, sym, ap, ◌∙◌, subst}
use Rattle.std.specs.Ordering.{is_eq}
use Rattle.std.specs.FinMap as tree
use Rattle.std.specs.List.{flat_map, AllByRecursion}
use Rattle.std.specs.List.Sorted.{IsStrictlySortedBy}
use Rattle.hv_shelf.specs.Disk.{Tree, places_of}
use Rattle.hv_logic.specs.declared.catalog.TableInfo.{TableInfo}
use Rattle.hv_logic.specs.declared.effect.Found.{Found}
use Rattle.hv_logic.specs.Rows.{found_cmp}
use Rattle.hv_base.specs.Sorting.{sorted_by}
use Rattle.hv_route.specs.Standing.{stands_in}
use Rattle.hv_rowfile.specs.declared.record.Rec.{Rec}
use Rattle.hv_rowfile.specs.Layout.{IsFile, file_spelling}
use Rattle.hv_stands.specs.hv_history.specs.declared.state.Written.{Written}
use Rattle.hv_stands.specs.hv_history.specs.State.{content_of, is_deleted}
use Rattle.hv_wids.specs.WriteIds.{WriteIds}
use Rattle.hv_choosing.specs.declared.dir.Span.{Span}
use Rattle.hv_choosing.specs.declared.listing.DirFile.{DirFile}
use Rattle.hv_choosing.specs.Dirs.{span_of}
use Rattle.hv_choosing.specs.Listing.{AreListed}
use Rattle.hv_choosing.specs.Taken.{files_taken}
use Rattle.hv_stands.specs.Files.{records_of, HasRecords}
use Rattle.hv_table_rows.specs.declared.row_at.RowAt.{RowAt}
use Rattle.hv_table_rows.specs.Orders.{row_at_cmp}
use Rattle.hv_stands.proofs.StandingRows.{found-total as found_total}
use Rattle.hv_table_rows.specs.Amiss.{IsWithin}
use Rattle.hv_table_rows.specs.Reading.{Sheet, sheet_file, IsSheet, founds_in, deleted_in, at_of, is_gone, left_of, files_wanted, AreRows, IsSpoiled}
use Rattle.hv_table_rows.proofs.Members.{In, all-in, contained, in-kept, kept-in, any-in, in-any, in-sorted, sorted-in, in-map, map-in, in-flat, flat-in, same-rising, one-of-rising}
use Rattle.hv_table_rows.proofs.Shown.{IsReadable, Shows, own-records, one-write, IsSheetOf, sheet-of, taken-file, file_of_row, has-sheet, here, founds-of, deleted-of, HasItsFiles}

same-cmp : (x y : Found) → row_at_cmp (at_of x) (at_of y) ≡ found_cmp x y
unfolding row_at_cmp
same-cmp x y = refl

pub both-ways : (a b : Bool) → (a ≡ true → b ≡ true) → (b ≡ true → a ≡ true) → a ≡ b
both-ways true true f g = refl
both-ways true false f g = sym (f refl)
both-ways false true f g = g refl
both-ways false false f g = refl

abbrev inserts_of : Written → List Found
inserts_of written = written.inserts

abbrev deletes_of : Written → List Found
deletes_of written = written.deletes

-- every partition is wanted
pub wanted-all : (files : List DirFile) → files_wanted (λ partition. true) files ≡ files
wanted-all [] = refl
wanted-all (file ∷ files) = ap (λ more. file ∷ more) (wanted-all files)

held-by : (deletes : Bool) (bucket : ℕ) (bytes : List ℕ) (records : List Rec) (file : Option (List ℕ)) → file ≡ Some bytes → HasRecords deletes bucket records file
    → IsFile deletes bucket records × (file ≡ Some (file_spelling deletes bucket records))
held-by deletes bucket bytes [] file is has = let never : Some bytes ≡ None = sym is ∙ has.file_is in cc
held-by deletes bucket bytes (r ∷ records) file is has = (has.encoded, has.file_is)

module _ (info : TableInfo) (list : WriteIds) (files : Tree) (writes : List Written) (shows : Shows info list files writes) where
  abbrev Left : List RowAt → Found → Bool
  Left gone found = not (is_gone gone (at_of found))

  abbrev Kept : Found → Bool
  Kept found = not (is_deleted writes found)

  module _ (named : List DirFile) (listed : AreListed (places_of info.table files) named) where
    abbrev Taken : Bool → List DirFile
    Taken deletes = files_taken deletes list named

    abbrev IsOfCommit : Bool → Sheet → Type 0
    IsOfCommit deletes sheet = IsSheetOf info list files writes shows named listed deletes sheet

    -- ---- the files that were read

    pub commit-of : (deletes : Bool) (sheets : List Sheet) → map sheet_file sheets ≡ Taken deletes → AllByRecursion (IsSheet deletes files) sheets
        → (sheet : Sheet) → In sheet sheets → IsOfCommit deletes sheet
    commit-of deletes sheets are each sheet h =
        sheet-of info list files writes shows named listed deletes sheet (all-in (IsSheet deletes files) sheets each sheet h)
        (subst (In sheet.file) are (in-map sheet_file sheet sheets h))

    -- of a row's commit and its file
    same-commit : (deletes : Bool) (sheet : Sheet) (of : IsOfCommit deletes sheet) (written : Written) (found : Found) → In written writes
        → sheet.file ≡ file_of_row info list files writes shows named listed deletes written found → of.written ≡ written
    same-commit deletes sheet of written found h is =
        one-write writes shows.apart of.written written of.among h
        (ap (λ (span : Span). span.low) (sym of.span) ∙ ap (λ (file : DirFile). (span_of file.dir).low) is)

    stands-there : (deletes : Bool) (sheet : Sheet) (written : Written) (found : Found) → sheet.file ≡ file_of_row info list files writes shows named listed deletes written found
        → stands_in sheet.file.place.partition sheet.file.place.bucket found ≡ true
    stands-there deletes sheet written found is =
        subst (λ (file : DirFile). stands_in file.place.partition file.place.bucket found ≡ true) (sym is)
        (here info list files writes shows named listed found)

    -- ---- the rows that were inserted

    module _ (sheets : List Sheet) (are : map sheet_file sheets ≡ Taken false) (each : AllByRecursion (IsSheet false files) sheets) where
      pub inserted-in : (found : Found) → In found (flat_map (founds_in list info.shape) sheets) → (written : Written) × In written writes × In found written.inserts
      inserted-in found h =
          let at = flat-in (founds_in list info.shape) found sheets h in
          let of = commit-of false sheets are each at.0 at.1 in
          let kept = kept-in (stands_in at.0.file.place.partition at.0.file.place.bucket) found of.written.inserts
          (subst (In found) (founds-of info list files writes shows named listed at.0 of) at.2) in
          (of.written, of.among, kept.0)

      pub in-inserted : (found : Found) (written : Written) → In written writes → In found written.inserts → In found (flat_map (founds_in list info.shape) sheets)
      in-inserted found written h g =
          let at = has-sheet info list files writes shows named listed false sheets are written found h g in
          let of = commit-of false sheets are each at.0 at.1 in
          let same : of.written ≡ written = same-commit false at.0 of written found h at.2 in
          in-flat (founds_in list info.shape) found at.0 sheets at.1
          (subst (In found) (sym (founds-of info list files writes shows named listed at.0 of))
          (in-kept (stands_in at.0.file.place.partition at.0.file.place.bucket) found of.written.inserts
          (subst (λ (w : Written). In found w.inserts) (sym same) g) (stands-there false at.0 written found at.2)))

    -- ---- the rows that were deleted

    module _ (sheets : List Sheet) (are : map sheet_file sheets ≡ Taken true) (each : AllByRecursion (IsSheet true files) sheets) where
      gone-in : (row : RowAt) → In row (flat_map (deleted_in list) sheets) → (found : Found) × In found (flat_map deletes_of writes) × (at_of found ≡ row)
      gone-in row h =
          let at = flat-in (deleted_in list) row sheets h in
          let of = commit-of true sheets are each at.0 at.1 in
          let here_ = map-in at_of row (filter (stands_in at.0.file.place.partition at.0.file.place.bucket) of.written.deletes)
          (subst (In row) (deleted-of info list files writes shows named listed at.0 of) at.2) in
          let kept = kept-in (stands_in at.0.file.place.partition at.0.file.place.bucket) here_.0 of.written.deletes here_.1 in
          (here_.0, in-flat deletes_of here_.0 of.written writes of.among kept.0, here_.2)

      in-gone : (found : Found) → In found (flat_map deletes_of writes) → In (at_of found) (flat_map (deleted_in list) sheets)
      in-gone found k =
          let by = flat-in deletes_of found writes k in
          let at = has-sheet info list files writes shows named listed true sheets are by.0 found by.1 by.2 in
          let of = commit-of true sheets are each at.0 at.1 in
          let same : of.written ≡ by.0 = same-commit true at.0 of by.0 found by.1 at.2 in
          in-flat (deleted_in list) (at_of found) at.0 sheets at.1
          (subst (In (at_of found)) (sym (deleted-of info list files writes shows named listed at.0 of))
          (in-map at_of found (filter (stands_in at.0.file.place.partition at.0.file.place.bucket) of.written.deletes)
          (in-kept (stands_in at.0.file.place.partition at.0.file.place.bucket) found of.written.deletes
          (subst (λ (w : Written). In found w.deletes) (sym same) by.2) (stands-there true at.0 by.0 found at.2))))

      pub gone-same : (found : Found) → is_gone (flat_map (deleted_in list) sheets) (at_of found) ≡ is_deleted writes found
      gone-same found = both-ways (is_gone (flat_map (deleted_in list) sheets) (at_of found)) (is_deleted writes found) to from
        where
          to : is_gone (flat_map (deleted_in list) sheets) (at_of found) ≡ true → is_deleted writes found ≡ true
          to e =
              let one = any-in (λ (other : RowAt). is_eq (row_at_cmp other (at_of found))) (flat_map (deleted_in list) sheets) e in
              let at = gone-in one.0 one.1 in
              in-any (λ (other : Found). is_eq (found_cmp other found)) at.0 (flat_map deletes_of writes) at.1
              (ap is_eq (sym (same-cmp at.0 found)) ∙ ap (λ (row : RowAt). is_eq (row_at_cmp row (at_of found))) at.2 ∙ one.2)

          from : is_deleted writes found ≡ true → is_gone (flat_map (deleted_in list) sheets) (at_of found) ≡ true
          from e =
              let one = any-in (λ (other : Found). is_eq (found_cmp other found)) (flat_map deletes_of writes) e in
              in-any (λ (other : RowAt). is_eq (row_at_cmp other (at_of found))) (at_of one.0) (flat_map (deleted_in list) sheets) (in-gone one.0 one.1)
              (ap is_eq (same-cmp one.0 found) ∙ one.2)

  -- ---- the rows that are left

  pub rows-content : (rows : List Found) → AreRows (λ partition. true) info list files rows → IsStrictlySortedBy found_cmp (content_of writes) → rows ≡ content_of writes
  unfolding content_of
  rows-content rows is up = same-rising found_cmp found_total rows (sorted_by found_cmp (filter Kept (flat_map inserts_of writes))) is.rows_are.up up to from
    where
      inserted_is : is.inserted ≡ flat_map (founds_in list info.shape) is.inserts.sheets
      inserted_is = is.inserts.items_are

      same : (found : Found) → is_gone is.gone (at_of found) ≡ is_deleted writes found
      same found =
          ap (λ (gone : List RowAt). is_gone gone (at_of found)) is.deletes.items_are
          ∙ gone-same is.named is.listed is.deletes.sheets (is.deletes.files_are ∙ wanted-all (files_taken true list is.named)) is.deletes.each found

      left-to : (found : Found) → In found (left_of is.gone is.inserted) → In found (sorted_by found_cmp (filter Kept (flat_map inserts_of writes)))
      left-to found h =
          let kept = kept-in (Left is.gone) found is.inserted h in
          let at = inserted-in is.named is.listed is.inserts.sheets (is.inserts.files_are ∙ wanted-all (files_taken false list is.named)) is.inserts.each found (subst (In found) inserted_is kept.0) in
          in-sorted found_cmp found (filter Kept (flat_map inserts_of writes))
          (in-kept Kept found (flat_map inserts_of writes) (in-flat inserts_of found at.0 writes at.1 at.2) (ap not (sym (same found)) ∙ kept.1))

      to-left : (found : Found) → In found (sorted_by found_cmp (filter Kept (flat_map inserts_of writes))) → In found (left_of is.gone is.inserted)
      to-left found h =
          let kept = kept-in Kept found (flat_map inserts_of writes) (sorted-in found_cmp found (filter Kept (flat_map inserts_of writes)) h) in
          let at = flat-in inserts_of found writes kept.0 in
          in-kept (Left is.gone) found is.inserted
          (subst (In found) (sym inserted_is) (in-inserted is.named is.listed is.inserts.sheets (is.inserts.files_are ∙ wanted-all (files_taken false list is.named)) is.inserts.each found at.0 at.1 at.2)) (ap not (same found) ∙ kept.1)

      to : (found : Found) → In found rows → In found (sorted_by found_cmp (filter Kept (flat_map inserts_of writes)))
      to found h = left-to found (is.rows_are.among found h)

      from : (found : Found) → In found (sorted_by found_cmp (filter Kept (flat_map inserts_of writes))) → In found rows
      from found h =
          let other = is.rows_are.every found (to-left found h) in
          let one_row = one-of-rising found_cmp found_total (sorted_by found_cmp (filter Kept (flat_map inserts_of writes))) up found other.0 h (to other.0 other.1) other.2 in
          subst (λ f. In f rows) (sym one_row) other.1

  -- ---- damage

  pub never-spoiled : IsSpoiled info list files → ⊥
  never-spoiled spoiled =
      let deletes = spoiled.deletes in
      let file = spoiled.lacks.one in
      let place = file.place in
      let taken = files_taken deletes list spoiled.named in
      let at = taken-file info list files writes shows spoiled.named spoiled.listed deletes file (contained taken file spoiled.lacks.among) in
      let filed = all-in (HasItsFiles files info.table.0 info.shape) writes shows.filed at.written at.among in
      let records = records_of info.shape deletes place.partition place.bucket at.written in
      let has = subst (λ p. HasRecords deletes place.bucket records (tree.get files p)) (sym at.place) (filed.each deletes place.partition place.bucket) in
      let held = held-by deletes place.bucket at.bytes records (tree.get files place) at.is has in
      let is_read = all-in (IsReadable info.shape list) writes shows.readable at.written at.among in
      let own = subst (λ span. AllByRecursion (IsWithin span) records) (sym at.span) (own-records info.shape deletes place.partition place.bucket at.written is_read.each) in
      spoiled.lacks.lacks records (record { file = held.0; own = own; bytes = held.1 })
