-- All files that an open transaction takes of a table can be read, also such as it doesn't read; and what it reads of a file is all that stands in it.
use Rattle.std.proofs.Common.{◌≡◌, ℕ, Bool, List, [], ◌∷◌, map, refl, inl, inr, sym, ap, ◌∙◌, subst}
use Rattle.std.specs.List.{AllByRecursion}
use Rattle.hv_shelf.specs.Disk.{Tree, places_of}
use Rattle.hv_rowfile.specs.declared.record.Rec.{Rec}
use Rattle.hv_rowfile.specs.Layout.{file_spelling}
use Rattle.hv_choosing.specs.declared.listing.DirFile.{DirFile}
use Rattle.hv_choosing.specs.Dirs.{span_of}
use Rattle.hv_choosing.specs.Listing.{AreListed}
use Rattle.hv_choosing.specs.Taken.{files_taken}
use Rattle.hv_history.specs.declared.entry.Entry.{Entry}
use Rattle.hv_history.specs.declared.state.Table.{Table}
use Rattle.hv_earlier.specs.Lists.{list_at}
use Rattle.hv_stands.proofs.Numbers.{one_value}
use Rattle.hv_law_whole.specs.hv_law_directories.specs.hv_table_rows.specs.Reading.{HoldsAt, Sheet, sheet_file, IsSheet}
use Rattle.hv_law_visible.specs.Members.{IsIn}
use Rattle.hv_law_whole.specs.hv_law_directories.specs.Reading.{file_read}
use Rattle.hv_law_whole.specs.hv_law_directories.proofs.ReadingLemmas.{can-be-read}
use Rattle.hv_law_read.specs.Reading.{ReadsAt}
use Rattle.hv_law_read.proofs.RowLemmas.{stands-with}

module _ (kind : Bool) (files : Tree) where
  -- these files were read
  pub record AreAllRead (taken : List DirFile) : Type 0 where
    pub sheets : List Sheet
    pub files_are : map sheet_file sheets ≡ taken
    pub each : AllByRecursion (IsSheet kind files) sheets

  all-read : (taken : List DirFile) → ((file : DirFile) → IsIn file taken → (recs : List Rec) × HoldsAt files file.place kind (span_of file.dir) recs) → AreAllRead taken
  all-read [] stand = record { sheets = []; files_are = refl; each = tt }
  all-read (file ∷ taken) stand =
      let first = stand file (inl refl) in
      let rest = all-read taken (λ other among. stand other (inr among)) in
      record {
        sheets = record { file = file; recs = first.0 } ∷ rest.sheets;
        files_are = ap (λ more. file ∷ more) rest.files_are;
        each = (first.1, rest.each);
      }

  -- the records of a file are those that its bytes spell
  same-recs : (one other : Sheet) → one.file ≡ other.file → IsSheet kind files one → IsSheet kind files other → one.recs ≡ other.recs
  same-recs one other same held held_too =
      let bucket = one.file.place.bucket in
      let again : IsSheet kind files (record { file = one.file; recs = other.recs }) =
      subst (λ (file : DirFile). HoldsAt files file.place kind (span_of file.dir) other.recs) (sym same) held_too in
      sym (can-be-read kind bucket one.recs held.file)
      ∙ ap (file_read kind bucket) (one_value (file_spelling kind bucket one.recs) (file_spelling kind bucket other.recs) (sym held.bytes ∙ again.bytes))
      ∙ can-be-read kind bucket other.recs again.file

  pub same-sheets : (ones others : List Sheet) → map sheet_file ones ≡ map sheet_file others → AllByRecursion (IsSheet kind files) ones
      → AllByRecursion (IsSheet kind files) others → ones ≡ others
  same-sheets [] [] same each each_too = refl
  same-sheets [] (other ∷ others) same each each_too = cc
  same-sheets (one ∷ ones) [] same each each_too = cc
  same-sheets (one ∷ ones) (other ∷ others) same each each_too =
      let file : one.file ≡ other.file = cc in
      let rest : map sheet_file ones ≡ map sheet_file others = cc in
      let recs : one.recs ≡ other.recs = same-recs one other file each.0 each_too.0 in
      λ i. record { file = file i; recs = recs i } ∷ same-sheets ones others rest each.1 each_too.1 i

pub whole-sheets : (book : List Entry) (txn place : ℕ) (table : Table) (files : Tree) → ReadsAt book txn place table files → (kind : Bool) (named : List DirFile)
    → AreListed (places_of table.info.table files) named → AreAllRead kind files (files_taken kind (list_at book place table.info.table.0) named)
whole-sheets book txn place table files at kind named listed =
    all-read kind files (files_taken kind (list_at book place table.info.table.0) named)
    (λ file among. stands-with book txn place table files at kind named listed file among)
