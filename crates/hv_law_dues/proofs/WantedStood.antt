-- The files of the partitions that are wanted have the records that the commits say.
use Rattle.std.proofs.Common.{◌≡◌, ℕ, take, Bool, List, [], ◌∷◌, cond, true, false, map, refl, sym, ap, ◌∙◌, subst}
use Rattle.hv_earlier.specs.Lists.{list_at}
use Rattle.hv_history.specs.State.{state_of}
use Rattle.hv_table_rows.specs.Reading.{Sheet, sheet_file, IsSheet, files_wanted}
use Rattle.hv_stands.proofs.Ordered.{all-kept}
use Rattle.hv_counts.specs.Counts.{dues_in, dues_wanted, sheets_wanted, IsCounted}
use Rattle.hv_counts.proofs.Wanting.{wanted-are-counted}
use Rattle.hv_law_read.proofs.WholeLemmas.{same-sheets, whole-sheets}
use Rattle.hv_law_dues.specs.Laws.{WantedFilesAreCounted}
use Rattle.hv_law_dues.proofs.Stood.{files-counted}

files-of-wanted : (wants : List ℕ → Bool) (sheets : List Sheet) → map sheet_file (sheets_wanted wants sheets) ≡ files_wanted wants (map sheet_file sheets)
files-of-wanted wants [] = refl
files-of-wanted wants (sheet ∷ sheets) = by (wants sheet.file.place.partition) (files-of-wanted wants sheets)
  where
    by : (b : Bool) → map sheet_file (sheets_wanted wants sheets) ≡ files_wanted wants (map sheet_file sheets)
        → map sheet_file (cond b (sheet ∷ sheets_wanted wants sheets) (sheets_wanted wants sheets))
        ≡ cond b (sheet.file ∷ files_wanted wants (map sheet_file sheets)) (files_wanted wants (map sheet_file sheets))
    by true rest = ap (λ more. sheet.file ∷ more) rest
    by false rest = rest

pub wanted-files-counted : WantedFilesAreCounted
wanted-files-counted book txn place table files legal at wants deletes named sheets listed are each own rows_own =
    let list = list_at book place table.info.table.0 in
    let whole = whole-sheets book txn place table files at deletes named listed in
    let same : sheets_wanted wants whole.sheets ≡ sheets =
    same-sheets deletes files (sheets_wanted wants whole.sheets) sheets
    (files-of-wanted wants whole.sheets ∙ ap (files_wanted wants) whole.files_are ∙ sym are)
    (all-kept (IsSheet deletes files) (λ (sheet : Sheet). wants sheet.file.place.partition) whole.sheets whole.each) each in
    subst (IsCounted deletes (dues_wanted wants (dues_in (state_of (take place book)) table.info.table.0))) same
    (wanted-are-counted wants deletes (dues_in (state_of (take place book)) table.info.table.0) whole.sheets
    (files-counted book txn place table files legal at deletes named whole.sheets listed whole.files_are whole.each own rows_own))
