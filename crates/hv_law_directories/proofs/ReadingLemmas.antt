-- Each file can be read.
use Rattle.std.proofs.Common.{refl, ◌≡◌, ℕ, Bool, List, [], ◌∷◌, ◌++◌, length, drop, ap, ◌∙◌, append_assoc}
use Rattle.std.specs.List.{flat_map, AllByRecursion}
use Rattle.std.proofs.lemmas.List.{drop_at}
use Rattle.std.proofs.lemmas.List.Concat.{flat_map-cons}
use Rattle.hv_bytes.specs.Spelling.{four_bytes, eight_bytes}
use Rattle.hv_bytes.specs.Reading.{eight_at}
use Rattle.hv_bytes.proofs.Again.{eight_again}
use Rattle.hv_bytes.proofs.Lengths.{length-four}
use Rattle.hv_rowfile.specs.declared.record.Rec.{Rec}
use Rattle.hv_rowfile.specs.Layout.{rec_spelling, head_spelling, file_spelling, RecIsTaken, RecFits}
use Rattle.hv_rowfile.specs.Reading.{rec_at}
use Rattle.hv_rowfile.proofs.Again.{rec_again}
use Rattle.hv_law_directories.specs.Reading.{IsReading, first_and, recs_read, counted_recs, file_read}

module _ (deletes : Bool) (bucket : ℕ) where
  read-again : (recs : List Rec) → AllByRecursion (RecIsTaken deletes bucket) recs → AllByRecursion RecFits recs
      → recs_read deletes bucket (length recs) (flat_map rec_spelling recs) ≡ recs
  read-again [] taken fits = refl
  read-again (r ∷ recs) taken fits =
      let rest = flat_map rec_spelling recs in
      ap (λ read. first_and read (λ more. recs_read deletes bucket (length recs) more))
      (ap (rec_at deletes bucket) (flat_map-cons rec_spelling r recs) ∙ rec_again deletes bucket r rest taken.0 fits.0)
      ∙ ap (λ rs. r ∷ rs) (read-again recs taken.1 fits.1)

  -- what stands behind the first nine bytes
  behind-nine : (count : ℕ) (body : List ℕ) → drop 9 (head_spelling deletes bucket count ++ body) ≡ eight_bytes count ++ body
  unfolding head_spelling
  behind-nine count body =
      let four = length-four bucket in
      ap (λ x. drop 4 x) (append_assoc (four_bytes bucket) (eight_bytes count) body)
      ∙ drop_at (four_bytes bucket) (eight_bytes count ++ body) 4 four

pub can-be-read : IsReading file_read
unfolding file_read file_spelling
can-be-read deletes bucket recs file =
    let body = flat_map rec_spelling recs in
    ap (counted_recs deletes bucket) (ap eight_at (behind-nine deletes bucket (length recs) body) ∙ eight_again (length recs) body file.count_fits)
    ∙ read-again deletes bucket recs file.can_write.each file.fits
