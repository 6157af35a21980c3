-- What bytes are read as. Which bytes are a file, of which records, is said by how they are spelled.
use Rattle.std.specs.Prelude.{◌≡◌, ℕ, zero, suc, Bool, Option, Some, None, List, [], ◌∷◌, drop}
use Rattle.hv_bytes.specs.Reading.{eight_at}
use Rattle.hv_rowfile.specs.declared.record.Rec.{Rec}
use Rattle.hv_rowfile.specs.Layout.{IsFile, file_spelling}
use Rattle.hv_rowfile.specs.Reading.{rec_at}

-- a way to read bytes as a file of a kind and bucket
abbrev pub Reading : Type 0
Reading = Bool → ℕ → List ℕ → List Rec

-- it reads the records of each file; of bytes that are no file of the kind and bucket it may give anything
abbrev pub IsReading : Reading → Type 0
IsReading read =
    (deletes : Bool) (bucket : ℕ) (recs : List Rec) → IsFile deletes bucket recs → read deletes bucket (file_spelling deletes bucket recs) ≡ recs

-- ---- one such way: as many records as the head says, up to the first that is none

abbrev pub first_and : Option (Rec × List ℕ) → (List ℕ → List Rec) → List Rec
first_and None more = []
first_and (Some first) more = first.0 ∷ more first.1

abbrev pub recs_read : Bool → ℕ → ℕ → List ℕ → List Rec
recs_read deletes bucket zero bytes = []
recs_read deletes bucket (suc n) bytes = first_and (rec_at deletes bucket bytes) (λ rest. recs_read deletes bucket n rest)

abbrev pub counted_recs : Bool → ℕ → Option (ℕ × List ℕ) → List Rec
counted_recs deletes bucket None = []
counted_recs deletes bucket (Some count) = recs_read deletes bucket count.0 count.1

-- the count stands behind the mark, the kind and the bucket, which are nine bytes
unfoldable pub file_read : Bool → ℕ → List ℕ → List Rec
file_read deletes bucket bytes = counted_recs deletes bucket (eight_at (drop 9 bytes))
