-- How a row file is laid out in bytes (this project's profile). Numbers are big-endian, and signed ones in
-- two's complement.
use Rattle.std.specs.Prelude.{◌≡◌, ◌≢◌, ℕ, ◌+◌, ◌<◌, ◌≤◌, ◌^◌, ◌⊎◌, Bool, true, false, IsTrue, List, [], ◌∷◌, ◌++◌, length, Option, None, Some, ℤ, codes, FitsSigned}
use Rattle.std.specs.Int.{cast_unsigned, w32, w64}
use Rattle.std.specs.List.{flat_map, AllByRecursion}
use Rattle.std.specs.declared.cmp.Ordering.TheVariants.{Less}
use Rattle.hv_base.specs.declared.ids.RowId.{RowId}
use Rattle.hv_base.specs.Identifiers.{row_id_cmp}
use Rattle.hv_bytes.specs.Spelling.{two_bytes, four_bytes, eight_bytes, text_spelling, IsText}
use Rattle.hv_value.specs.Dates.{is_day}
use Rattle.hv_value.specs.declared.row.Row.{Row}
use Rattle.hv_value.specs.declared.value.Value.{Value}
use Rattle.hv_value.specs.declared.value.Value.TheOpen.{Value-F}
use Rattle.hv_value.specs.declared.value.Value.TheViews.{out-Value}
use Rattle.hv_rowfile.specs.declared.record.Rec.{Rec}
use Rattle.hv_rowfile.specs.declared.record.Rec.TheVariants as rec

-- ---- numbers with a sign, in two's complement

abbrev pub int_spelling : ℤ → List ℕ
int_spelling n = four_bytes (cast_unsigned w32 n)

abbrev pub big_spelling : ℤ → List ℕ
big_spelling n = eight_bytes (cast_unsigned w64 n)

abbrev pub truth_byte : Bool → ℕ
truth_byte false = 0
truth_byte true = 1

-- ---- values: a tag byte and the content

-- an element of an array, which is no array itself
abbrev pub flat_spelling : Value-F Value → List ℕ
flat_spelling Value-F.Null = 0 ∷ []
flat_spelling (Value-F.Bool b) = 1 ∷ truth_byte b ∷ []
flat_spelling (Value-F.Int n) = 2 ∷ int_spelling n
flat_spelling (Value-F.Big n) = 3 ∷ big_spelling n
flat_spelling (Value-F.Str text) = 4 ∷ text_spelling text
flat_spelling (Value-F.Day n) = 5 ∷ int_spelling n
flat_spelling (Value-F.Array items) = []

unfoldable pub element_spelling : Value → List ℕ
element_spelling value = flat_spelling (out-Value value)

abbrev pub layer_spelling : Value-F Value → List ℕ
layer_spelling Value-F.Null = 0 ∷ []
layer_spelling (Value-F.Bool b) = 1 ∷ truth_byte b ∷ []
layer_spelling (Value-F.Int n) = 2 ∷ int_spelling n
layer_spelling (Value-F.Big n) = 3 ∷ big_spelling n
layer_spelling (Value-F.Str text) = 4 ∷ text_spelling text
layer_spelling (Value-F.Day n) = 5 ∷ int_spelling n
layer_spelling (Value-F.Array items) = 6 ∷ four_bytes (length items) ++ flat_map element_spelling items

unfoldable pub value_spelling : Value → List ℕ
value_spelling value = layer_spelling (out-Value value)

-- ---- rows, records and files

unfoldable pub row_spelling : Row → List ℕ
row_spelling row = two_bytes (length row.values) ++ flat_map value_spelling row.values

-- the bucket is the file's
unfoldable pub key_spelling : RowId → List ℕ
key_spelling id = eight_bytes id.write.0 ++ four_bytes id.statement ++ eight_bytes id.row

unfoldable pub rec_spelling : Rec → List ℕ
rec_spelling (rec.Insert id row) = key_spelling id ++ (four_bytes (length (row_spelling row)) ++ row_spelling row)
rec_spelling (rec.Delete id by) = key_spelling id ++ eight_bytes by.0

unfoldable pub head_spelling : Bool → ℕ → ℕ → List ℕ
head_spelling deletes bucket count =
    codes "HVR1" ++ (truth_byte deletes ∷ four_bytes bucket ++ eight_bytes count)

unfoldable pub file_spelling : Bool → ℕ → List Rec → List ℕ
file_spelling deletes bucket recs = head_spelling deletes bucket (length recs) ++ flat_map rec_spelling recs

-- ---- what a file takes

abbrev pub FlatIsTaken : Value-F Value → Type 0
FlatIsTaken Value-F.Null = Unit {0}
FlatIsTaken (Value-F.Bool b) = Unit {0}
FlatIsTaken (Value-F.Int n) = Unit {0}
FlatIsTaken (Value-F.Big n) = Unit {0}
FlatIsTaken (Value-F.Str text) = Unit {0}
FlatIsTaken (Value-F.Day n) = IsTrue (is_day n)
FlatIsTaken (Value-F.Array items) = ⊥

unfoldable pub ElementIsTaken : Value → Type 0
ElementIsTaken value = FlatIsTaken (out-Value value)

abbrev pub LayerIsTaken : Value-F Value → Type 0
LayerIsTaken Value-F.Null = Unit {0}
LayerIsTaken (Value-F.Bool b) = Unit {0}
LayerIsTaken (Value-F.Int n) = Unit {0}
LayerIsTaken (Value-F.Big n) = Unit {0}
LayerIsTaken (Value-F.Str text) = Unit {0}
LayerIsTaken (Value-F.Day n) = IsTrue (is_day n)
LayerIsTaken (Value-F.Array items) = AllByRecursion ElementIsTaken items

-- a value that a file takes: days are dates, and an array has no arrays among its elements
unfoldable pub ValueIsTaken : Value → Type 0
ValueIsTaken value = LayerIsTaken (out-Value value)

pub record RowIsTaken (row : Row) : Type 0 where
  pub count : length row.values ≤ 65535
  pub short : length (flat_map value_spelling row.values) ≤ 65536
  pub values : AllByRecursion ValueIsTaken row.values

pub record KeyIsTaken (bucket : ℕ) (id : RowId) : Type 0 where
  pub bucket_same : id.bucket ≡ bucket
  pub written : 1 ≤ id.write.0

-- a record of the file's kind and bucket
abbrev pub RecIsTaken : Bool → ℕ → Rec → Type 0
RecIsTaken deletes bucket (rec.Insert id row) = (deletes ≡ false) × KeyIsTaken bucket id × RowIsTaken row
RecIsTaken deletes bucket (rec.Delete id by) = (deletes ≡ true) × KeyIsTaken bucket id × (1 ≤ by.0)

abbrev pub id_of : Rec → RowId
id_of (rec.Insert id row) = id
id_of (rec.Delete id by) = id

-- it comes behind the record before it, if there is one
abbrev pub Follows : Option RowId → Rec → Type 0
Follows None r = Unit {0}
Follows (Some before) r = row_id_cmp before (id_of r) ≡ Less

-- each record behind the one before it: within a bucket by write id, statement and row number
abbrev pub RisesFrom : Option RowId → List Rec → Type 0
RisesFrom before [] = Unit {0}
RisesFrom before (r ∷ recs) = Follows before r × RisesFrom (Some (id_of r)) recs

-- what can be written as a file of this kind and bucket
pub record CanWrite (deletes : Bool) (bucket : ℕ) (recs : List Rec) : Type 0 where
  pub each : AllByRecursion (RecIsTaken deletes bucket) recs
  pub rising : RisesFrom None recs

-- ---- What fits the fields: numbers within their widths, and texts in UTF-8. Of what the code's types hold
-- only the lengths are in doubt.

abbrev pub FlatFits : Value-F Value → Type 0
FlatFits Value-F.Null = Unit {0}
FlatFits (Value-F.Bool b) = Unit {0}
FlatFits (Value-F.Int n) = FitsSigned w32 n
FlatFits (Value-F.Big n) = FitsSigned w64 n
FlatFits (Value-F.Str text) = IsText text
FlatFits (Value-F.Day n) = FitsSigned w32 n
FlatFits (Value-F.Array items) = Unit {0}

unfoldable pub ElementFits : Value → Type 0
ElementFits value = FlatFits (out-Value value)

abbrev pub LayerFits : Value-F Value → Type 0
LayerFits Value-F.Null = Unit {0}
LayerFits (Value-F.Bool b) = Unit {0}
LayerFits (Value-F.Int n) = FitsSigned w32 n
LayerFits (Value-F.Big n) = FitsSigned w64 n
LayerFits (Value-F.Str text) = IsText text
LayerFits (Value-F.Day n) = FitsSigned w32 n
LayerFits (Value-F.Array items) = (length items < 2 ^ 32) × AllByRecursion ElementFits items

unfoldable pub ValueFits : Value → Type 0
ValueFits value = LayerFits (out-Value value)

pub record KeyFits (id : RowId) : Type 0 where
  pub write : id.write.0 < 2 ^ 64
  pub statement : id.statement < 2 ^ 32
  pub row : id.row < 2 ^ 64

abbrev pub RecFits : Rec → Type 0
RecFits (rec.Insert id row) = KeyFits id × AllByRecursion ValueFits row.values
RecFits (rec.Delete id by) = KeyFits id × (by.0 < 2 ^ 64)

-- a file's kind, bucket and records
pub record IsFile (deletes : Bool) (bucket : ℕ) (recs : List Rec) : Type 0 where
  pub can_write : CanWrite deletes bucket recs
  pub fits : AllByRecursion RecFits recs
  pub bucket_fits : bucket < 2 ^ 32
  pub count_fits : length recs < 2 ^ 64

-- ---- where a file is damaged

-- a record that may stand behind this one
pub record IsNext (deletes : Bool) (bucket : ℕ) (before : Option RowId) (r : Rec) : Type 0 where
  pub taken : RecIsTaken deletes bucket r
  pub fits : RecFits r
  pub follows : Follows before r

-- the bytes begin with these records, and the rest stands behind them
abbrev pub Leads : Bool → ℕ → Option RowId → List Rec → List ℕ → List ℕ → Type 0
Leads deletes bucket before [] bytes rest = bytes ≡ rest
Leads deletes bucket before (r ∷ recs) bytes rest =
    (after : List ℕ) × IsNext deletes bucket before r × (bytes ≡ rec_spelling r ++ after)
    × Leads deletes bucket (Some (id_of r)) recs after rest

abbrev pub last_id : Option RowId → List Rec → Option RowId
last_id before [] = before
last_id before (r ∷ recs) = last_id (Some (id_of r)) recs

-- no record that may stand here does
abbrev pub HasNoNext : Bool → ℕ → Option RowId → List ℕ → Type 0
HasNoNext deletes bucket before rest =
    (r : Rec) (after : List ℕ) → IsNext deletes bucket before r → rest ≢ rec_spelling r ++ after

-- the bytes don't begin with a file's mark, or its kind, bucket or count is wrong or cut off
abbrev pub IsBadMark : List ℕ → Type 0
IsBadMark bytes = (rest : List ℕ) → bytes ≢ codes "HVR1" ++ rest

pub record IsBadKind (bytes : List ℕ) : Type 0 where
  pub rest : List ℕ
  pub parts : bytes ≡ codes "HVR1" ++ rest
  pub none : (deletes : Bool) (after : List ℕ) → rest ≢ truth_byte deletes ∷ after

pub record IsBadBucket (bytes : List ℕ) : Type 0 where
  pub deletes : Bool
  pub rest : List ℕ
  pub parts : bytes ≡ codes "HVR1" ++ (truth_byte deletes ∷ rest)
  pub short : length rest < 4

pub record IsBadCount (bytes : List ℕ) : Type 0 where
  pub deletes : Bool
  pub bucket : ℕ
  pub rest : List ℕ
  pub parts : bytes ≡ codes "HVR1" ++ (truth_byte deletes ∷ four_bytes bucket ++ rest)
  pub short : length rest < 8

-- behind these records, which begin the file, the next one is wrong or cut off, or bytes follow the last
pub record IsBadBehind (bytes : List ℕ) (recs : List Rec) : Type 0 where
  pub deletes : Bool
  pub bucket : ℕ
  pub count : ℕ
  pub body : List ℕ
  pub rest : List ℕ
  pub bucket_fits : bucket < 2 ^ 32
  pub count_fits : count < 2 ^ 64
  pub parts : bytes ≡ head_spelling deletes bucket count ++ body
  pub leads : Leads deletes bucket None recs body rest
  pub within : length recs ≤ count
  pub wrong : ((length recs < count) × HasNoNext deletes bucket (last_id None recs) rest)
      ⊎ ((length recs ≡ count) × (rest ≢ []))

-- the offset of the first part of the head, or record, that is wrong, or of what follows the last record
abbrev pub IsDamagedAt : List ℕ → ℕ → Type 0
IsDamagedAt bytes at =
    ((at ≡ 0) × IsBadMark bytes)
    ⊎ (((at ≡ 4) × IsBadKind bytes)
    ⊎ (((at ≡ 5) × IsBadBucket bytes)
    ⊎ (((at ≡ 9) × IsBadCount bytes)
    ⊎ ((recs : List Rec) × (at ≡ 17 + length (flat_map rec_spelling recs)) × IsBadBehind bytes recs))))
