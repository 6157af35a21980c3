-- The bucket in which a row of a clustered table stands (Hive Language Manual, bucketed tables: the hash of the
-- bucket columns modulo the number of buckets; the hash itself is this project's profile).
use Rattle.std.specs.Prelude.{ℕ, ◌+◌, ◌*◌, ◌/◌, ◌%◌, ◌^◌, ◌==◌, if◌then◌else◌, List, fold, slice_get, ℤ, Option, Some}
use Rattle.std.specs.Int.{cast_unsigned, w32, w64}
use Rattle.std.specs.Int.Bits.{bit_xor}
use Rattle.hv_value.specs.Dates.{is_day}
use Rattle.hv_value.specs.declared.sql_type.SqlType.{SqlType}
use Rattle.hv_value.specs.declared.sql_type.SqlType.TheVariants as type
use Rattle.hv_value.specs.declared.value.Value.{Value}
use Rattle.hv_value.specs.declared.value.Value.TheOpen.{Value-F}
use Rattle.hv_value.specs.declared.value.Value.TheViews.{out-Value}
use Rattle.hv_logic.specs.declared.catalog.Column.{Column}

-- a hash that one more number joins
abbrev pub hash_more : ℕ → ℕ → ℕ
hash_more hash part = (31 * hash + part) % 2 ^ 32

-- the hash of numbers, from the left
abbrev pub hash_of : List ℕ → ℕ
hash_of parts = fold hash_more 0 parts

-- the two halves of 64 bits, joined by exclusive or
abbrev pub halves : ℕ → ℕ
halves bits = bit_xor (bits / 2 ^ 32) (bits % 2 ^ 32)

-- what a BIGINT adds
abbrev pub big_part : ℤ → ℕ
big_part z = halves (cast_unsigned w64 z)

-- What a value adds to the hash. NULL adds 0, and so does what isn't of the column's type or a date out of range.
-- A date adds its day number, a text the hash of its bytes.
abbrev pub layer_part : SqlType → Value-F Value → ℕ
layer_part type.Boolean (Value-F.Bool b) = if b then 1 else 0
layer_part type.Int (Value-F.Int z) = cast_unsigned w32 z
layer_part type.BigInt (Value-F.Big z) = big_part z
layer_part type.Str (Value-F.Str text) = hash_of text
layer_part type.Date (Value-F.Day day) = if is_day day then cast_unsigned w32 day else 0
layer_part _ _ = 0

abbrev pub part_of : SqlType → Value → ℕ
part_of kind value = layer_part kind (out-Value value)

-- a column that the row lacks counts as NULL
abbrev pub part_at : Option Column → Option Value → ℕ
part_at (Some column) (Some value) = part_of column.kind value
part_at _ _ = 0

-- the hash of a row, joined by one bucket column more
abbrev pub next_hash : List Column → List Value → ℕ → ℕ → ℕ
next_hash columns values hash place =
    hash_more hash (part_at (slice_get columns place) (slice_get values place))

-- the hash of the row's values at these places, those of the bucket columns
abbrev pub bucket_hash : List Column → List ℕ → List Value → ℕ
bucket_hash columns places values = fold (next_hash columns values) 0 places

-- the row's bucket
abbrev pub bucket_of : List Column → List ℕ → ℕ → List Value → ℕ
bucket_of columns places buckets values =
    if buckets == 0 then 0 else bucket_hash columns places values % 2 ^ 31 % buckets
