-- The text that names a partition (Hive Language Manual, DDL: a folder `column=value` for each partition column;
-- how values are escaped is this project's profile).
use Rattle.std.specs.Prelude.{ℕ, ◌+◌, ◌==◌, ◌||◌, if◌then◌else◌, not, Bool, true, false, List, [], ◌∷◌, ◌++◌, length, take, drop, slice_get, Option, None, Some, codes}
use Rattle.std.specs.Str.{bytes_eq, is_utf8}
use Rattle.std.specs.List.{flat_map, prefix_len, join_with_byte}
use Rattle.std.specs.Char.{is_ascii_alphanumeric}
use Rattle.percent_encoding.specs.Percent.{percent_encode_byte, percent_decode}
use Rattle.hv_value.specs.Conversion.{converted, from_text}
use Rattle.hv_value.specs.declared.sql_type.SqlType.{SqlType}
use Rattle.hv_value.specs.declared.sql_type.SqlType.TheVariants as type
use Rattle.hv_value.specs.declared.value.Value.{Value}
use Rattle.hv_value.specs.declared.value.Value.TheOpen.{Value-F}
use Rattle.hv_value.specs.declared.value.Value.TheVariants as value
use Rattle.hv_value.specs.declared.value.Value.TheViews.{out-Value}
use Rattle.hv_logic.specs.declared.catalog.Column.{Column}

abbrev pub dash : ℕ
dash = 45

abbrev pub slash : ℕ
slash = 47

abbrev pub equals_sign : ℕ
equals_sign = 61

-- the name that Hive gives the partition of NULL
unfoldable pub default_partition : List ℕ
default_partition = codes "__HIVE_DEFAULT_PARTITION__"

-- ASCII letters, digits and `-` stand for themselves
abbrev pub is_plain : ℕ → Bool
is_plain byte = is_ascii_alphanumeric byte || (byte == dash)

-- any other byte is `%` and its two hexadecimal digits in capitals
abbrev pub escaped_byte : ℕ → List ℕ
escaped_byte byte = if is_plain byte then byte ∷ [] else percent_encode_byte byte

unfoldable pub escaped : List ℕ → List ℕ
escaped text = flat_map escaped_byte text

-- a value in a partition's text, once it is converted to STRING
abbrev pub layer_text : Value-F Value → List ℕ
layer_text (Value-F.Str text) = escaped text
layer_text _ = default_partition

unfoldable pub value_text : Value → List ℕ
value_text v = layer_text (out-Value (converted v type.Str))

-- a value that the row lacks counts as NULL
abbrev pub or_null : Option Value → Value
or_null None = value.Null
or_null (Some v) = v

-- `column=value`
abbrev pub piece_text : Column → Option Value → List ℕ
piece_text column v = column.name ++ equals_sign ∷ value_text (or_null v)

-- what stands before the piece at this place
abbrev pub separator : ℕ → List ℕ
separator place = if place == 0 then [] else slash ∷ []

-- the piece of each partition column
abbrev pub pieces : List Column → List Value → List (List ℕ)
pieces [] values = []
pieces (column ∷ more) values = piece_text column (slice_get values 0) ∷ pieces more (drop 1 values)

-- those with `/` between; the empty text for a table without partition columns
abbrev pub partition_text : List Column → List Value → List ℕ
partition_text columns values = join_with_byte slash (pieces columns values)

-- ---- the way back

abbrev pub truth_of : List ℕ → Value
truth_of text =
    if bytes_eq text (codes "TRUE") then value.Bool true
    else if bytes_eq text (codes "FALSE") then value.Bool false else value.Null

-- the value of a column's type that this text converts to
abbrev pub read_as : SqlType → List ℕ → Value
read_as type.Boolean text = truth_of text
read_as kind text = from_text text kind

-- what is no text counts as NULL
abbrev pub read_if_text : SqlType → List ℕ → Value
read_if_text kind bytes = if is_utf8 bytes then read_as kind bytes else value.Null

abbrev pub read_value : SqlType → List ℕ → Value
read_value kind piece =
    if bytes_eq piece default_partition then value.Null else read_if_text kind (percent_decode piece)

abbrev pub is_inside : ℕ → Bool
is_inside byte = not (byte == slash)

-- what stands behind a column's name and `=`
abbrev pub behind_name : Column → List ℕ → List ℕ
behind_name column text = drop (length column.name + 1) text

-- how many bytes stand before the next `/`
abbrev pub piece_length : List ℕ → ℕ
piece_length text = prefix_len is_inside text

-- the value at the front
abbrev pub first_value : Column → List ℕ → Value
first_value column text =
    let behind = behind_name column text in read_value column.kind (take (piece_length behind) behind)

-- what stands behind the piece at the front and its `/`
abbrev pub behind_piece : Column → List ℕ → List ℕ
behind_piece column text =
    let behind = behind_name column text in drop (piece_length behind + 1) behind

-- the values of a partition's text, one for each partition column
abbrev pub partition_values : List Column → List ℕ → List Value
partition_values [] text = []
partition_values (column ∷ more) text =
    first_value column text ∷ partition_values more (behind_piece column text)
