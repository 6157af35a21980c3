-- The law of the way back: the text of a partition says its values.
use Rattle.std.specs.Prelude.{◌≡◌, ◌<◌, All, Bool, true, false, FitsSigned, IsSome, IsTrue, List, [], ◌∷◌}
use Rattle.std.specs.Int.{w32, w64}
use Rattle.std.specs.List.{AllByRecursion}
use Rattle.std.specs.Str.{IsUtf8}
use Rattle.hv_value.specs.Conversion.{is_of}
use Rattle.hv_value.specs.Dates.{date_of}
use Rattle.hv_value.specs.declared.row.Row.{Row}
use Rattle.hv_value.specs.declared.sql_type.SqlType.{SqlType}
use Rattle.hv_value.specs.declared.sql_type.SqlType.TheVariants as type
use Rattle.hv_value.specs.declared.value.Value.{Value}
use Rattle.hv_value.specs.declared.value.Value.TheOpen.{Value-F}
use Rattle.hv_value.specs.declared.value.Value.TheViews.{out-Value}
use Rattle.hv_logic.specs.declared.catalog.Column.{Column}
use Rattle.hv_route.specs.Partitions.{partition_text, partition_values, read_value, value_text}

-- the text of the value says it
abbrev pub SaysValue : SqlType → Value → Type 0
SaysValue kind v = read_value kind (value_text v) ≡ v

-- there are as many values as columns, and each one's text says it
abbrev pub SayValues : List Column → List Value → Type 0
SayValues [] [] = Unit {0}
SayValues [] (v ∷ values) = ⊥
SayValues (column ∷ columns) [] = ⊥
SayValues (column ∷ columns) (v ∷ values) = SaysValue column.kind v × SayValues columns values

-- then the text of the partition says all of them
abbrev pub TextSaysValues : Type 0
TextSaysValues =
    (columns : List Column) (values : List Value) → SayValues columns values → partition_values columns (partition_text columns values) ≡ values

-- NULL, a BOOLEAN, a number of its width, a text in UTF-8, and the day of a date, each where its column is of that type
abbrev pub IsSaidLayer : SqlType → Value-F Value → Type 0
IsSaidLayer kind Value-F.Null = Unit {0}
IsSaidLayer type.Boolean (Value-F.Bool b) = Unit {0}
IsSaidLayer type.Int (Value-F.Int z) = FitsSigned w32 z
IsSaidLayer type.BigInt (Value-F.Big z) = FitsSigned w64 z
IsSaidLayer type.Str (Value-F.Str text) = IsUtf8 text × All (λ b. b < 256) text
IsSaidLayer type.Date (Value-F.Day day) = IsSome (date_of day)
IsSaidLayer _ _ = ⊥

abbrev pub SaysLayers : Type 0
SaysLayers = (kind : SqlType) (v : Value) → IsSaidLayer kind (out-Value v) → SaysValue kind v

-- ---- so the values of a row's partition columns are said

-- what a value of the code's types holds: a number of its width, a text in UTF-8
abbrev pub IsHeldLayer : Value-F Value → Type 0
IsHeldLayer (Value-F.Int z) = FitsSigned w32 z
IsHeldLayer (Value-F.Big z) = FitsSigned w64 z
IsHeldLayer (Value-F.Str text) = IsUtf8 text
IsHeldLayer _ = Unit {0}

unfoldable pub IsHeld : Value → Type 0
IsHeld v = IsHeldLayer (out-Value v)

abbrev pub AreHeld : List Row → Type 0
AreHeld rows = AllByRecursion (λ (row : Row). AllByRecursion IsHeld row.values) rows

-- a type that a partition column may have: no ARRAY
abbrev pub is_flat : SqlType → Bool
is_flat (type.ArrayOf e) = false
is_flat _ = true

abbrev pub AreFlat : List Column → Type 0
AreFlat columns = AllByRecursion (λ (column : Column). is_flat column.kind ≡ true) columns

-- such a value of such a type
abbrev pub TypedAreSaid : Type 0
TypedAreSaid = (kind : SqlType) (v : Value) → is_flat kind ≡ true → IsTrue (is_of kind v) → IsHeld v → SaysValue kind v
