-- How many bytes a row takes in a row file: each value a tag byte and its content, and so the limit of a row.
-- This project's profile.
use Rattle.std.specs.Prelude.{ℕ, ◌+◌, Bool, nat_le, List, length, sum, sum_by}
use Rattle.hv_value.specs.declared.value.Value.{Value}
use Rattle.hv_value.specs.declared.value.Value.TheOpen.{Value-F}
use Rattle.hv_value.specs.declared.value.Value.TheFolds.{fold-Value}
use Rattle.hv_value.specs.declared.row.Row.{Row}

-- a value's bytes, where an array's items take so many
abbrev pub layer_size : Value-F ℕ → ℕ
layer_size Value-F.Null = 1
layer_size (Value-F.Bool b) = 2
layer_size (Value-F.Int n) = 5
layer_size (Value-F.Big n) = 9
layer_size (Value-F.Str text) = 5 + length text
layer_size (Value-F.Day n) = 5
layer_size (Value-F.Array sizes) = 5 + sum sizes

unfoldable pub stored_size : Value → ℕ
stored_size = fold-Value ℕ layer_size

abbrev pub values_size : List Value → ℕ
values_size values = sum_by stored_size values

-- the most bytes of a row's values
abbrev pub row_limit : ℕ
row_limit = 65536

abbrev pub values_fit : List Value → Bool
values_fit values = nat_le (values_size values) row_limit

abbrev pub row_size : Row → ℕ
row_size row = values_size row.values

abbrev pub row_fits : Row → Bool
row_fits row = values_fit row.values
