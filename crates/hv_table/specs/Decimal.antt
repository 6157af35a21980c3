-- Numbers in fixed width: positional notation in base ten, as the names of Hive's directories write
-- them (delta_0000012_0000015).
use Rattle.std.specs.Prelude.{ℕ, zero, suc, ◌+◌, ◌/◌, ◌%◌, List, [], ◌∷◌, ◌++◌}
use Rattle.std.specs.Str.Parse.{digits_value}

-- the number that decimal digits spell, the most significant digit first
abbrev pub number_of : List ℕ → ℕ
number_of digits = digits_value 10 digits

-- the last digits of a number, `width` of them: 48 is the byte '0'
unfoldable pub fixed_digits : ℕ → ℕ → List ℕ
fixed_digits zero number = []
fixed_digits (suc width) number = fixed_digits width (number / 10) ++ (48 + number % 10) ∷ []
