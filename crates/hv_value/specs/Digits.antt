-- Decimal digits, as texts are read.
use Rattle.std.specs.Prelude.{ℕ, ◌+◌, ◌-◌, ◌*◌, List, fold}
use Rattle.std.specs.Char.{is_ascii_digit}
use Rattle.std.specs.List.{prefix_len}
use Rattle.hv_value.specs.Bytes.{digit_zero}

-- the number that decimal digits write
abbrev pub with_digit : ℕ → ℕ → ℕ
with_digit n digit = 10 * n + (digit - digit_zero)

unfoldable pub numeral_value : List ℕ → ℕ
numeral_value digits = fold with_digit 0 digits

-- how many digits the bytes begin with
abbrev pub digit_count : List ℕ → ℕ
digit_count bytes = prefix_len is_ascii_digit bytes
