-- The text of a date is ASCII.
use Rattle.std.proofs.Common.{ℕ, zero, suc, ◌/◌, ◌<◌, List, [], ◌∷◌, lit<, slice_index, arith}
use Rattle.std.specs.Str.{IsAscii, IsUtf8}
use Rattle.std.proofs.lemmas.Str.{IsUtf8-from_ascii}
use Rattle.hv_value.specs.declared.dates.CivilDate.{CivilDate}
use Rattle.hv_value.specs.Bytes.{minus_sign}
use Rattle.hv_value.specs.Dates.{civil_text, last_digit}

digit_ascii : (n : ℕ) → last_digit n < 128
digit_ascii n = omega arith

-- as a record, so that its type tells the bytes
record Plain (bytes : List ℕ) : Type 0 where
  ascii : IsAscii bytes

nothing : Plain []
nothing = record { ascii = λ i. omega arith }

more : (c : ℕ) {cs : List ℕ} → c < 128 → Plain cs → Plain (c ∷ cs)
more c {cs} h rest = record { ascii = by }
  where
    by : (i : ℕ) → slice_index (c ∷ cs) i < 128
    by zero = h
    by (suc i) = rest.ascii i

digit : (n : ℕ) {cs : List ℕ} → Plain cs → Plain (last_digit n ∷ cs)
digit n rest = more (last_digit n) (digit_ascii n) rest

dash : {cs : List ℕ} → Plain cs → Plain (minus_sign ∷ cs)
dash rest = more minus_sign (lit< tt) rest

plain_date : (date : CivilDate) → Plain (civil_text date)
unfolding civil_text
plain_date date =
    let day = digit (date.day / 10) (digit date.day nothing) in
    let month = digit (date.month / 10) (digit date.month (dash day)) in
    digit (date.year / 1000) (digit (date.year / 100) (digit (date.year / 10) (digit date.year (dash month))))

pub civil_text-utf8 : (date : CivilDate) → IsUtf8 (civil_text date)
civil_text-utf8 date = IsUtf8-from_ascii (civil_text date) (plain_date date).ascii
