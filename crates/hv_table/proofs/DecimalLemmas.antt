-- Numbers in fixed width: one digit more, and the room that they take.
use Rattle.std.proofs.Common.{refl, ◌≡◌, ℕ, zero, suc, ◌+◌, ◌*◌, ◌/◌, ◌%◌, ◌^◌, ◌<◌, ◌≤◌, List, [], ◌∷◌, ◌++◌, take, length, get_or, sym, ap, ◌∙◌, arith, rules}
use Rattle.std.specs.Char.{digit_value}
use Rattle.std.specs.Str.Parse.{AllDigits}
use Rattle.std.proofs.lemmas.Int.Digits.{digits_value_push, digits_value_more, digits_push, digits_more}
use Rattle.std.proofs.lemmas.Str.{digit_value_digit}
use Rattle.std.proofs.lemmas.List.{take_more, length_push}
use Rattle.std.proofs.lemmas.Grind.{pow_more}
use Rattle.std.proofs.Math.Nat.{pow-le-pow_right}
use Rattle.hv_table.specs.Decimal.{number_of, fixed_digits}

-- the byte of a digit has the digit's value
digit_value-byte : (d : ℕ) → d < 10 → digit_value (48 + d) ≡ d
digit_value-byte d small =
    let h : digit_value (48 + d) + 48 ≡ 48 + d = digit_value_digit (48 + d) (search rules) in
    omega arith

pub AllDigits-fixed_digits : (width number : ℕ) → AllDigits 10 (fixed_digits width number)
unfolding fixed_digits
AllDigits-fixed_digits zero number = search rules
AllDigits-fixed_digits (suc width) number =
    let value : digit_value (48 + number % 10) ≡ number % 10 = digit_value-byte (number % 10) (omega arith) in
    digits_push 10 (fixed_digits width (number / 10)) (48 + number % 10) (AllDigits-fixed_digits width (number / 10)) (omega arith)

-- printing, then reading
pub number_of-fixed_digits : (width number : ℕ) → number < 10 ^ width → number_of (fixed_digits width number) ≡ number
unfolding fixed_digits
number_of-fixed_digits zero number fits = omega arith
number_of-fixed_digits (suc width) number fits =
    let room : number / 10 < 10 ^ width = omega arith in
    let front = number_of-fixed_digits width (number / 10) room in
    let value : digit_value (48 + number % 10) ≡ number % 10 = digit_value-byte (number % 10) (omega arith) in
    let whole = digits_value_push 10 (fixed_digits width (number / 10)) (48 + number % 10) in
    omega arith

-- the digits of a number with one digit more
pub fixed_digits-more : (width value digit : ℕ) → digit < 10 → fixed_digits (suc width) (value * 10 + digit) ≡ fixed_digits width value ++ (48 + digit) ∷ []
unfolding fixed_digits
fixed_digits-more width value digit small =
    let front : (value * 10 + digit) / 10 ≡ value = omega arith in
    let last : (value * 10 + digit) % 10 ≡ digit = omega arith in
    rw (front, last)

-- one digit more than a number within 18 digits has fits 64 bits
pub room_for_more : (width index value digit : ℕ) → width ≤ 18 → index < width → value < 10 ^ index → digit < 10 → value * 10 + digit < 2 ^ 64
room_for_more width index value digit narrow within fits small =
    let most : 10 ^ (index + 1) ≤ 10 ^ 18 = pow-le-pow_right (omega arith) {i = index + 1} {j = 18} (omega arith) in
    let power : 10 ^ (index + 1) ≡ 10 ^ index * 10 = pow_more 10 index in
    omega arith

-- the first digits are read: their number, its room, and what it prints
pub record IsReadUpTo (index : ℕ) (bytes : List ℕ) (value : ℕ) : Type 0 where
  pub digits : AllDigits 10 (take index bytes)
  pub number : value ≡ number_of (take index bytes)
  pub fits : value < 10 ^ index
  pub prints_back : fixed_digits index value ≡ take index bytes

pub IsReadUpTo-more : (bytes : List ℕ) (index value byte digit : ℕ) → IsReadUpTo index bytes value → index < length bytes → byte ≡ get_or bytes index 0 → digit < 10 → byte ≡ 48 + digit → IsReadUpTo (index + 1) bytes (value * 10 + digit)
IsReadUpTo-more bytes index value byte digit read within at small spelled =
    let same : get_or bytes index 0 ≡ 48 + digit = cc in
    let worth : digit_value (get_or bytes index 0) ≡ digit = ap digit_value same ∙ digit_value-byte digit small in
    let turn = digits_value_more 10 bytes index within in
    let more = take_more bytes index 0 within in
    let next : index + 1 ≡ suc index = omega arith in
    let power : 10 ^ (index + 1) ≡ 10 ^ index * 10 = pow_more 10 index in
    let fits : value < 10 ^ index = read.fits in
    record {
      digits = digits_more 10 bytes index within read.digits (omega arith);
      number = omega (arith, read.number);
      fits = omega arith;
      prints_back =
          rw next (fixed_digits-more index value digit small
          ∙ ap (λ front. front ++ (48 + digit) ∷ []) read.prints_back
          ∙ ap (λ last. take index bytes ++ last ∷ []) (sym same)
          ∙ sym more ∙ ap (λ count. take count bytes) next);
    }

pub length-fixed_digits : (width number : ℕ) → length (fixed_digits width number) ≡ width
unfolding fixed_digits
length-fixed_digits zero number = refl
length-fixed_digits (suc width) number =
    omega (arith, length_push (fixed_digits width (number / 10)) (48 + number % 10), length-fixed_digits width (number / 10))

-- numbers that print alike are one number
pub fixed_digits-same : (width left right : ℕ) → left < 10 ^ width → right < 10 ^ width → fixed_digits width left ≡ fixed_digits width right → left ≡ right
fixed_digits-same width left right first second same =
    sym (number_of-fixed_digits width left first) ∙ ap number_of same ∙ number_of-fixed_digits width right second
