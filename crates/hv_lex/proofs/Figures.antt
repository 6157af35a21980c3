-- Numbers: digits, their value, and the mark behind them.
use Rattle.std.proofs.Common.{◌≡◌, ℕ, ◌+◌, ◌*◌, ◌<◌, ◌≤◌, Bool, true, false, cond, [], ◌∷◌, take, drop, length, get_or, arith, rules, refl, sym, subst}
use Rattle.std.proofs.lemmas.Bool.Decides.{nat_tests}
use Rattle.std.specs.List.{prefix_len, take_while}
use Rattle.std.proofs.lemmas.List.Sums.{take_while-cons}
use Rattle.std.specs.Char.{is_ascii_digit, digit_value}
use Rattle.std.specs.Str.Parse.{AllDigits, digits_value_after}
use Rattle.std.proofs.lemmas.List.{drop_more}
use Rattle.hv_ast.specs.Tokens.{Text}

-- further digits make no number smaller
pub value_grows : (n : ℕ) (digits : Text) → n ≤ digits_value_after 10 n digits
value_grows n [] = omega arith
value_grows n (c ∷ digits) =
    let more = value_grows (n * 10 + digit_value c) digits in omega arith

-- one digit is taken in
pub value_more : (digits : Text) (value i : ℕ) → i < length digits
    → digits_value_after 10 value (drop i digits)
    ≡ digits_value_after 10 (value * 10 + digit_value (get_or digits i 0)) (drop (i + 1) digits)
value_more digits value i within = rw (drop_more digits i 0 within)

digit_small : (c : ℕ) → is_ascii_digit c ≡ true → digit_value c < 10
digit_small c test = grind (arith, nat_tests)

one_more : (c : ℕ) (rest : Text) (digit : Bool) → is_ascii_digit c ≡ digit → AllDigits 10 rest → AllDigits 10 (cond digit (c ∷ rest) [])
one_more c rest true test all = (digit_small c test, all)
one_more c rest false test all = search rules

run_digits : (text : Text) → AllDigits 10 (take_while is_ascii_digit text)
run_digits [] = search rules
run_digits (c ∷ text) =
    subst (AllDigits 10) (sym (take_while-cons is_ascii_digit c text))
    (one_more c (take_while is_ascii_digit text) (is_ascii_digit c) refl (run_digits text))

pub digits_front : (text : Text) (n : ℕ) → n ≡ prefix_len is_ascii_digit text → AllDigits 10 (take n text)
digits_front text n same = subst (λ (k : ℕ). AllDigits 10 (take k text)) (sym same) (run_digits text)
