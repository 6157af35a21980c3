-- Integers in their widths.
use Rattle.std.proofs.Common.{◌≡◌, ℕ, zero, suc, ◌<◌, ◌≤◌, ◌/◌, ℤ, pos, negsuc, neg_ℤ, int_div, unsigned_abs, sym, ap, ◌∙◌, arith}
use Rattle.std.specs.Prelude.{FitsSigned}
use Rattle.std.specs.Int.{int_wrap, int_wrapping_div, cast_signed, cast_unsigned, w32, w64}
use Rattle.std.proofs.lemmas.Int.{to_z-of_z, int_wrap_fits}
use Rattle.std.proofs.Math.Nat.{div-le_self}

abs_neg : (n m : ℕ) → n ≤ m → unsigned_abs (neg_ℤ (pos n)) ≤ m
abs_neg zero m h = h
abs_neg (suc n) m h = h

-- a quotient is not larger than what is divided
quotient_bound : (a b : ℤ) → unsigned_abs (int_div a b) ≤ unsigned_abs a
quotient_bound (pos a) (pos b) = div-le_self a b
quotient_bound (pos a) (negsuc b) = abs_neg (a / suc b) a (div-le_self a (suc b))
quotient_bound (negsuc a) (pos b) = abs_neg (suc a / b) (suc a) (div-le_self (suc a) b)
quotient_bound (negsuc a) (negsuc b) = div-le_self (suc a) (suc b)

kept-w32 : (n : ℕ) → n < 4294967296 → int_wrap w32 (pos n) ≡ cast_signed w32 n
unfolding int_wrap
kept-w32 n h = ap (cast_signed w32) (omega arith)

wraps-w32 : (z : ℤ) → unsigned_abs z ≤ 2147483648 → cast_signed w32 (cast_unsigned w32 z) ≡ int_wrap w32 z
wraps-w32 (pos n) h = sym (kept-w32 n (omega arith))
wraps-w32 (negsuc n) h =
    let fits : FitsSigned w32 (negsuc n) = record { sfits = omega arith } in
    to_z-of_z w32 (negsuc n) fits ∙ sym (int_wrap_fits w32 (negsuc n) fits)

bound-w32 : (a : ℤ) → FitsSigned w32 a → unsigned_abs a ≤ 2147483648
bound-w32 (pos n) f = let h = f.sfits in omega arith
bound-w32 (negsuc n) f = let h = f.sfits in omega arith

pub divided-w32 : (a b : ℤ) → FitsSigned w32 a → int_wrapping_div w32 a b ≡ int_wrap w32 (int_div a b)
divided-w32 a b f = let bound = bound-w32 a f in let less = quotient_bound a b in wraps-w32 (int_div a b) (omega arith)

kept-w64 : (n : ℕ) → n < 18446744073709551616 → int_wrap w64 (pos n) ≡ cast_signed w64 n
unfolding int_wrap
kept-w64 n h = ap (cast_signed w64) (omega arith)

wraps-w64 : (z : ℤ) → unsigned_abs z ≤ 9223372036854775808 → cast_signed w64 (cast_unsigned w64 z) ≡ int_wrap w64 z
wraps-w64 (pos n) h = sym (kept-w64 n (omega arith))
wraps-w64 (negsuc n) h =
    let fits : FitsSigned w64 (negsuc n) = record { sfits = omega arith } in
    to_z-of_z w64 (negsuc n) fits ∙ sym (int_wrap_fits w64 (negsuc n) fits)

bound-w64 : (a : ℤ) → FitsSigned w64 a → unsigned_abs a ≤ 9223372036854775808
bound-w64 (pos n) f = let h = f.sfits in omega arith
bound-w64 (negsuc n) f = let h = f.sfits in omega arith

pub divided-w64 : (a b : ℤ) → FitsSigned w64 a → int_wrapping_div w64 a b ≡ int_wrap w64 (int_div a b)
divided-w64 a b f = let bound = bound-w64 a f in let less = quotient_bound a b in wraps-w64 (int_div a b) (omega arith)

pub ruleset quotients = (divided-w32, divided-w64)
