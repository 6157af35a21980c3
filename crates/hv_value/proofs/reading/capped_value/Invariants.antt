use Rattle.std.proofs.Common.{◌≡◌, ◌-◌, ◌^◌, min, take, fold}
use Rattle.hv_value.specs.Digits.{with_digit}
use Rattle.hv_value.proofs.reading.capped_value.Given as goal

abbrev pub invariant-loop-digit : goal.invariant-loop-digit
invariant-loop-digit l = l.value ≡ min (fold with_digit 0 (take l.digit-index l.digits)) (2 ^ 64 - 1)
