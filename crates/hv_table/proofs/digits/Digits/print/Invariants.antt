use Rattle.std.proofs.Common.{◌≡◌, ◌++◌, drop, length}
use Rattle.hv_table.specs.Decimal.{fixed_digits}
use Rattle.hv_table.proofs.digits.Digits.print.Given as goal

abbrev pub invariant-loop-place : goal.invariant-loop-place
invariant-loop-place g l =
    (length l.digits ≡ g.row.W) × (fixed_digits g.row.W l.fn.value ≡ fixed_digits l.place l.rest ++ drop l.place l.digits)
