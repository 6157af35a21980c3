use Rattle.std.proofs.Common.{◌≡◌, ◌≤◌, drop, fold}
use Rattle.hv_history.specs.Thresholds.{with_digit}
use Rattle.hv_queue.proofs.SetLemmas.{bound_at}
use Rattle.hv_queue.proofs.digits.number_of.Given as goal

abbrev pub invariant-loop-byte : goal.invariant-loop-byte
invariant-loop-byte l =
    (fold with_digit l.number (drop l.byte-index l.text) ≡ fold with_digit 0 l.text)
    × (l.number ≤ bound_at l.byte-index)
    × (l.byte-index ≤ 6)
