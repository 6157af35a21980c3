use Rattle.std.proofs.Common.{◌≡◌, ◌*◌, ◌≤◌, drop}
use Rattle.hv_counts.specs.Tallies.{first_off}
use Rattle.hv_counts.proofs.level.first_off.Given as goal

abbrev pub invariant-loop-i : goal.invariant-loop-i
invariant-loop-i l =
    (first_off l.stored l.due (drop l.i l.tallies) ≡ first_off 0 0 l.tallies) × (l.stored ≤ l.i * 18446744073709551615) × (l.due ≤ l.i * 18446744073709551615)
