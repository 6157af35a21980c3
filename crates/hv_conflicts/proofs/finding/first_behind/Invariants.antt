use Rattle.std.proofs.Common.{◌≡◌, drop}
use Rattle.hv_conflicts.specs.Clashes.{clash_behind, first_some}
use Rattle.hv_conflicts.proofs.finding.first_behind.Given as goal

abbrev pub invariant-loop-i : goal.invariant-loop-i
invariant-loop-i l = l.first ≡ first_some (clash_behind l.book.entries l.place l.wrote) (drop l.i l.places)
