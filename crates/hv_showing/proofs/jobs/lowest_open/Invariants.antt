use Rattle.std.proofs.Common.{◌≡◌, ◌+◌, drop}
use Rattle.hv_history.specs.Standing.{first_open}
use Rattle.hv_showing.specs.Fronts.{transactions_then}
use Rattle.hv_showing.proofs.jobs.lowest_open.Given as goal

abbrev pub invariant-loop-i : goal.invariant-loop-i
invariant-loop-i l =
    first_open (l.i + 1) (drop l.i (transactions_then l.book.entries l.front.position))
    ≡ first_open 1 (transactions_then l.book.entries l.front.position)
