use Rattle.std.proofs.Common.{◌≡◌, drop}
use Rattle.std.specs.List.{list_any}
use Rattle.hv_history.specs.Shown.{is_exclusive_on}
use Rattle.hv_showing.proofs.locks.is_exclusive.Given as goal

abbrev pub invariant-loop-lock : goal.invariant-loop-lock
invariant-loop-lock l = list_any (is_exclusive_on l.name) (drop l.lock-index l.locks) ≡ list_any (is_exclusive_on l.name) l.locks
