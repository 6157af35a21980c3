use Rattle.std.proofs.Common.{◌≡◌, None, drop, fold}
use Rattle.hv_history.specs.State.{state_of}
use Rattle.hv_history.specs.Thresholds.{set_in}
use Rattle.hv_queue.specs.Settings.{key_of, reads_of}
use Rattle.hv_queue.proofs.settings.last_set.Given as goal

abbrev pub invariant-loop-i : goal.invariant-loop-i
invariant-loop-i l =
    fold (set_in l.opening (key_of l.is_percent) (reads_of l.is_percent)) l.found (drop l.i (state_of l.book.entries).transactions)
    ≡ fold (set_in l.opening (key_of l.is_percent) (reads_of l.is_percent)) None (state_of l.book.entries).transactions
