use Rattle.std.proofs.Common.{◌≡◌, drop}
use Rattle.std.specs.Prelude.{find}
use Rattle.hv_jobs.specs.hv_history.specs.Jobs.{is_touch_of}
use Rattle.hv_tallies.proofs.events.touch_of.Given as goal

abbrev pub invariant-loop-touch : goal.invariant-loop-touch
invariant-loop-touch l = find (is_touch_of l.table l.partition) (drop l.touch-index l.wrote) ≡ find (is_touch_of l.table l.partition) l.wrote
