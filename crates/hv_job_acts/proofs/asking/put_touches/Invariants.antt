use Rattle.std.proofs.Common.{◌≡◌, ◌++◌, drop}
use Rattle.std.specs.List.{flat_map}
use Rattle.hv_job_acts.specs.Work.{touched_in}
use Rattle.hv_job_acts.proofs.asking.put_touches.Given as goal

abbrev pub invariant-loop-touch : goal.invariant-loop-touch
invariant-loop-touch l =
    l.texts.items ++ flat_map (touched_in l.table) (drop l.touch-index l.wrote) ≡ l.fn.texts.items ++ flat_map (touched_in l.table) l.wrote
