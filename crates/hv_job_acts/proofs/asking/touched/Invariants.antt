use Rattle.std.proofs.Common.{◌≡◌, ◌++◌, drop}
use Rattle.std.specs.List.{flat_map}
use Rattle.hv_job_acts.specs.Work.{touched_by}
use Rattle.hv_job_acts.proofs.asking.touched.Given as goal

abbrev pub invariant-loop-entry : goal.invariant-loop-entry
invariant-loop-entry l = l.texts.items ++ flat_map (touched_by l.table) (drop l.entry-index l.entries) ≡ flat_map (touched_by l.table) l.entries
