use Rattle.std.proofs.Common.{◌≡◌, ◌++◌, map}
use Rattle.hv_job_acts.specs.Work.{part_at}
use Rattle.hv_job_acts.proofs.asking.put_texts.Given as goal

abbrev pub invariant-loop-partition : goal.invariant-loop-partition
invariant-loop-partition l = l.parts.items ≡ l.fn.parts.items ++ map (part_at l.table) l.yielded
