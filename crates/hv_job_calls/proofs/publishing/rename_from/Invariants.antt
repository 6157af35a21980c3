use Rattle.std.proofs.Common.{◌≡◌, map, take}
use Rattle.hv_job_calls.specs.Staging.{renamed}
use Rattle.hv_job_calls.proofs.publishing.rename_from.Given as goal

abbrev pub invariant-loop-dir : goal.invariant-loop-dir
invariant-loop-dir l = l.renamings.items ≡ map (renamed l.job.0) (take l.dir-index l.dirs)
