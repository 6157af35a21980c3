use Rattle.hv_job_calls.proofs.Forgets.{NoneOwn}
use Rattle.hv_job_calls.proofs.forgetting.first_own.Given as goal

abbrev pub invariant-loop-place : goal.invariant-loop-place
invariant-loop-place l = NoneOwn l.write.0 l.places l.place-index
