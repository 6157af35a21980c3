use Rattle.hv_history.specs.Legal.{profile}
use Rattle.hv_telling.proofs.jobs.put_staged.Given as goal

abbrev pub ghost-put_bytes : goal.ghost-put_bytes
ghost-put_bytes g a = profile
