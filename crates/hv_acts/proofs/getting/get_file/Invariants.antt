use Rattle.hv_history.specs.Legal.{profile}
use Rattle.hv_acts.proofs.getting.get_file.Given as goal

abbrev pub ghost-get : goal.ghost-get
ghost-get g a = profile
