use Rattle.hv_history.specs.Legal.{profile}
use Rattle.hv_acts.proofs.starting.holder.Given as goal

abbrev pub ghost-check : goal.ghost-check
ghost-check g a = profile

abbrev pub ghost-fits : goal.ghost-fits
ghost-fits g a = profile
