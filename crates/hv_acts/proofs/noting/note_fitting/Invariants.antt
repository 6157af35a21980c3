use Rattle.hv_history.specs.Legal.{profile}
use Rattle.hv_acts.proofs.noting.note_fitting.Given as goal

abbrev pub ghost-fits : goal.ghost-fits
ghost-fits g a = profile
