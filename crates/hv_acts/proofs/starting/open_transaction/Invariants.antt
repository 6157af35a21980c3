use Rattle.hv_history.specs.Legal.{profile}
use Rattle.hv_acts.proofs.starting.open_transaction.Given as goal

abbrev pub ghost-fits : goal.ghost-fits
ghost-fits g a = profile
