use Rattle.hv_history.specs.Legal.{profile}
use Rattle.hv_acts.proofs.finding.find_table.Given as goal

abbrev pub ghost-find : goal.ghost-find
ghost-find g a = profile
