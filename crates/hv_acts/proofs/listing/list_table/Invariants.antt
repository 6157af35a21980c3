use Rattle.hv_history.specs.Legal.{profile}
use Rattle.hv_acts.proofs.listing.list_table.Given as goal

abbrev pub ghost-list : goal.ghost-list
ghost-list g a = profile
