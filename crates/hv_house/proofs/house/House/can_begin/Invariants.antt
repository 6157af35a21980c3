use Rattle.hv_house.proofs.house.House.can_begin.Given as goal

abbrev pub ghost-check : goal.ghost-check
ghost-check g a = g.limits
