use Rattle.hv_house.proofs.house.House.tell.Given as goal

abbrev pub ghost-note : goal.ghost-note
ghost-note g a = g.limits
