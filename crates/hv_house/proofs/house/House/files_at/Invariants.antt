use Rattle.hv_house.proofs.house.House.files_at.Given as goal

abbrev pub ghost-places : goal.ghost-places
ghost-places g a = g.limits
