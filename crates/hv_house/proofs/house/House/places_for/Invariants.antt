use Rattle.hv_house.proofs.house.House.places_for.Given as goal

abbrev pub ghost-places : goal.ghost-places
ghost-places g a = g.limits
