use Rattle.hv_house.proofs.house.House.take_away.Given as goal

abbrev pub ghost-take_in_room : goal.ghost-take_in_room
ghost-take_in_room g a = g.limits
