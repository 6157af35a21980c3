use Rattle.hv_house.proofs.house.House.write_id.Given as goal

abbrev pub ghost-give : goal.ghost-give
ghost-give g a = g.limits
