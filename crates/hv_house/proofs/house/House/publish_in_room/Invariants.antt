use Rattle.hv_house.proofs.house.House.publish_in_room.Given as goal

abbrev pub ghost-tell : goal.ghost-tell
ghost-tell g a = g.limits
