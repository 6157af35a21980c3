use Rattle.hv_house.proofs.house.House.publish.Given as goal

abbrev pub ghost-publish_in_room : goal.ghost-publish_in_room
ghost-publish_in_room g a = g.limits
