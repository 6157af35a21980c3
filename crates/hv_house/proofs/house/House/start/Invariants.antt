use Rattle.hv_house.proofs.house.House.start.Given as goal

abbrev pub ghost-note_start : goal.ghost-note_start
ghost-note_start g a = g.limits
