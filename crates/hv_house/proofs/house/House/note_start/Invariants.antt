use Rattle.hv_house.proofs.house.House.note_start.Given as goal

abbrev pub ghost-note_entry : goal.ghost-note_entry
ghost-note_entry g a = g.limits
