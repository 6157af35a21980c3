use Rattle.hv_house.proofs.house.House.drop_table.Given as goal

abbrev pub ghost-note_last : goal.ghost-note_last
ghost-note_last g a = g.limits
